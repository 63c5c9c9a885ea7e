-- Runs as their writers see them.
use Rattle.std.specs.Prelude.{◌≡◌, ◌+◌, ℕ, All, List, length, Option, Some, None}
use Rattle.gq_row.specs.declared.value.Value.{Value}
use Rattle.gq_record.specs.Records.{IsStorable, record_of, records_of}
use Rattle.gq_spill.specs.Runs.{Runs}
use Rattle.gq_spill.specs.declared.run_mark.RunMark.{RunMark}
use Rattle.gq_spill.specs.declared.spill_refusal.SpillRefusal.{SpillRefusal}

-- a writer: its run, how many bytes and rows it wrote, and the error that is returned from now on, if there was
-- one
pub record Writing : Type 0 where
  pub mark : RunMark
  pub refused : Option SpillRefusal

-- a writer that has written nothing yet
abbrev pub begun : ℕ → Writing
begun run = record { mark = record { id = record { number = run }; bytes = 0; records = 0 }; refused = None }

-- a writer that has written one more row
abbrev pub with_row : Writing → List Value → Writing
with_row w row = record { mark = record { id = w.mark.id; bytes = w.mark.bytes + length (record_of row); records = w.mark.records + 1 }; refused = w.refused }

-- a writer that returns an error from now on
abbrev pub refusing : Writing → SpillRefusal → Writing
refusing w why = record { mark = w.mark; refused = Some why }

-- rows were written: the run has their records and nothing else, and no error was returned
pub record Wrote (w : Writing) (runs : Runs) (rows : List (List Value)) : Type 0 where
  pub content : runs.content w.mark.id.number ≡ Some (records_of rows)
  pub count_bytes : w.mark.bytes ≡ length (records_of rows)
  pub count_rows : w.mark.records ≡ length rows
  pub storable : All IsStorable rows
  pub going : w.refused ≡ None
