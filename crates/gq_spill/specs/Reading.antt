-- Runs as their readers see them.
use Rattle.std.specs.Prelude.{◌≡◌, ◌+◌, ℕ, All, List, [], ◌++◌, length, Option, Some, None}
use Rattle.gq_row.specs.declared.value.Value.{Value}
use Rattle.gq_record.specs.Records.{IsStorable, records_of}
use Rattle.gq_spill.specs.Runs.{Runs}
use Rattle.gq_spill.specs.declared.run_mark.RunMark.{RunMark}
use Rattle.gq_spill.specs.declared.run_tail.RunTail.{RunTail}
use Rattle.gq_spill.specs.declared.spill_refusal.SpillRefusal.{SpillRefusal}

-- a reader: the rest of its run, how many rows it has by its mark, how many columns they have, how many rows
-- were read, and the error that is returned from now on, if there was one
pub record Reading : Type 0 where
  pub tail : RunTail
  pub records : ℕ
  pub columns : ℕ
  pub given : ℕ
  pub refused : Option SpillRefusal

-- a reader that has read nothing yet
abbrev pub opened : RunMark → ℕ → Reading
opened mark columns = record { tail = record { id = mark.id; at = 0; end = mark.bytes; ahead = [] }; records = mark.records; columns = columns; given = 0; refused = None }

-- the unread rest of a run: from the reader's position on it has these bytes, and they begin with those that
-- were read ahead
pub record Unread (tail : RunTail) (runs : Runs) (rest : List ℕ) : Type 0 where
  pub front : List ℕ
  pub behind : List ℕ
  pub content : runs.content tail.id.number ≡ Some (front ++ rest)
  pub place : length front ≡ tail.at
  pub ends : tail.end ≡ tail.at + length rest
  pub begun : rest ≡ tail.ahead ++ behind

-- rows are left: the rest of the run is their records and nothing else, the rows read and these are as many as
-- the mark says, each has the reader's number of columns, and no error was returned
pub record Left (r : Reading) (runs : Runs) (rows : List (List Value)) : Type 0 where
  pub bytes : Unread r.tail runs (records_of rows)
  pub count_rows : r.records ≡ r.given + length rows
  pub storable : All IsStorable rows
  pub widths : All (λ row. length row ≡ r.columns) rows
  pub going : r.refused ≡ None
