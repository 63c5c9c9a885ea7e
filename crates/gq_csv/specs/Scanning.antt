-- What is found in a text, whatever bytes follow it.
use Rattle.std.specs.Prelude.{◌≡◌, ℕ, ◌≤◌, ◌<◌, List, [], ◌++◌, length, drop, Option, Some, true}
use Rattle.csv.specs.Machine.{next_record}
use Rattle.csv.specs.Reading.{default_config}
use Rattle.csv.specs.declared.parser.State.{State}
use Rattle.csv.specs.declared.parser.State.TheVariants as st
use Rattle.gq_csv.specs.declared.span.FieldSpan.{FieldSpan}
use Rattle.gq_csv.specs.declared.scan.Scan.{Scan}
use Rattle.gq_csv.specs.declared.scan.Scan.TheVariants as scan
use Rattle.gq_csv.specs.Fields.{AreWithin, fields_in}
use Rattle.gq_csv.specs.Reads.{Reads, SameRecords}

-- a text that begins with a field begins with a record of these fields, before the other bytes
abbrev pub BeginsWith : List ℕ → List (List ℕ) → List ℕ → Type 0
BeginsWith text fields others = (after : State) × (next_record default_config st.StartField [] [] text ≡ Some (fields, after, others))

-- what a scan of a text found at its start
abbrev pub Scanned : List ℕ → List FieldSpan → Scan → Type 0
Scanned text spans (scan.Record len) = (0 < len) × (len ≤ length text) × AreWithin len spans
    × ((more : List ℕ) → BeginsWith (text ++ more) (fields_in text spans) (drop len text ++ more))
Scanned text spans scan.Quoted = Unit {0}
Scanned text spans scan.Cut = Unit {0}

-- what a scan of the bytes that are read ahead took
abbrev pub Found : Option (List ℕ) → Option (List ℕ) → List ℕ → List FieldSpan → Scan → Type 0
Found before after taken spans (scan.Record len) = Reads before after true (fields_in taken spans) × AreWithin (length taken) spans
Found before after taken spans scan.Quoted = SameRecords before after
Found before after taken spans scan.Cut = SameRecords before after

-- the length of the record that a scan found at a text's start, or 0
abbrev pub len_of : Scan → ℕ
len_of (scan.Record len) = len
len_of scan.Quoted = 0
len_of scan.Cut = 0
