-- Fields that need no quotes, and records.
use Rattle.std.specs.Prelude.{◌==◌, ◌&&◌, ◌∷◌, ◌++◌, not, ℕ, Bool, List, [], if◌then◌else◌, length, map, flat_map}
use Rattle.csv.specs.Machine.{line_feed}
use Rattle.csv.specs.Writing.{default_writer, needs_quotes, quote_mark}
use Rattle.gq_row.specs.declared.value.Value.{Value}
use Rattle.gq_reply.specs.Replies.{cell_text, record_text}

-- whether a field has bytes, and none of them needs quotes
abbrev pub is_plain : List ℕ → Bool
is_plain field = not (length field == 0) && not (needs_quotes default_writer field)

-- the record of a row
abbrev pub row_record : List Value → List ℕ
row_record row = record_text (map cell_text row)

-- the records of rows, one after the other
abbrev pub records : List (List Value) → List ℕ
records rows = flat_map row_record rows

-- how a record ends: with LF, after two quotes if it shows no byte
abbrev pub ending : Bool → List ℕ
ending blank = (if blank then quote_mark ∷ quote_mark ∷ [] else []) ++ line_feed ∷ []
