-- What columns are by records that are read one after the other.
use Rattle.std.specs.Prelude.{ℕ, List, [], ◌∷◌, Option, Some, None}
use Rattle.csv.specs.Records.{field_at}
use Rattle.gq_infer.specs.declared.seen.Seen.{Seen}
use Rattle.gq_infer.specs.Kinds.{kind_seen, with_field}
use Rattle.gq_row.specs.declared.schema.Column.{Column}

-- a column with its field in one more record, which may lack it
abbrev pub with_some : Seen → Option (List ℕ) → Seen
with_some seen None = seen
with_some seen (Some field) = with_field seen field

-- columns with one more record, in which their fields are at these places
abbrev pub with_record : List (List ℕ) → List ℕ → List Seen → List Seen
with_record fields [] seen = seen
with_record fields (place ∷ places) [] = []
with_record fields (place ∷ places) (first ∷ others) = with_some first (field_at fields place) ∷ with_record fields places others

-- columns with more records
abbrev pub with_records : List (List (List ℕ)) → List ℕ → List Seen → List Seen
with_records [] places seen = seen
with_records (fields ∷ others) places seen = with_records others places (with_record fields places seen)

-- columns of names, by what their fields are
abbrev pub columns_of : List (List ℕ) → List Seen → List Column
columns_of [] seen = []
columns_of (name ∷ names) [] = []
columns_of (name ∷ names) (first ∷ others) = record { name = name; kind = kind_seen first } ∷ columns_of names others
