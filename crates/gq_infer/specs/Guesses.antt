-- Columns that are guessed from the first records of a file.
use Rattle.std.specs.Prelude.{◌≡◌, List, [], ◌∷◌, ◌++◌, ℕ, Bool, true, false, All, IsOk}
use Rattle.gq_row.specs.declared.limits.Bounds.{Bounds}
use Rattle.gq_row.specs.declared.schema.Column.{Column}
use Rattle.gq_load.specs.declared.short_records.Short.{Short}
use Rattle.gq_load.specs.Payloads.{load}
use Rattle.gq_infer.specs.declared.seen.Seen.{Seen}
use Rattle.gq_infer.specs.declared.seen.Seen.TheVariants.{Nulls, Numbers, Texts}
use Rattle.gq_infer.specs.Files.{table_columns}
use Rattle.gq_infer.specs.Scanning.{with_records}

-- a file is accepted by a table of these columns without a key
abbrev pub LoadsUnder : Short → Bounds → List Column → List ℕ → Type 0
LoadsUnder short bounds columns file = IsOk (load short (record { columns = columns; key = [] }) bounds file)

-- columns are those of the table if each of its files is accepted under them
abbrev pub AreRightIfLoaded : List Column → List ℕ → Type 0
AreRightIfLoaded columns first =
    (short : Short) (bounds : Bounds) (others : List (List ℕ)) → All (LoadsUnder short bounds columns) (first ∷ others) → columns ≡ table_columns first others

-- whether fields settle a column's kind, whatever fields follow: a number makes it INT if INT accepts them, a text makes it TEXT
abbrev pub is_settled : Seen → Bool
is_settled Nulls = false
is_settled Numbers = true
is_settled Texts = true

-- columns with some first records
pub record WithFirst (records : List (List (List ℕ))) (places : List ℕ) (was seen : List Seen) : Type 0 where
  pub front : List (List (List ℕ))
  pub rest : List (List (List ℕ))
  pub cut : records ≡ front ++ rest
  pub seen_is : seen ≡ with_records front places was
