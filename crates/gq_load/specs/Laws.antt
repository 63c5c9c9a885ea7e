-- What the definitions mean, in the subject's own words.
use Rattle.std.specs.Prelude.{◌≡◌, ◌+◌, ◌<◌, ◌⊎◌, ◌++◌, ◌∷◌, ◌==◌, ℕ, ℤ, Bool, true, false, List, [], length, Ok, Err, IsOk, IsTrue, Some, codes, slice_index_or}
use Rattle.std.specs.List.{list_all}
use Rattle.std.specs.Str.{all_ascii_digits}
use Rattle.std.specs.Str.Parse.{digits_value}
use Rattle.gq_row.specs.declared.schema.Column.{Column}
use Rattle.gq_row.specs.declared.schema.Kind.{Kind}
use Rattle.gq_row.specs.declared.schema.Kind.TheVariants as kind
use Rattle.gq_row.specs.declared.value.Value.{Value}
use Rattle.gq_row.specs.declared.value.Value.TheVariants.{Null, Text, NoCase}
use Rattle.gq_row.specs.Schemas.{PlainSchema, position_of}
use Rattle.gq_row.specs.Rows.{cell}
use Rattle.gq_load.specs.declared.load_refusal.LoadRefusal.{LoadRefusal}
use Rattle.csv.specs.Reading.{records, default_config, strip_bom}
use Rattle.gq_row.specs.declared.limits.Bounds.{Bounds}
use Rattle.gq_load.specs.declared.short_records.Short.TheVariants.{Refused, Completed}
use Rattle.gq_load.specs.Fields.{value_of}
use Rattle.gq_load.specs.Headers.{places_of}
use Rattle.gq_load.specs.Numbers.{int_of, is_filled, is_space, signed}
use Rattle.gq_load.specs.Payloads.{arranged, load, row_of, rows_from}

-- a header that is taken has as many names as the table has columns; each is a column's, and the value of the field under it is in that column
pub record FollowsHeader : Type 0 where
  pub many : (columns : List Column) (names : List (List ℕ)) (places : List ℕ) → places_of columns names ≡ Ok places → length places ≡ length columns
  pub under : (columns : List Column) (names : List (List ℕ)) (places : List ℕ) (values : List Value) (i place : ℕ) → places_of columns names ≡ Ok places → length values ≡ length names → i < length names
      → position_of columns (slice_index_or names i []) ≡ Some place → cell (arranged (length columns) places values) place ≡ slice_index_or values i Null

-- the fault of data records is that of their first faulty one, with its number: the records before it have rows
pub record IsFirstFault (schema : PlainSchema) (longest : ℕ) (places : List ℕ) (number : ℕ) (given : List (List (List ℕ))) (fault : LoadRefusal) : Type 0 where
  pub before : ℕ
  pub within : before < length given
  pub faulty : row_of schema longest places (number + before) (slice_index_or given before []) ≡ Err fault
  pub fine : (i : ℕ) → i < before → IsOk (row_of schema longest places (number + i) (slice_index_or given i []))

-- data records have one row each, in their order, or the first fault
pub record ReadsRecords : Type 0 where
  pub many : (schema : PlainSchema) (longest : ℕ) (places : List ℕ) (number : ℕ) (given : List (List (List ℕ))) (rows : List (List Value))
      → rows_from schema longest places number given ≡ Ok rows → length rows ≡ length given
  pub each : (schema : PlainSchema) (longest : ℕ) (places : List ℕ) (number : ℕ) (given : List (List (List ℕ))) (rows : List (List Value)) (i : ℕ)
      → rows_from schema longest places number given ≡ Ok rows → i < length given
      → row_of schema longest places (number + i) (slice_index_or given i []) ≡ Ok (slice_index_or rows i [])
  pub first : (schema : PlainSchema) (longest : ℕ) (places : List ℕ) (number : ℕ) (given : List (List (List ℕ))) (fault : LoadRefusal)
      → rows_from schema longest places number given ≡ Err fault → IsFirstFault schema longest places number given fault

-- whether each record has as many fields as the first, which is the header
abbrev pub are_even : List (List (List ℕ)) → Bool
are_even [] = true
are_even (names ∷ others) = list_all (λ fields. length fields == length names) others

-- if each record of a payload has as many fields as the header, completing short ones changes nothing
abbrev pub CompletesShortOnly : Type 0
CompletesShortOnly = (schema : PlainSchema) (bounds : Bounds) (bytes : List ℕ) → IsTrue (are_even (records default_config (strip_bom bytes))) → load Completed schema bounds bytes ≡ load Refused schema bounds bytes

-- \N is null in every column; an empty field is null in an INT column, and the empty text in a column of texts, with case or without
pub record ReadsNulls : Type 0 where
  pub marked : (longest number : ℕ) (k : Kind) → value_of longest number k (codes "\\N") ≡ Ok Null
  pub empty_int : (longest number : ℕ) → value_of longest number kind.Int [] ≡ Ok Null
  pub empty_text : (longest number : ℕ) → value_of longest number kind.Text [] ≡ Ok (Text [])
  pub empty_no_case : (longest number : ℕ) → value_of longest number kind.NoCase [] ≡ Ok (NoCase [])

-- digits, or a sign directly before digits
abbrev pub SignBefore : List ℕ → Bool → List ℕ → Type 0
SignBefore piece negative digits = ((piece ≡ digits) × (negative ≡ false)) ⊎ (((piece ≡ 43 ∷ digits) × (negative ≡ false)) ⊎ ((piece ≡ 45 ∷ digits) × (negative ≡ true)))

-- a piece spells a number: an optional sign and one or more digits, and the number fits 64 bits
pub record SpellsNumber (piece : List ℕ) (z : ℤ) : Type 0 where
  pub negative : Bool
  pub digits : List ℕ
  pub sign : SignBefore piece negative digits
  pub filled : is_filled digits ≡ true
  pub all : all_ascii_digits digits ≡ true
  pub value : signed negative (digits_value 10 digits) ≡ Some z

-- a field spells a number: spaces, a piece that does, and spaces
pub record SpellsInt (field : List ℕ) (z : ℤ) : Type 0 where
  pub front : List ℕ
  pub piece : List ℕ
  pub back : List ℕ
  pub cut : field ≡ front ++ (piece ++ back)
  pub before : list_all is_space front ≡ true
  pub number : SpellsNumber piece z
  pub after : list_all is_space back ≡ true

-- a field is read as a number exactly if it spells that number
pub record ReadsInts : Type 0 where
  pub sound : (field : List ℕ) (z : ℤ) → int_of field ≡ Some z → SpellsInt field z
  pub whole : (field : List ℕ) (z : ℤ) → SpellsInt field z → int_of field ≡ Some z
