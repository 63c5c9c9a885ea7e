-- The columns of a table, by the files that it is made from. A file is its bytes.
use Rattle.std.specs.Prelude.{ℕ, Bool, false, ◌==◌, ◌≡◌, ◌⊎◌, ◌&&◌, not, nat_lt, List, [], ◌∷◌, length, map, bytes_eq, Option, Some, None, if◌then◌else◌}
use Rattle.std.specs.List.{list_all, list_any, filter_map, flat_map, position_or_len}
use Rattle.std.specs.Str.{is_utf8}
use Rattle.csv.specs.Reading.{records, default_config, strip_bom}
use Rattle.csv.specs.Records.{field_at}
use Rattle.gq_row.specs.declared.limits.Bounds.{Bounds}
use Rattle.gq_row.specs.declared.schema.Column.{Column}
use Rattle.gq_row.specs.Repeats.{no_repeats}
use Rattle.gq_infer.specs.declared.fault.InferFault.{InferFault}
use Rattle.gq_infer.specs.declared.fault.InferFault.TheVariants.{Header, Limit, Memory, Read}
use Rattle.gq_infer.specs.declared.seen.Seen.{Seen}
use Rattle.gq_infer.specs.Kinds.{kind_of, seen_in}

-- a file's records, of which the first is its header
abbrev pub records_of : List ℕ → List (List (List ℕ))
records_of file = records default_config (strip_bom file)

-- the first of records
abbrev pub first_record : List (List (List ℕ)) → List (List ℕ)
first_record [] = []
first_record (header ∷ others) = header

-- the names in a file's header
abbrev pub names_in : List ℕ → List (List ℕ)
names_in file = first_record (records_of file)

-- the place of a name in a header, or the header's length
abbrev pub place_of : List (List ℕ) → List ℕ → ℕ
place_of header name = position_or_len (λ field. bytes_eq field name) header

-- the fields at a place, of the records that have one there
abbrev pub fields_at : ℕ → List (List (List ℕ)) → List (List ℕ)
fields_at place rows = filter_map (λ fields. field_at fields place) rows

-- the fields under a name, where the first record is the header
abbrev pub fields_below : List ℕ → List (List (List ℕ)) → List (List ℕ)
fields_below name [] = []
fields_below name (header ∷ others) = fields_at (place_of header name) others

-- the fields of the column of a name in files
abbrev pub fields_under : List (List ℕ) → List ℕ → List (List ℕ)
fields_under files name = flat_map (λ file. fields_below name (records_of file)) files

-- the columns of a table of files: the names of the first one's header, and the kinds of the fields in all of them
abbrev pub table_columns : List ℕ → List (List ℕ) → List Column
table_columns first others = map (λ name. record { name = name; kind = kind_of (fields_under (first ∷ others) name) }) (names_in first)

-- what files say of their columns: the first one's names, and what the fields of each column are
pub record Inferred : Type 0 where
  pub names : List (List ℕ)
  pub seen : List Seen

unfoldable pub inferred : List ℕ → List (List ℕ) → Inferred
inferred first others = record { names = names_in first; seen = map (λ name. seen_in (fields_under (first ∷ others) name)) (names_in first) }

-- whether texts can be names of columns: one at least, each filled, and no two the same
abbrev pub can_name : List (List ℕ) → Bool
can_name names = not (length names == 0) && (list_all (λ name. not (length name == 0)) names && no_repeats bytes_eq names)

-- whether a header's fields are names of columns
abbrev pub are_names : List (List ℕ) → Bool
are_names names = list_all is_utf8 names && can_name names

-- an error that says nothing of a file's bytes: an allocation or a read failed
abbrev pub IsFailure : InferFault → Type 0
IsFailure why = (why ≡ Memory) ⊎ (why ≡ Read)

-- the fault of a header's names, if there is one
unfoldable pub names_fault : Bounds → List (List ℕ) → Option InferFault
names_fault bounds names =
    if nat_lt bounds.columns (length names) then Some Limit
    else if not (are_names names) then Some Header
    else if list_any (λ name. nat_lt bounds.name (length name)) names then Some Limit
    else None

-- the fault of a first file's records, if there is one
abbrev pub records_fault : Bounds → List (List (List ℕ)) → Option InferFault
records_fault bounds [] = Some Header
records_fault bounds (header ∷ others) = names_fault bounds header

-- the fault of a first file
abbrev pub header_fault : Bounds → List ℕ → Option InferFault
header_fault bounds file = records_fault bounds (records_of file)

-- whether a header names the same columns, in any order
abbrev pub are_same : List (List ℕ) → List (List ℕ) → Bool
are_same names header = (length header == length names) && list_all (λ name. list_any (λ field. bytes_eq field name) header) names

-- whether records begin with a header that does
abbrev pub begin_same : List (List ℕ) → List (List (List ℕ)) → Bool
begin_same names [] = false
begin_same names (header ∷ others) = are_same names header

-- whether a further file names the columns of the first one
abbrev pub same_columns : List (List ℕ) → List ℕ → Bool
same_columns names file = begin_same names (records_of file)
