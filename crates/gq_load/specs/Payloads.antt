-- What the records of a payload mean.
use Rattle.std.specs.Prelude.{ℕ, Bool, true, false, ◌+◌, ◌-◌, ◌==◌, nat_lt, List, [], ◌∷◌, ◌++◌, length, map, replicate, Result, Ok, Err, if◌then◌else◌, slice_index_or}
use Rattle.std.specs.List.{range_with_len}
use Rattle.csv.specs.Reading.{records, default_config, strip_bom}
use Rattle.gq_row.specs.declared.schema.Column.{Column}
use Rattle.gq_row.specs.declared.schema.Kind.{Kind}
use Rattle.gq_row.specs.declared.schema.Kind.TheVariants as kind
use Rattle.gq_row.specs.declared.value.Value.{Value}
use Rattle.gq_row.specs.declared.value.Value.TheVariants.{Null}
use Rattle.gq_row.specs.declared.limits.Bounds.{Bounds}
use Rattle.gq_row.specs.Fitting.{has_null}
use Rattle.gq_row.specs.Schemas.{PlainSchema}
use Rattle.gq_load.specs.declared.load_refusal.LoadRefusal.{LoadRefusal}
use Rattle.gq_load.specs.declared.load_refusal.LoadRefusal.TheVariants.{FieldCount, Header, Limit, NullKey}
use Rattle.gq_load.specs.Answers.{◌>>=◌}
use Rattle.gq_load.specs.declared.short_records.Short.{Short}
use Rattle.gq_load.specs.declared.short_records.Short.TheVariants.{Refused, Completed}
use Rattle.gq_load.specs.Fields.{null_field, value_of}
use Rattle.gq_load.specs.Headers.{places_of}

-- the kind of the column at a place
abbrev pub kind_at : List Column → ℕ → Kind
kind_at columns place = slice_index_or (map (λ (column : Column). column.kind) columns) place kind.Int

-- the values of fields, in the payload's order, or the first fault of a field
unfoldable pub values_of : ℕ → ℕ → List Kind → List (List ℕ) → Result (List Value) LoadRefusal
values_of longest number [] fields = Ok []
values_of longest number (kind ∷ kinds) [] = Ok []
values_of longest number (kind ∷ kinds) (field ∷ fields) = do
  value ← value_of longest number kind field
  values ← values_of longest number kinds fields
  Ok (value ∷ values)

-- the value of a column, given the values of the columns at these places
abbrev pub value_in : List ℕ → List Value → ℕ → Value
value_in [] values column = Null
value_in (place ∷ places) [] column = Null
value_in (place ∷ places) (value ∷ values) column = if place == column then value else value_in places values column

-- the values in the order of the table's columns
abbrev pub arranged : ℕ → List ℕ → List Value → List Value
arranged count places values = map (value_in places values) (range_with_len 0 count)

-- the values of a record's fields in that order, or the first fault of a field
unfoldable pub cells_of : ℕ → ℕ → List Column → List ℕ → List (List ℕ) → Result (List Value) LoadRefusal
cells_of longest number columns places fields = do
  values ← values_of longest number (map (kind_at columns) places) fields
  Ok (arranged (length columns) places values)

-- a row, unless a key column of it is null
unfoldable pub keyed : List ℕ → ℕ → List Value → Result (List Value) LoadRefusal
keyed key number row = if has_null key row then Err (NullKey number) else Ok row

-- the row of a data record, or its first fault: the number of its fields, then its fields, then its key
unfoldable pub row_of : PlainSchema → ℕ → List ℕ → ℕ → List (List ℕ) → Result (List Value) LoadRefusal
row_of schema longest places number fields =
    if length fields == length places then (do
      cells ← cells_of longest number schema.columns places fields
      keyed schema.key number cells)
    else Err (FieldCount number)

-- the rows of data records, the first of which has this number, or the fault of the first faulty one
unfoldable pub rows_from : PlainSchema → ℕ → List ℕ → ℕ → List (List (List ℕ)) → Result (List (List Value)) LoadRefusal
rows_from schema longest places number [] = Ok []
rows_from schema longest places number (fields ∷ others) = do
  row ← row_of schema longest places number fields
  rows ← rows_from schema longest places (number + 1) others
  Ok (row ∷ rows)

-- at most the given number of rows
abbrev pub at_most : ℕ → List (List Value) → Result (List (List Value)) LoadRefusal
at_most most rows = if nat_lt most (length rows) then Err Limit else Ok rows

-- the rows of all data records, if there are at most `most`; a fault of a record goes before
unfoldable pub data_rows : PlainSchema → ℕ → ℕ → List ℕ → List (List (List ℕ)) → Result (List (List Value)) LoadRefusal
data_rows schema text most places others = do
  rows ← rows_from schema text places 1 others
  at_most most rows

-- a data record as it is read under a header of the given number of fields: a short one is refused for that, or completed by null fields
abbrev pub completed : Short → ℕ → List (List ℕ) → List (List ℕ)
completed Refused count fields = fields
completed Completed count fields = fields ++ replicate (count - length fields) null_field

-- the rows of records, of which the first is the header
unfoldable pub rows_of : Short → PlainSchema → Bounds → List (List (List ℕ)) → Result (List (List Value)) LoadRefusal
rows_of short schema bounds [] = Err Header
rows_of short schema bounds (names ∷ others) = do
  places ← places_of schema.columns names
  data_rows schema bounds.text bounds.rows places (map (completed short (length places)) others)

-- the rows of a payload, or its first fault
abbrev pub load : Short → PlainSchema → Bounds → List ℕ → Result (List (List Value)) LoadRefusal
load short schema bounds bytes = rows_of short schema bounds (records default_config (strip_bom bytes))

-- rows and one more, if there is room for it
abbrev pub kept : List (List Value) → List Value → Bool → List (List Value)
kept rows row false = rows
kept rows row true = rows ++ row ∷ []
