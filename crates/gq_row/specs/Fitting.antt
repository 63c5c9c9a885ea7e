-- Which values columns admit.
use Rattle.std.specs.Prelude.{◌&&◌, ℕ, Bool, true, false, List, [], ◌∷◌}
use Rattle.std.specs.List.{list_any}
use Rattle.gq_row.specs.declared.value.Value.{Value}
use Rattle.gq_row.specs.declared.value.Value.TheVariants.{Null, Int, Text, NoCase}
use Rattle.gq_row.specs.declared.schema.Kind.{Kind}
use Rattle.gq_row.specs.declared.schema.Kind.TheVariants as kind
use Rattle.gq_row.specs.declared.schema.Column.{Column}
use Rattle.gq_row.specs.Folding.{without_case}
use Rattle.gq_row.specs.Rows.{cell}

-- a column admits a value: null, or one of its kind
abbrev pub goes_in : Kind → Value → Bool
goes_in k Null = true
goes_in kind.Int (Int n) = true
goes_in kind.Text (Int n) = false
goes_in kind.NoCase (Int n) = false
goes_in kind.Int (Text t) = false
goes_in kind.Text (Text t) = true
goes_in kind.NoCase (Text t) = false
goes_in kind.Int (NoCase t) = false
goes_in kind.Text (NoCase t) = false
goes_in kind.NoCase (NoCase t) = true

-- the value that a column stores: a text becomes one without case in a column of such texts, and any other
-- value is unchanged
abbrev pub stored : Kind → Value → Value
stored kind.Int v = v
stored kind.Text v = v
stored kind.NoCase v = without_case v

-- the values of a row as their columns store them
abbrev pub stored_in : List Column → List Value → List Value
stored_in [] row = row
stored_in (c ∷ cs) [] = []
stored_in (c ∷ cs) (v ∷ vs) = stored c.kind v ∷ stored_in cs vs

-- a row fits columns: it has as many values, and each column admits its value
abbrev pub fits_columns : List Column → List Value → Bool
fits_columns [] [] = true
fits_columns [] (v ∷ vs) = false
fits_columns (c ∷ cs) [] = false
fits_columns (c ∷ cs) (v ∷ vs) = goes_in c.kind v && fits_columns cs vs

-- a value is null
abbrev pub is_null : Value → Bool
is_null Null = true
is_null (Int n) = false
is_null (Text t) = false
is_null (NoCase t) = false

-- a row has null in one of the given columns
abbrev pub has_null : List ℕ → List Value → Bool
has_null columns row = list_any (λ column. is_null (cell row column)) columns
