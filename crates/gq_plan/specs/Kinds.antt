-- Which kinds are compatible.
use Rattle.std.specs.Prelude.{ℕ, Bool, true, false, not, List, ◌++◌, map, slice_get, Option, Some, None}
use Rattle.std.specs.List.{list_all}
use Rattle.std.specs.Cmp.Lexicographic.{pointwise}
use Rattle.gq_row.specs.declared.value.Value.{Value}
use Rattle.gq_row.specs.declared.value.Value.TheVariants as value
use Rattle.gq_row.specs.declared.schema.Column.{Column as TableColumn}
use Rattle.gq_row.specs.declared.schema.Kind.{Kind}
use Rattle.gq_row.specs.declared.schema.Kind.TheVariants.{Int, Text, NoCase}
use Rattle.gq_agg.specs.declared.kind.AggKind.TheVariants.{CountAll, Count, Sum, Min, Max}
use Rattle.gq_select.specs.declared.output_column.OutputColumn.{OutputColumn}
use Rattle.gq_select.specs.declared.output_column.OutputColumn.TheVariants.{Aggregate, CountDistinct}
use Rattle.gq_select.specs.Asking.{kind_at}
use Rattle.gq_select.specs.declared.condition.Operand.{Operand}
use Rattle.gq_select.specs.declared.condition.Operand.TheVariants.{Column, Literal}
use Rattle.gq_select.specs.declared.condition.Test.{Test}
use Rattle.gq_select.specs.declared.condition.Test.TheVariants.{Compare, IsNull, IsNotNull}
use Rattle.gq_select.specs.declared.matching.Matching.{Matching}

abbrev pub same_kind : Kind → Kind → Bool
same_kind Int Int = true
same_kind Int Text = false
same_kind Int NoCase = false
same_kind Text Int = false
same_kind Text Text = true
same_kind Text NoCase = false
same_kind NoCase Int = false
same_kind NoCase Text = false
same_kind NoCase NoCase = true

-- whether a kind is that of texts, with case or without
abbrev pub is_text : Kind → Bool
is_text Int = false
is_text Text = true
is_text NoCase = true

-- whether two kinds are compatible: numbers with numbers, and texts with texts, with case or without
abbrev pub goes_with : Kind → Kind → Bool
goes_with Int b = not (is_text b)
goes_with Text b = is_text b
goes_with NoCase b = is_text b

-- the kind of a value; null has none
abbrev pub kind_of : Value → Option Kind
kind_of value.Null = None
kind_of (value.Int n) = Some Int
kind_of (value.Text t) = Some Text
kind_of (value.NoCase t) = Some NoCase

-- the kind of an operand in rows whose values have these kinds
abbrev pub operand_kind : List Kind → Operand → Option Kind
operand_kind kinds (Column place) = slice_get kinds place
operand_kind kinds (Literal v) = kind_of v

-- whether two operands have compatible kinds: one without a kind is compatible with both
abbrev pub agrees : Option Kind → Option Kind → Bool
agrees None b = true
agrees (Some a) None = true
agrees (Some a) (Some b) = goes_with a b

-- whether the operands of a test have compatible kinds
abbrev pub test_fits : List Kind → Test → Bool
test_fits kinds (Compare a comparison b) = agrees (operand_kind kinds a) (operand_kind kinds b)
test_fits kinds (IsNull a) = true
test_fits kinds (IsNotNull a) = true

abbrev pub tests_fit : List Kind → List Test → Bool
tests_fit kinds tests = list_all (test_fits kinds) tests

-- the kinds of a row of the table
abbrev pub kinds_of : List TableColumn → List Kind
kinds_of columns = map (λ (c : TableColumn). c.kind) columns

-- the kind of a shown column: a minimum and a maximum have their column's kind, counts and sums are numbers
abbrev pub shown_kind : List TableColumn → OutputColumn → Kind
shown_kind columns (Aggregate CountAll column) = Int
shown_kind columns (Aggregate Count column) = Int
shown_kind columns (Aggregate Sum column) = Int
shown_kind columns (Aggregate Min column) = kind_at columns column
shown_kind columns (Aggregate Max column) = kind_at columns column
shown_kind columns (CountDistinct column) = Int

-- the kinds of a result row: those of the `by` columns, and then those of the shown columns
abbrev pub result_kinds : List TableColumn → List ℕ → List OutputColumn → List Kind
result_kinds columns by shown = map (kind_at columns) by ++ map (shown_kind columns) shown

-- whether the columns of an `exists` have the same kinds, pair by pair
abbrev pub matching_fits : List TableColumn → List TableColumn → Option Matching → Bool
matching_fits columns others None = true
matching_fits columns others (Some m) = pointwise same_kind (map (kind_at others) m.theirs) (map (kind_at columns) m.ours)
