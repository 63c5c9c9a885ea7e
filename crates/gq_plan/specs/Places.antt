-- Names in a command, as positions in rows.
use Rattle.std.specs.Prelude.{◌+◌, Bool, true, false, List, length, map, position, bytes_eq, Option, Some, None, option_map, option_and_then}
use Rattle.gq_row.specs.declared.schema.Column.{Column as TableColumn}
use Rattle.gq_row.specs.Schemas.{position_of}
use Rattle.gq_agg.specs.declared.kind.AggKind.TheVariants as kind
use Rattle.gq_select.specs.declared.output_column.OutputColumn.{OutputColumn}
use Rattle.gq_select.specs.declared.output_column.OutputColumn.TheVariants as shown
use Rattle.gq_select.specs.Asking.{all_of}
use Rattle.gq_select.specs.declared.condition.Operand.{Operand}
use Rattle.gq_select.specs.declared.condition.Operand.TheVariants.{Column, Literal}
use Rattle.gq_select.specs.declared.condition.Test.{Test}
use Rattle.gq_select.specs.declared.condition.Test.TheVariants.{Compare, IsNull, IsNotNull}
use Rattle.gq_command.specs.Commands.{Bytes}
use Rattle.gq_clause.specs.declared.aggregate.Aggregate.{Aggregate}
use Rattle.gq_clause.specs.declared.aggregate.Aggregate.TheVariants.{CountAll, Count, CountDistinct, Sum, Min, Max}
use Rattle.gq_clause.specs.declared.condition.Operand.{Operand as NamedOperand}
use Rattle.gq_clause.specs.declared.condition.Operand.TheVariants as named
use Rattle.gq_clause.specs.declared.condition.Test.{Test as NamedTest}
use Rattle.gq_clause.specs.declared.condition.Test.TheVariants as test

-- an aggregate with the position of its column; none if its name isn't a column's
abbrev pub shown_of : List TableColumn → Aggregate → Option OutputColumn
shown_of columns CountAll = Some (shown.Aggregate kind.CountAll 0)
shown_of columns (Count name) = option_map (shown.Aggregate kind.Count) (position_of columns name)
shown_of columns (CountDistinct name) = option_map shown.CountDistinct (position_of columns name)
shown_of columns (Sum name) = option_map (shown.Aggregate kind.Sum) (position_of columns name)
shown_of columns (Min name) = option_map (shown.Aggregate kind.Min) (position_of columns name)
shown_of columns (Max name) = option_map (shown.Aggregate kind.Max) (position_of columns name)

-- several aggregates, or none if a name of one isn't a column's
abbrev pub all_shown : List TableColumn → List Aggregate → Option (List OutputColumn)
all_shown columns aggregates = all_of (map (shown_of columns) aggregates)

-- whether two aggregates are the same: of one kind, and over columns of one name; each kind has two cases, so that a new one can't be left out
abbrev pub same_aggregate : Aggregate → Aggregate → Bool
same_aggregate CountAll CountAll = true
same_aggregate CountAll other = false
same_aggregate (Count a) (Count b) = bytes_eq a b
same_aggregate (Count a) other = false
same_aggregate (CountDistinct a) (CountDistinct b) = bytes_eq a b
same_aggregate (CountDistinct a) other = false
same_aggregate (Sum a) (Sum b) = bytes_eq a b
same_aggregate (Sum a) other = false
same_aggregate (Min a) (Min b) = bytes_eq a b
same_aggregate (Min a) other = false
same_aggregate (Max a) (Max b) = bytes_eq a b
same_aggregate (Max a) other = false

-- the position of an operand in a row of the table; none for a name that isn't a column's, and for an aggregate
abbrev pub in_row : List TableColumn → NamedOperand → Option Operand
in_row columns (named.Column name) = option_map Column (position_of columns name)
in_row columns (named.Literal value) = Some (Literal value)
in_row columns (named.Aggregate aggregate) = None

-- the position of an operand in a result row, which has the values of the `by` columns and then the shown ones; none for a name that isn't after `by`, and for an aggregate that isn't shown; of equal ones the first counts
abbrev pub in_result : List Bytes → List Aggregate → NamedOperand → Option Operand
in_result by aggregates (named.Column name) = option_map Column (position (λ other. bytes_eq other name) by)
in_result by aggregates (named.Literal value) = Some (Literal value)
in_result by aggregates (named.Aggregate aggregate) = option_map (λ place. Column (length by + place)) (position (λ other. same_aggregate other aggregate) aggregates)

-- a test with the positions of its operands; none if an operand has none
abbrev pub placed : (NamedOperand → Option Operand) → NamedTest → Option Test
placed place (test.Compare a comparison b) = option_and_then (λ left. option_map (λ right. Compare left comparison right) (place b)) (place a)
placed place (test.IsNull a) = option_map IsNull (place a)
placed place (test.IsNotNull a) = option_map IsNotNull (place a)

-- several tests, or none if an operand has no position
abbrev pub all_placed : (NamedOperand → Option Operand) → List NamedTest → Option (List Test)
all_placed place tests = all_of (map (placed place) tests)
