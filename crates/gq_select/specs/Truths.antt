-- The truth of conditions, as SQL has it.
use Rattle.std.specs.Prelude.{◌||◌, ◌++◌, ◌∷◌, [], ℕ, Bool, true, false, not, List, map, if◌then◌else◌, Option, Some, None}
use Rattle.std.specs.List.{flat_map, list_any}
use Rattle.gq_row.specs.declared.value.Value.{Value}
use Rattle.gq_row.specs.declared.comparison.Comparison.{Comparison}
use Rattle.gq_row.specs.Comparisons.{passes}
use Rattle.gq_row.specs.Fitting.{is_null}
use Rattle.gq_row.specs.Order.{condition_order}
use Rattle.gq_row.specs.Rows.{cell}
use Rattle.gq_select.specs.declared.condition.Operand.{Operand}
use Rattle.gq_select.specs.declared.condition.Operand.TheVariants.{Column, Literal}
use Rattle.gq_select.specs.declared.condition.Test.{Test}
use Rattle.gq_select.specs.declared.condition.Test.TheVariants.{Compare, IsNull, IsNotNull}
use Rattle.gq_select.specs.declared.truth.Truth.{Truth}
use Rattle.gq_select.specs.declared.truth.Truth.TheVariants.{True, False, Unknown}

-- the truth of what is never unknown
abbrev pub decided : Bool → Truth
decided true = True
decided false = False

-- a truth is true, is false, is unknown
abbrev pub is_true : Truth → Bool
is_true True = true
is_true False = false
is_true Unknown = false

abbrev pub is_false : Truth → Bool
is_false True = false
is_false False = true
is_false Unknown = false

abbrev pub is_unknown : Truth → Bool
is_unknown True = false
is_unknown False = false
is_unknown Unknown = true

-- an operand's value in a row
abbrev pub value_of : Operand → List Value → Value
value_of (Column column) row = cell row column
value_of (Literal v) row = v

-- the truth of a comparison: unknown if a compared value is null, and else as their order in a condition
-- decides
abbrev pub compared : Comparison → Value → Value → Truth
compared comparison a b = if is_null a || is_null b then Unknown else decided (passes comparison (condition_order a b))

-- the truth of a test in a row; `is null` is never unknown
abbrev pub truth_of : Test → List Value → Truth
truth_of (Compare a comparison b) row = compared comparison (value_of a row) (value_of b row)
truth_of (IsNull a) row = decided (is_null (value_of a row))
truth_of (IsNotNull a) row = decided (not (is_null (value_of a row)))

-- the columns whose values an operand, a test, and tests read
abbrev pub operand_columns : Operand → List ℕ
operand_columns (Column column) = column ∷ []
operand_columns (Literal v) = []

abbrev pub test_columns : Test → List ℕ
test_columns (Compare a comparison b) = operand_columns a ++ operand_columns b
test_columns (IsNull a) = operand_columns a
test_columns (IsNotNull a) = operand_columns a

abbrev pub columns_of : List Test → List ℕ
columns_of tests = flat_map test_columns tests

-- the `and` of several truths: false if one is false, else unknown if one is unknown, else true
abbrev pub all_of : List Truth → Truth
all_of truths = if list_any is_false truths then False else (if list_any is_unknown truths then Unknown else True)

-- the truth of a condition in a row
abbrev pub truth : List Test → List Value → Truth
truth tests row = all_of (map (λ test. truth_of test row) tests)

-- a test is true in a row
abbrev pub is_true_in : List Value → Test → Bool
is_true_in row test = is_true (truth_of test row)

-- a condition keeps a row: it is true in the row
abbrev pub keeps : List Test → List Value → Bool
keeps tests row = is_true (truth tests row)

-- a value that isn't null, or none
abbrev pub known : Value → Option Value
known v = if is_null v then None else Some v
