-- What the definitions imply, in the subject's own words.
use Rattle.std.specs.Prelude.{◌≡◌, ◌&&◌, ◌||◌, ℕ, Bool, true, false, not, All, IsTrue, List, [], ◌∷◌, if◌then◌else◌}
use Rattle.std.specs.List.{list_all}
use Rattle.std.specs.declared.cmp.Ordering.{Ordering}
use Rattle.gq_row.specs.declared.value.Value.{Value}
use Rattle.gq_row.specs.declared.comparison.Comparison.{Comparison}
use Rattle.gq_row.specs.declared.comparison.Comparison.TheVariants.{Equal, NotEqual, Less, LessEqual, Greater, GreaterEqual}
use Rattle.gq_row.specs.Comparisons.{passes}
use Rattle.gq_row.specs.Fitting.{is_null, has_null}
use Rattle.gq_row.specs.Folding.{folded, has_case, without_case}
use Rattle.gq_row.specs.Order.{condition_order, plain_order, equal_value, same_value}
use Rattle.gq_row.specs.Tables.{has_row}
use Rattle.gq_row.specs.Rows.{cell, key_of}
use Rattle.gq_select.specs.declared.condition.Operand.{Operand}
use Rattle.gq_select.specs.declared.condition.Test.{Test}
use Rattle.gq_select.specs.declared.condition.Test.TheVariants.{Compare, IsNull, IsNotNull}
use Rattle.gq_select.specs.declared.truth.Truth.{Truth}
use Rattle.gq_select.specs.declared.truth.Truth.TheVariants.{True, False, Unknown}
use Rattle.gq_select.specs.Matches.{exists}
use Rattle.gq_select.specs.Truths.{is_unknown, decided, value_of, compared, all_of, columns_of, truth, is_true_in, keeps}

-- SQL's table of `and`
abbrev pub both : Truth → Truth → Truth
both True b = b
both Unknown True = Unknown
both Unknown Unknown = Unknown
both Unknown False = False
both False b = False

-- the `and` of several truths is that of two at a time, in any order
pub record AndIsOfTwo : Type 0 where
  pub none : all_of [] ≡ True
  pub more : (first : Truth) (others : List Truth) → all_of (first ∷ others) ≡ both first (all_of others)
  pub either_way : (a b : Truth) → both a b ≡ both b a
  pub grouped : (a b c : Truth) → both (both a b) c ≡ both a (both b c)

-- a test compares no null
abbrev pub compares_values : List Value → Test → Bool
compares_values row (Compare a comparison b) = not (is_null (value_of a row)) && not (is_null (value_of b row))
compares_values row (IsNull a) = true
compares_values row (IsNotNull a) = true

-- a condition that compares no null is true or false
abbrev pub TwoValuedWithoutNull : Type 0
TwoValuedWithoutNull = (tests : List Test) (row : List Value) → IsTrue (list_all (compares_values row) tests) → is_unknown (truth tests row) ≡ false

-- a condition has the same truth in rows with the same values in the columns that its tests read
abbrev pub ReadsItsColumns : Type 0
ReadsItsColumns = (tests : List Test) (row other : List Value) → All (λ column. cell row column ≡ cell other column) (columns_of tests) → truth tests row ≡ truth tests other

-- a row is kept exactly if each test is true; a comparison with null keeps none, whatever it is
pub record KeepsWhatIsTrue : Type 0 where
  pub each : (tests : List Test) (row : List Value) → keeps tests row ≡ list_all (is_true_in row) tests
  pub none_by_null : (a b : Operand) (comparison : Comparison) (row : List Value) → compares_values row (Compare a comparison b) ≡ false → keeps (Compare a comparison b ∷ []) row ≡ false

-- `<>`, `>=` and `>` are the opposites of `=`, `<` and `<=`; `=` is true of equal values if both have case, and
-- if one is a text without case of those that are the same, a text taken as one too
pub record ComparisonsAgree : Type 0 where
  pub equal : (a b : Value) → IsTrue (has_case a) → IsTrue (has_case b) → passes Equal (condition_order a b) ≡ equal_value a b
  pub same : (a b : Value) → (has_case a && has_case b) ≡ false → passes Equal (condition_order a b) ≡ same_value (without_case a) (without_case b)
  pub not_equal : (order : Ordering) → passes NotEqual order ≡ not (passes Equal order)
  pub at_least : (order : Ordering) → passes GreaterEqual order ≡ not (passes Less order)
  pub above : (order : Ordering) → passes Greater order ≡ not (passes LessEqual order)

-- if both values have case, a comparison uses their plain order; if one is a text without case, it compares the
-- folds of both, a text taken as one too
pub record MindsCase : Type 0 where
  pub with_case : (comparison : Comparison) (a b : Value) → IsTrue (has_case a) → IsTrue (has_case b) → compared comparison a b ≡ (if is_null a || is_null b then Unknown else decided (passes comparison (plain_order a b)))
  pub by_folds : (comparison : Comparison) (a b : Value) → (has_case a && has_case b) ≡ false → compared comparison a b ≡ compared comparison (folded (without_case a)) (folded (without_case b))

-- a row with null in its columns has no match, and a row of the others with null in theirs is none; a match of
-- any other row is a row that has its key
pub record NullHasNoMatch : Type 0 where
  pub here : (row : List Value) (columns : List ℕ) (others : List (List Value)) (theirs : List ℕ) → has_null columns row ≡ true → exists row columns others theirs ≡ false
  pub there : (row : List Value) (columns : List ℕ) (other : List Value) (others : List (List Value)) (theirs : List ℕ) → has_null theirs other ≡ true → exists row columns (other ∷ others) theirs ≡ exists row columns others theirs
  pub else_by_key : (row : List Value) (columns : List ℕ) (others : List (List Value)) (theirs : List ℕ) → has_null columns row ≡ false → exists row columns others theirs ≡ has_row theirs others (key_of columns row)
