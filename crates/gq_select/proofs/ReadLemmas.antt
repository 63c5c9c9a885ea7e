-- The columns that tests read.
use Rattle.std.proofs.Common.{◌≡◌, ◌<◌, ◌+◌, ℕ, suc, List, [], ◌∷◌, ◌++◌, All, not, length, drop, map, refl, sym, ap, ◌∙◌, append_assoc, arith, slice_index_or}
use Rattle.std.proofs.lemmas.List.Elements.{All-cons, All-head, All-nil, All-tail}
use Rattle.std.proofs.Math.Seq.{drop-cons}
use Rattle.gq_row.specs.declared.value.Value.{Value}
use Rattle.gq_row.specs.Fitting.{is_null}
use Rattle.gq_row.specs.Rows.{cell}
use Rattle.gq_select.specs.declared.condition.Operand.{Operand}
use Rattle.gq_select.specs.declared.condition.Operand.TheVariants.{Column, Literal}
use Rattle.gq_select.specs.declared.condition.Test.{Test}
use Rattle.gq_select.specs.declared.condition.Test.TheVariants.{Compare, IsNull, IsNotNull}
use Rattle.gq_select.specs.Truths.{all_of, columns_of, compared, decided, is_true, keeps, operand_columns, test_columns, truth, truth_of, value_of}

-- one test after the other
pub columns_next : (before : List ℕ) (tests : List Test) (test : Test) (i : ℕ) → i < length tests → test ≡ slice_index_or tests i test
    → (before ++ test_columns test) ++ columns_of (drop (i + 1) tests) ≡ before ++ columns_of (drop i tests)
columns_next before tests test i less is =
    let next : i + 1 ≡ suc i = omega arith in
    append_assoc before (test_columns test) (columns_of (drop (i + 1) tests))
    ∙ ap (λ l. before ++ l) ((λ z. test_columns (is z) ++ columns_of (drop (next z) tests)) ∙ ap columns_of (sym (drop-cons tests i test less)))

all_parts : {X : Type 0} (P : X → Type 0) (xs ys : List X) → All P (xs ++ ys) → All P xs × All P ys
all_parts P [] ys all = (All-nil P, all)
all_parts P (x ∷ xs) ys all = let rest = all_parts P xs ys (All-tail P x (xs ++ ys) all) in (All-cons P x xs (All-head P x (xs ++ ys) all) rest.0, rest.1)

-- two rows have the same values in some columns
abbrev pub SameIn : List ℕ → List Value → List Value → Type 0
SameIn columns row other = All (λ column. cell row column ≡ cell other column) columns

pub same_parts : (columns more : List ℕ) (row other : List Value) → SameIn (columns ++ more) row other → SameIn columns row other × SameIn more row other
same_parts columns more row other = all_parts (λ column. cell row column ≡ cell other column) columns more

same_operand : (operand : Operand) (row other : List Value) → SameIn (operand_columns operand) row other → value_of operand row ≡ value_of operand other
same_operand (Column column) row other same = All-head (λ c. cell row c ≡ cell other c) column [] same
same_operand (Literal v) row other same = refl

same_test : (test : Test) (row other : List Value) → SameIn (test_columns test) row other → truth_of test row ≡ truth_of test other
same_test (Compare a comparison b) row other same =
    let both = same_parts (operand_columns a) (operand_columns b) row other same in
    λ i. compared comparison (same_operand a row other both.0 i) (same_operand b row other both.1 i)
same_test (IsNull a) row other same = λ i. decided (is_null (same_operand a row other same i))
same_test (IsNotNull a) row other same = λ i. decided (not (is_null (same_operand a row other same i)))

same_truths : (tests : List Test) (row other : List Value) → SameIn (columns_of tests) row other → map (λ test. truth_of test row) tests ≡ map (λ test. truth_of test other) tests
same_truths [] row other same = refl
same_truths (test ∷ tests) row other same =
    let both = same_parts (test_columns test) (columns_of tests) row other same in
    λ i. same_test test row other both.0 i ∷ same_truths tests row other both.1 i

-- the truth of tests depends on the columns that they read alone
pub truth_same : (tests : List Test) (row other : List Value) → SameIn (columns_of tests) row other → truth tests row ≡ truth tests other
truth_same tests row other same = ap all_of (same_truths tests row other same)

pub keeps_same : (tests : List Test) (row other : List Value) → SameIn (columns_of tests) row other → keeps tests row ≡ keeps tests other
keeps_same tests row other same = ap is_true (truth_same tests row other same)
