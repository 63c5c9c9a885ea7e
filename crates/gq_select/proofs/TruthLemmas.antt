-- How truths are joined.
use Rattle.std.proofs.Common.{◌≡◌, ◌&&◌, ◌||◌, Bool, true, false, not, cond, List, [], ◌∷◌, map, refl, sym, ap, ◌∙◌}
use Rattle.std.specs.List.{list_any, list_all}
use Rattle.std.specs.Cmp.{first_so, second_so}
use Rattle.std.specs.declared.cmp.Ordering.{Ordering}
use Rattle.std.specs.declared.cmp.Ordering.TheVariants as order
use Rattle.std.specs.Ordering.{is_eq}
use Rattle.std.proofs.lemmas.Bool.{false≢true, and_from}
use Rattle.gq_row.specs.declared.value.Value.{Value}
use Rattle.gq_row.specs.declared.value.Value.TheVariants.{Null, Int, Text, NoCase}
use Rattle.gq_row.specs.declared.comparison.Comparison.{Comparison}
use Rattle.gq_row.specs.declared.comparison.Comparison.TheVariants.{Equal, NotEqual, Less, LessEqual, Greater, GreaterEqual}
use Rattle.gq_row.specs.Comparisons.{passes}
use Rattle.gq_row.specs.Fitting.{is_null}
use Rattle.gq_row.specs.Folding.{folded, has_case, without_case}
use Rattle.gq_row.specs.Order.{condition_order, plain_order, folded_order, equal_value, same_value}
use Rattle.gq_row.proofs.FoldLemmas.{folds_once}
use Rattle.gq_row.proofs.OrderLemmas.{plain_ties, same_value_ties}
use Rattle.gq_select.specs.declared.condition.Operand.{Operand}
use Rattle.gq_select.specs.declared.condition.Test.{Test}
use Rattle.gq_select.specs.declared.condition.Test.TheVariants.{Compare, IsNull, IsNotNull}
use Rattle.gq_select.specs.declared.truth.Truth.{Truth}
use Rattle.gq_select.specs.declared.truth.Truth.TheVariants.{True, False, Unknown}
use Rattle.gq_select.specs.Truths.{is_true, is_false, is_unknown, decided, value_of, compared, truth_of, all_of, truth, is_true_in, keeps}
use Rattle.gq_select.specs.Laws.{both, compares_values}

-- what `and` of several makes of two tests of them
abbrev settled : Bool → Bool → Truth
settled some_false some_unknown = cond some_false False (cond some_unknown Unknown True)

settled-true : (f u : Bool) → settled f u ≡ both True (settled f u)
settled-true f u = refl

settled-unknown : (f u : Bool) → settled f true ≡ both Unknown (settled f u)
settled-unknown true u = refl
settled-unknown false true = refl
settled-unknown false false = refl

pub all_of-cons : (t : Truth) (ts : List Truth) → all_of (t ∷ ts) ≡ both t (all_of ts)
all_of-cons True ts = refl
all_of-cons False ts = refl
all_of-cons Unknown ts = settled-unknown (list_any is_false ts) (list_any is_unknown ts)

pub both-comm : (a b : Truth) → both a b ≡ both b a
both-comm True True = refl
both-comm True False = refl
both-comm True Unknown = refl
both-comm False True = refl
both-comm False False = refl
both-comm False Unknown = refl
both-comm Unknown True = refl
both-comm Unknown False = refl
both-comm Unknown Unknown = refl

pub both-assoc : (a b c : Truth) → both (both a b) c ≡ both a (both b c)
both-assoc True b c = refl
both-assoc False b c = refl
both-assoc Unknown True c = refl
both-assoc Unknown False c = refl
both-assoc Unknown Unknown True = refl
both-assoc Unknown Unknown False = refl
both-assoc Unknown Unknown Unknown = refl

-- each of several is true exactly where their `and` is
true_of_both : (t u : Truth) → is_true (both t u) ≡ (is_true t && is_true u)
true_of_both True u = refl
true_of_both False u = refl
true_of_both Unknown True = refl
true_of_both Unknown False = refl
true_of_both Unknown Unknown = refl

pub each_is_true : (tests : List Test) (row : List Value) → keeps tests row ≡ list_all (is_true_in row) tests
each_is_true [] row = refl
each_is_true (test ∷ tests) row =
    ap is_true (all_of-cons (truth_of test row) (map (λ t. truth_of t row) tests))
    ∙ true_of_both (truth_of test row) (truth tests row)
    ∙ ap (λ b. is_true (truth_of test row) && b) (each_is_true tests row)

-- ---- where no null is compared

known_both : (t u : Truth) → is_unknown t ≡ false → is_unknown u ≡ false → is_unknown (both t u) ≡ false
known_both True u a b = b
known_both False u a b = refl
known_both Unknown u a b = absurd (false≢true (sym a))

decided_known : (b : Bool) → is_unknown (decided b) ≡ false
decided_known true = refl
decided_known false = refl

neither_null : (x y : Bool) → (not x && not y) ≡ true → (x || y) ≡ false
neither_null true y h = absurd (false≢true h)
neither_null false true h = absurd (false≢true h)
neither_null false false h = refl

either_null : (x y : Bool) → (not x && not y) ≡ false → (x || y) ≡ true
either_null true y h = refl
either_null false true h = refl
either_null false false h = sym h

known_test : (test : Test) (row : List Value) → compares_values row test ≡ true → is_unknown (truth_of test row) ≡ false
known_test (Compare a comparison b) row h =
    let x : Value = value_of a row in
    let y : Value = value_of b row in
    ap (λ null. is_unknown (cond null Unknown (decided (passes comparison (condition_order x y))))) (neither_null (is_null x) (is_null y) h)
    ∙ decided_known (passes comparison (condition_order x y))
known_test (IsNull a) row h = decided_known (is_null (value_of a row))
known_test (IsNotNull a) row h = decided_known (not (is_null (value_of a row)))

pub known_tests : (tests : List Test) (row : List Value) → list_all (compares_values row) tests ≡ true → is_unknown (truth tests row) ≡ false
known_tests [] row h = refl
known_tests (test ∷ tests) row h =
    ap is_unknown (all_of-cons (truth_of test row) (map (λ t. truth_of t row) tests))
    ∙ known_both (truth_of test row) (truth tests row) (known_test test row (first_so _ _ h)) (known_tests tests row (second_so (compares_values row test) _ h))

pub none_by_null : (a b : Operand) (comparison : Comparison) (row : List Value) → compares_values row (Compare a comparison b) ≡ false → keeps (Compare a comparison b ∷ []) row ≡ false
none_by_null a b comparison row h =
    ap (λ null. is_true (all_of (cond null Unknown (decided (passes comparison (condition_order (value_of a row) (value_of b row)))) ∷ [])))
    (either_null (is_null (value_of a row)) (is_null (value_of b row)) h)

-- ---- comparisons

-- the order of a condition where both values have case, and where one has none
plain_there : (a b : Value) → has_case a ≡ true → has_case b ≡ true → condition_order a b ≡ plain_order a b
plain_there a b h g = ap (λ c. cond c (plain_order a b) (folded_order (without_case a) (without_case b))) (and_from (has_case a) (has_case b) h g)

folds_there : (a b : Value) → (has_case a && has_case b) ≡ false → condition_order a b ≡ folded_order (without_case a) (without_case b)
folds_there a b h = ap (λ c. cond c (plain_order a b) (folded_order (without_case a) (without_case b))) h

pub at_equal : (a b : Value) → has_case a ≡ true → has_case b ≡ true → passes Equal (condition_order a b) ≡ equal_value a b
at_equal a b h g = ap is_eq (plain_there a b h g) ∙ sym (plain_ties a b)

pub at_same : (a b : Value) → (has_case a && has_case b) ≡ false → passes Equal (condition_order a b) ≡ same_value (without_case a) (without_case b)
at_same a b h = ap is_eq (folds_there a b h) ∙ sym (same_value_ties (without_case a) (without_case b))

pub at_not_equal : (order : Ordering) → passes NotEqual order ≡ not (passes Equal order)
at_not_equal order.Less = refl
at_not_equal order.Equal = refl
at_not_equal order.Greater = refl

pub at_least : (order : Ordering) → passes GreaterEqual order ≡ not (passes Less order)
at_least order.Less = refl
at_least order.Equal = refl
at_least order.Greater = refl

pub at_above : (order : Ordering) → passes Greater order ≡ not (passes LessEqual order)
at_above order.Less = refl
at_above order.Equal = refl
at_above order.Greater = refl

-- ---- case

pub with_case : (comparison : Comparison) (a b : Value) → has_case a ≡ true → has_case b ≡ true
    → compared comparison a b ≡ cond (is_null a || is_null b) Unknown (decided (passes comparison (plain_order a b)))
with_case comparison a b h g = ap (λ order. cond (is_null a || is_null b) Unknown (decided (passes comparison order))) (plain_there a b h g)

-- a value by its fold, a text as one without case
abbrev by_fold : Value → Value
by_fold v = folded (without_case v)

fold_again : (v : Value) → by_fold (by_fold v) ≡ by_fold v
fold_again Null = refl
fold_again (Int n) = refl
fold_again (Text t) = ap NoCase (folds_once t)
fold_again (NoCase t) = ap NoCase (folds_once t)

fold_null : (v : Value) → is_null v ≡ is_null (by_fold v)
fold_null Null = refl
fold_null (Int n) = refl
fold_null (Text t) = refl
fold_null (NoCase t) = refl

fold_case_less : (v : Value) → has_case v ≡ false → has_case (by_fold v) ≡ false
fold_case_less Null h = h
fold_case_less (Int n) h = h
fold_case_less (Text t) h = refl
fold_case_less (NoCase t) h = refl

folds_case_less : (a b : Value) → (has_case a && has_case b) ≡ false → (has_case (by_fold a) && has_case (by_fold b)) ≡ false
folds_case_less Null b h = fold_case_less b h
folds_case_less (Int n) b h = fold_case_less b h
folds_case_less (Text t) b h = refl
folds_case_less (NoCase t) b h = refl

order_of_folds : (a b : Value) → (has_case a && has_case b) ≡ false → condition_order a b ≡ condition_order (by_fold a) (by_fold b)
order_of_folds a b h =
    folds_there a b h
    ∙ (λ i. plain_order (sym (fold_again a) i) (sym (fold_again b) i))
    ∙ sym (folds_there (by_fold a) (by_fold b) (folds_case_less a b h))

pub by_folds : (comparison : Comparison) (a b : Value) → (has_case a && has_case b) ≡ false → compared comparison a b ≡ compared comparison (by_fold a) (by_fold b)
by_folds comparison a b h = λ i. cond (fold_null a i || fold_null b i) Unknown (decided (passes comparison (order_of_folds a b h i)))
