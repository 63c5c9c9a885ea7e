-- What makes no difference to an aggregate: the order of the values, and nulls.
use Rattle.std.proofs.Common.{◌≡◌, ◌==◌, ◌+ℤ◌, ℕ, suc, pos, negsuc, Bool, true, false, cond, not, List, [], ◌∷◌, length, sum_by, Some, None, refl, sym, ap, ◌∙◌, arith, true≢false, inl, inr, IsPermutation}
use Rattle.std.specs.List.{fold, list_all, list_any}
use Rattle.std.specs.Ordering.{is_lt}
use Rattle.std.proofs.lemmas.Int.{ints}
use Rattle.std.proofs.lemmas.Bool.{or_parts, or_from}
use Rattle.std.proofs.lemmas.List.Sums.{sum_by-cons}
use Rattle.std.proofs.lemmas.List.Sorted.{list_any-IsPermutation, length_permutation, sum_by-IsPermutation, IsPermutation-sym}
use Rattle.gq_row.specs.declared.value.Value.{Value}
use Rattle.gq_row.specs.declared.value.Value.TheVariants.{Null, Int, Text, NoCase}
use Rattle.gq_row.specs.Fitting.{is_null}
use Rattle.gq_row.specs.Folding.{folded}
use Rattle.gq_row.specs.Order.{compare_values, equal_value}
use Rattle.gq_row.specs.Sameness.{equal_value_equiv}
use Rattle.gq_row.proofs.MovedLemmas.{IsPermutation-filter}
use Rattle.gq_row.proofs.OrderLemmas.{equal_value_exact, equal_value_itself}
use Rattle.gq_agg.specs.declared.kind.AggKind.TheVariants as kind
use Rattle.gq_agg.specs.Aggregates.{is_i64}
use Rattle.gq_agg.specs.Laws.{NullsAreUnseen, OrderIsUnseen, EndsAreReached}
use Rattle.gq_agg.specs.Values.{present, number, total, is_less, is_greater, lesser, greater, least, greatest}
use Rattle.gq_agg.proofs.Chosen.{not_beaten, is_one, all_pass, none_passes, less_order, greater_order, less_exact, greater_exact}

-- ---- the order

-- the parts of a number on each side of 0
abbrev over : Value → ℕ
over Null = 0
over (Int (pos n)) = n
over (Int (negsuc n)) = 0
over (Text t) = 0
over (NoCase t) = 0

abbrev under : Value → ℕ
under Null = 0
under (Int (pos n)) = 0
under (Int (negsuc n)) = suc n
under (Text t) = 0
under (NoCase t) = 0

sides : (v : Value) → number v +ℤ pos (under v) ≡ pos (over v)
sides Null = refl
sides (Int (pos n)) = omega (arith, ints)
sides (Int (negsuc n)) = omega (arith, ints)
sides (Text t) = refl
sides (NoCase t) = refl

total_sides : (values : List Value) → total values +ℤ pos (sum_by under values) ≡ pos (sum_by over values)
total_sides [] = refl
total_sides (v ∷ values) =
    let a = sum_by-cons under v values in
    let b = sum_by-cons over v values in
    omega (arith, ints, a, b, sides v, total_sides values)

total_moved : (xs ys : List Value) → IsPermutation xs ys → total xs ≡ total ys
total_moved xs ys moved = omega (arith, ints, total_sides xs, total_sides ys, sum_by-IsPermutation under xs ys moved, sum_by-IsPermutation over xs ys moved)

count_moved : (xs ys : List Value) → IsPermutation xs ys → length (present xs) ≡ length (present ys)
count_moved xs ys moved = sym (length_permutation (present xs) (present ys) (IsPermutation-filter equal_value_equiv equal_value_exact (λ v. not (is_null v)) xs ys moved))

-- the least of one list doesn't win over that of the other
least_kept : (xs ys : List Value) → IsPermutation xs ys → is_less (least xs) (least ys) ≡ false
least_kept xs ys moved = elim (is_one is_less less_order equal_value equal_value_itself Null ys) [
  | inl none ↦ ap (is_less (least xs)) none
  | inr here ↦ none_passes (is_less (least xs)) xs (least ys) (not_beaten is_less less_order Null xs).1 (list_any-IsPermutation (equal_value (least ys)) xs ys moved ∙ here)
]

greatest_kept : (xs ys : List Value) → IsPermutation xs ys → is_greater (greatest xs) (greatest ys) ≡ false
greatest_kept xs ys moved = elim (is_one is_greater greater_order equal_value equal_value_itself Null ys) [
  | inl none ↦ ap (is_greater (greatest xs)) none ∙ (not_beaten is_greater greater_order Null xs).0
  | inr here ↦ none_passes (is_greater (greatest xs)) xs (greatest ys) (not_beaten is_greater greater_order Null xs).1 (list_any-IsPermutation (equal_value (greatest ys)) xs ys moved ∙ here)
]

pub order_unseen : OrderIsUnseen
order_unseen kind.CountAll xs ys moved = ap (λ n. Some (Int (pos n))) (sym (length_permutation xs ys moved))
order_unseen kind.Count xs ys moved = ap (λ n. Some (Int (pos n))) (count_moved xs ys moved)
order_unseen kind.Sum xs ys moved = λ i. cond (count_moved xs ys moved i == 0) (Some Null) (cond (is_i64 (total_moved xs ys moved i)) (Some (Int (total_moved xs ys moved i))) None)
order_unseen kind.Min xs ys moved = ap Some (less_exact (least xs) (least ys) (least_kept xs ys moved) (least_kept ys xs (IsPermutation-sym xs ys moved)))
order_unseen kind.Max xs ys moved = ap Some (greater_exact (greatest xs) (greatest ys) (greatest_kept xs ys moved) (greatest_kept ys xs (IsPermutation-sym xs ys moved)))

-- ---- nulls

present_twice : (values : List Value) → present (present values) ≡ present values
present_twice [] = refl
present_twice (Null ∷ values) = present_twice values
present_twice (Int n ∷ values) = ap (λ l. Int n ∷ l) (present_twice values)
present_twice (Text t ∷ values) = ap (λ l. Text t ∷ l) (present_twice values)
present_twice (NoCase t ∷ values) = ap (λ l. NoCase t ∷ l) (present_twice values)

total_present : (values : List Value) → total (present values) ≡ total values
total_present [] = refl
total_present (Null ∷ values) = omega (arith, ints, total_present values)
total_present (Int n ∷ values) = ap (λ s. n +ℤ s) (total_present values)
total_present (Text t ∷ values) = ap (λ s. pos 0 +ℤ s) (total_present values)
total_present (NoCase t ∷ values) = ap (λ s. pos 0 +ℤ s) (total_present values)

less_present : (a : Value) (values : List Value) → fold lesser a (present values) ≡ fold lesser a values
less_present a [] = refl
less_present a (Null ∷ values) = less_present a values
less_present a (Int n ∷ values) = less_present (lesser a (Int n)) values
less_present a (Text t ∷ values) = less_present (lesser a (Text t)) values
less_present a (NoCase t ∷ values) = less_present (lesser a (NoCase t)) values

over_null : (a : Value) → greater a Null ≡ a
over_null Null = refl
over_null (Int n) = refl
over_null (Text t) = refl
over_null (NoCase t) = refl

greater_present : (a : Value) (values : List Value) → fold greater a (present values) ≡ fold greater a values
greater_present a [] = refl
greater_present a (Null ∷ values) = greater_present a values ∙ ap (λ b. fold greater b values) (sym (over_null a))
greater_present a (Int n ∷ values) = greater_present (greater a (Int n)) values
greater_present a (Text t ∷ values) = greater_present (greater a (Text t)) values
greater_present a (NoCase t ∷ values) = greater_present (greater a (NoCase t)) values

pub nulls_unseen : NullsAreUnseen
nulls_unseen = record {
  count = λ values. ap (λ l. Some (Int (pos (length l)))) (present_twice values);
  sum = λ values. λ i. cond (length (present_twice values i) == 0) (Some Null) (cond (is_i64 (total_present values i)) (Some (Int (total_present values i))) None);
  min = λ values. ap Some (less_present Null values);
  max = λ values. ap Some (greater_present Null values);
}

-- ---- the least and the greatest

-- over values that are not null
all_null : (values : List Value) (v : Value) → present values ≡ [] → list_any (equal_value v) (present values) ≡ true → ⊥
all_null values v none here = true≢false (sym here ∙ ap (list_any (equal_value v)) none)

less_of_present : (m : Value) (values : List Value) → list_any (is_less m) (present values) ≡ false → list_any (λ v. is_lt (compare_values v m)) (present values) ≡ false
less_of_present m [] h = refl
less_of_present m (Null ∷ values) h = less_of_present m values h
less_of_present m (Int n ∷ values) h =
    let parts = or_parts (is_less m (Int n)) (list_any (is_less m) (present values)) h in
    or_from (is_lt (compare_values (Int n) m)) (list_any (λ v. is_lt (compare_values v m)) (present values)) (or_parts (is_null m) (is_lt (compare_values (Int n) m)) parts.0).1 (less_of_present m values parts.1)
less_of_present m (Text t ∷ values) h =
    let parts = or_parts (is_less m (Text t)) (list_any (is_less m) (present values)) h in
    or_from (is_lt (compare_values (Text t) m)) (list_any (λ v. is_lt (compare_values v m)) (present values)) (or_parts (is_null m) (is_lt (compare_values (Text t) m)) parts.0).1 (less_of_present m values parts.1)
less_of_present m (NoCase t ∷ values) h =
    let parts = or_parts (is_less m (NoCase t)) (list_any (is_less m) (present values)) h in
    or_from (is_lt (compare_values (NoCase t) m)) (list_any (λ v. is_lt (compare_values v m)) (present values)) (or_parts (is_null m) (is_lt (compare_values (NoCase t) m)) parts.0).1 (less_of_present m values parts.1)

-- null is the least, or the greatest, only where there is nothing else
none_less_null : (values : List Value) → list_any (is_less Null) (present values) ≡ false → present values ≡ []
none_less_null [] h = refl
none_less_null (Null ∷ values) h = none_less_null values h
none_less_null (Int n ∷ values) h = absurd (true≢false h)
none_less_null (Text t ∷ values) h = absurd (true≢false h)
none_less_null (NoCase t ∷ values) h = absurd (true≢false h)

none_greater_null : (values : List Value) → list_any (is_greater Null) (present values) ≡ false → present values ≡ []
none_greater_null [] h = refl
none_greater_null (Null ∷ values) h = none_greater_null values h
none_greater_null (Int n ∷ values) h = absurd (true≢false h)
none_greater_null (Text t ∷ values) h = absurd (true≢false h)
none_greater_null (NoCase t ∷ values) h = absurd (true≢false h)

pub ends_reached : EndsAreReached
ends_reached = record {
  least_none = λ values none. sym (less_present Null values) ∙ ap (fold lesser Null) none;
  least_is_one = λ values some. ap (λ m. list_any (equal_value m) (present values)) (sym (less_present Null values)) ∙ elim (is_one is_less less_order equal_value equal_value_itself Null (present values)) [
    | inl null ↦ absurd (some (none_less_null values (ap (λ m. list_any (is_less m) (present values)) (sym null) ∙ (not_beaten is_less less_order Null (present values)).1)))
    | inr here ↦ here
  ];
  none_before = λ values. ap (λ m. list_any (λ v. is_lt (compare_values v m)) (present values)) (sym (less_present Null values)) ∙ less_of_present (fold lesser Null (present values)) values (not_beaten is_less less_order Null (present values)).1;
  greatest_none = λ values none. sym (greater_present Null values) ∙ ap (fold greater Null) none;
  greatest_is_one = λ values some. ap (λ m. list_any (equal_value m) (present values)) (sym (greater_present Null values)) ∙ elim (is_one is_greater greater_order equal_value equal_value_itself Null (present values)) [
    | inl null ↦ absurd (some (none_greater_null values (ap (λ m. list_any (is_greater m) (present values)) (sym null) ∙ (not_beaten is_greater greater_order Null (present values)).1)))
    | inr here ↦ here
  ];
  none_behind = λ values. ap (λ m. list_any (is_greater m) (present values)) (sym (greater_present Null values)) ∙ (not_beaten is_greater greater_order Null (present values)).1;
}

-- ---- what all values pass

lesser_null : (v : Value) → lesser Null v ≡ v
lesser_null Null = refl
lesser_null (Int n) = refl
lesser_null (Text t) = refl
lesser_null (NoCase t) = refl

-- a test that all of some values pass, null among them or not, their least passes
pub least_passes : (p : Value → Bool) (v : Value) (values : List Value) → list_all p (v ∷ values) ≡ true → p (least (v ∷ values)) ≡ true
least_passes p v values all = ap (λ w. p (fold lesser w values)) (lesser_null v) ∙ all_pass is_less p v values all

-- so the minimum of one value, repeated as often as it occurs, is that value
pub least_of_one : (v w : Value) (values : List Value) → list_all (equal_value v) (w ∷ values) ≡ true → least (w ∷ values) ≡ v
least_of_one v w values all = sym (equal_value_exact v (least (w ∷ values)) (least_passes (equal_value v) w values all))

-- and the fold of the least of values with one fold is that fold
pub least_of_fold : (k v : Value) (values : List Value) → list_all (λ w. equal_value k (folded w)) (v ∷ values) ≡ true → folded (least (v ∷ values)) ≡ k
least_of_fold k v values all = sym (equal_value_exact k (folded (least (v ∷ values))) (least_passes (λ w. equal_value k (folded w)) v values all))
