-- How many different values there are, with one more and in another order.
use Rattle.std.proofs.Common.{◌≡◌, ◌+◌, Bool, true, false, cond, not, ◌||◌, List, [], ◌∷◌, ◌++◌, length, map, filter, refl, sym, ap, ◌∙◌, append-nil, length-append, true≢false, IsPermutation}
use Rattle.std.specs.List.{list_any}
use Rattle.std.specs.Ordering.{on}
use Rattle.std.proofs.lemmas.List.{length-map}
use Rattle.std.proofs.lemmas.List.Sorted.{length_permutation, IsPermutation-map}
use Rattle.gq_row.specs.declared.value.Value.{Value}
use Rattle.gq_row.specs.declared.value.Value.TheVariants.{Null, Int, Text, NoCase}
use Rattle.gq_row.specs.Fitting.{is_null}
use Rattle.gq_row.specs.Folding.{folded}
use Rattle.gq_row.specs.Order.{equal_value, same_value}
use Rattle.gq_row.specs.Repeats.{without_repeats}
use Rattle.gq_row.specs.Sameness.{equal_value_equiv, same_value_equiv}
use Rattle.gq_row.proofs.DistinctLemmas.{one_more, without_repeats-push}
use Rattle.gq_row.proofs.MovedLemmas.{IsPermutation-filter, IsPermutation-without_repeats}
use Rattle.gq_row.proofs.OrderLemmas.{equal_value_exact}
use Rattle.gq_agg.specs.Laws.{DifferentAreCounted}
use Rattle.gq_agg.specs.Values.{present, different}
use Rattle.gq_agg.proofs.Kept.{present-push}

-- null is the same as no other value
pub null_apart : (v w : Value) → is_null v ≡ true → is_null w ≡ false → same_value v w ≡ false
null_apart Null Null n m = absurd (true≢false m)
null_apart Null (Int b) n m = refl
null_apart Null (Text b) n m = refl
null_apart Null (NoCase b) n m = refl
null_apart (Int a) w n m = absurd (true≢false (sym n))
null_apart (Text a) w n m = absurd (true≢false (sym n))
null_apart (NoCase a) w n m = absurd (true≢false (sym n))

-- one value more, given whether an earlier one is the same
pub different-push : (values : List Value) (v : Value) → without_repeats same_value (present (values ++ v ∷ []))
    ≡ cond (is_null v) (without_repeats same_value (present values)) (one_more (list_any (λ w. same_value w v) (present values)) (without_repeats same_value (present values)) v)
different-push values v = ap (without_repeats same_value) (present-push values v) ∙ told (is_null v)
  where
    told : (b : Bool) → without_repeats same_value (present values ++ cond (not b) (v ∷ []) [])
        ≡ cond b (without_repeats same_value (present values)) (one_more (list_any (λ w. same_value w v) (present values)) (without_repeats same_value (present values)) v)
    told true = ap (without_repeats same_value) (append-nil (present values))
    told false = without_repeats-push same_value (present values) v

-- a value that is not null is the same as one of those that are not null where it is the same as one of all
among_present : (values : List Value) (v : Value) → is_null v ≡ false → list_any (λ w. same_value w v) (present values) ≡ list_any (same_value v) values
among_present [] v some = refl
among_present (Null ∷ values) v some = among_present values v some ∙ ap (λ b. b || list_any (same_value v) values) (sym ((same_value_equiv).symm v Null ∙ null_apart Null v refl some))
among_present (Int n ∷ values) v some = λ i. (same_value_equiv).symm (Int n) v i || among_present values v some i
among_present (Text t ∷ values) v some = λ i. (same_value_equiv).symm (Text t) v i || among_present values v some i
among_present (NoCase t ∷ values) v some = λ i. (same_value_equiv).symm (NoCase t) v i || among_present values v some i

-- ---- by folds

-- the different elements, by a test of what a function makes of them
module _ {X Y : Type 0} (f : X → Y) (same : Y → Y → Bool) where
  map-filter : (p : Y → Bool) (xs : List X) → map f (filter (λ x. p (f x)) xs) ≡ filter p (map f xs)
  map-filter p [] = refl
  map-filter p (x ∷ xs) = kept (p (f x)) (map-filter p xs)
    where
      kept : (b : Bool) → map f (filter (λ y. p (f y)) xs) ≡ filter p (map f xs)
          → map f (cond b (x ∷ filter (λ y. p (f y)) xs) (filter (λ y. p (f y)) xs)) ≡ cond b (f x ∷ filter p (map f xs)) (filter p (map f xs))
      kept true rest = ap (λ l. f x ∷ l) rest
      kept false rest = rest

  pub map-without_repeats : (xs : List X) → map f (without_repeats (on f same) xs) ≡ without_repeats same (map f xs)
  map-without_repeats [] = refl
  map-without_repeats (x ∷ xs) =
      ap (λ l. f x ∷ l) (map-filter (λ other. not (same (f x) other)) (without_repeats (on f same) xs)
      ∙ ap (filter (λ other. not (same (f x) other))) (map-without_repeats xs))

-- there are as many different values as different folds
pub different_folds : (values : List Value) → different values ≡ length (without_repeats equal_value (map folded (present values)))
different_folds values = sym (length-map (without_repeats same_value (present values)) folded) ∙ ap length (map-without_repeats folded equal_value (present values))

-- values and their folds are null alike, so the folds of those that are not null are the folds that are not
pub present-folded : (values : List Value) → present (map folded values) ≡ map folded (present values)
present-folded [] = refl
present-folded (Null ∷ values) = present-folded values
present-folded (Int n ∷ values) = ap (λ l. Int n ∷ l) (present-folded values)
present-folded (Text t ∷ values) = ap (λ l. Text t ∷ l) (present-folded values)
present-folded (NoCase t ∷ values) = ap (λ l. folded (NoCase t) ∷ l) (present-folded values)

pub different_moved : (xs ys : List Value) → IsPermutation xs ys → different xs ≡ different ys
different_moved xs ys moved =
    let some : IsPermutation (present xs) (present ys) = IsPermutation-filter equal_value_equiv equal_value_exact (λ v. not (is_null v)) xs ys moved in
    let folds : IsPermutation (map folded (present xs)) (map folded (present ys)) = IsPermutation-map folded (present xs) (present ys) some in
    different_folds xs
    ∙ sym (length_permutation _ _ (IsPermutation-without_repeats equal_value_equiv equal_value_exact (map folded (present xs)) (map folded (present ys)) folds))
    ∙ sym (different_folds ys)

pub different_counted : DifferentAreCounted
different_counted = record {
  none = refl;
  one_more = λ values v. ap length (different-push values v) ∙ told values v (is_null v) refl;
  folds = different_folds;
  order = different_moved;
}
  where
    counted : (values : List Value) (v : Value) (b : Bool) → length (one_more b (without_repeats same_value (present values)) v) ≡ cond b (different values) (different values + 1)
    counted values v true = refl
    counted values v false = length-append (without_repeats same_value (present values)) (v ∷ [])

    told : (values : List Value) (v : Value) (b : Bool) → is_null v ≡ b
        → length (cond b (without_repeats same_value (present values)) (one_more (list_any (λ w. same_value w v) (present values)) (without_repeats same_value (present values)) v))
        ≡ cond (b || list_any (same_value v) values) (different values) (different values + 1)
    told values v true e = refl
    told values v false e =
        counted values v (list_any (λ w. same_value w v) (present values))
        ∙ ap (λ b. cond b (different values) (different values + 1)) (among_present values v e)
