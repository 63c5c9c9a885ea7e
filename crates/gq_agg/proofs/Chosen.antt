-- The element of a list that no other wins over.
use Rattle.std.proofs.Common.{◌≡◌, Bool, true, false, cond, not, ◌&&◌, ◌||◌, List, [], ◌∷◌, refl, sym, ap, ◌∙◌, true≢false, inl, inr, ◌⊎◌, Less, Equal, Greater, Ordering}
use Rattle.std.specs.List.{fold, list_all, list_any}
use Rattle.std.specs.Cmp.{IsStrictWeakOrder}
use Rattle.std.specs.Ordering.{is_lt, ordering_reverse}
use Rattle.std.proofs.lemmas.Bool.{or_parts, or_from, and_parts, and_from}
use Rattle.std.proofs.lemmas.List.Sorted.{ranks_by}
use Rattle.gq_row.specs.declared.value.Value.{Value}
use Rattle.gq_row.specs.declared.value.Value.TheVariants.{Null, Int, Text, NoCase}
use Rattle.gq_row.specs.Fitting.{is_null}
use Rattle.gq_row.specs.Order.{compare_values, equal_value}
use Rattle.gq_row.proofs.OrderLemmas.{values_total, values_exact, equal_value_exact}
use Rattle.gq_agg.specs.Values.{is_less, is_greater}

or_true : (b : Bool) → (b || true) ≡ true
or_true true = refl
or_true false = refl

module _ {X : Type 0} (wins : X → X → Bool) (order : IsStrictWeakOrder wins) where
  abbrev pub choose : X → X → X
  choose a b = cond (wins a b) b a

  pub not_itself : (a : X) → wins a a ≡ false
  not_itself a = told (wins a a) refl
    where
      told : (b : Bool) → wins a a ≡ b → b ≡ false
      told true e = absurd (true≢false (sym e ∙ order.one_way a a e))
      told false e = refl

  -- neither the first nor any of the others wins over the chosen one
  pub not_beaten : (a : X) (xs : List X) → (wins (fold choose a xs) a ≡ false) × (list_any (wins (fold choose a xs)) xs ≡ false)
  not_beaten a [] = (not_itself a, refl)
  not_beaten a (x ∷ xs) = step (wins a x) refl (not_beaten (choose a x) xs)
    where
      step : (b : Bool) → wins a x ≡ b → (wins (fold choose (cond b x a) xs) (cond b x a) ≡ false) × (list_any (wins (fold choose (cond b x a) xs)) xs ≡ false)
          → (wins (fold choose (cond b x a) xs) a ≡ false) × ((wins (fold choose (cond b x a) xs) x || list_any (wins (fold choose (cond b x a) xs)) xs) ≡ false)
      step true e h = (order.chain (fold choose x xs) x a h.0 (order.one_way a x e), or_from (wins (fold choose x xs) x) (list_any (wins (fold choose x xs)) xs) h.0 h.1)
      step false e h = (h.0, or_from (wins (fold choose a xs) x) (list_any (wins (fold choose a xs)) xs) (order.chain (fold choose a xs) a x h.0 e) h.1)

  -- it is the first or one of the others
  pub is_one : (same : X → X → Bool) → ((x : X) → same x x ≡ true) → (a : X) (xs : List X) → (fold choose a xs ≡ a) ⊎ (list_any (same (fold choose a xs)) xs ≡ true)
  is_one same itself a [] = inl refl
  is_one same itself a (x ∷ xs) = step (wins a x) (is_one same itself (choose a x) xs)
    where
      step : (b : Bool) → (fold choose (cond b x a) xs ≡ cond b x a) ⊎ (list_any (same (fold choose (cond b x a) xs)) xs ≡ true)
          → (fold choose (cond b x a) xs ≡ a) ⊎ ((same (fold choose (cond b x a) xs) x || list_any (same (fold choose (cond b x a) xs)) xs) ≡ true)
      step true (inl e) = inr (ap (λ y. same y x || list_any (same (fold choose x xs)) xs) e ∙ ap (λ b. b || list_any (same (fold choose x xs)) xs) (itself x))
      step true (inr h) = inr (ap (λ b. same (fold choose x xs) x || b) h ∙ or_true (same (fold choose x xs) x))
      step false (inl e) = inl e
      step false (inr h) = inr (ap (λ b. same (fold choose a xs) x || b) h ∙ or_true (same (fold choose a xs) x))

-- a test that the first and all others pass, the chosen one passes
pub all_pass : {X : Type 0} (wins : X → X → Bool) (p : X → Bool) (a : X) (xs : List X) → list_all p (a ∷ xs) ≡ true → p (fold (λ y z. cond (wins y z) z y) a xs) ≡ true
all_pass wins p a [] all = (and_parts (p a) true all).0
all_pass wins p a (x ∷ xs) all =
    let first = and_parts (p a) (list_all p (x ∷ xs)) all in
    let second = and_parts (p x) (list_all p xs) first.1 in
    step (wins a x) (all_pass wins p x xs first.1) (all_pass wins p a xs (and_from (p a) (list_all p xs) first.0 second.1))
  where
    step : (b : Bool) → p (fold (λ y z. cond (wins y z) z y) x xs) ≡ true → p (fold (λ y z. cond (wins y z) z y) a xs) ≡ true → p (fold (λ y z. cond (wins y z) z y) (cond b x a) xs) ≡ true
    step true new old = new
    step false new old = old

-- a test that none of a list passes, one of the list doesn't pass
pub none_passes : (p : Value → Bool) (xs : List Value) (v : Value) → list_any p xs ≡ false → list_any (equal_value v) xs ≡ true → p v ≡ false
none_passes p [] v none here = absurd (true≢false (sym here))
none_passes p (x ∷ xs) v none here = step (equal_value v x) refl here (none_passes p xs v (or_parts (p x) (list_any p xs) none).1)
  where
    step : (b : Bool) → equal_value v x ≡ b → (b || list_any (equal_value v) xs) ≡ true → (list_any (equal_value v) xs ≡ true → p v ≡ false) → p v ≡ false
    step true e h later = ap p (equal_value_exact v x e) ∙ (or_parts (p x) (list_any p xs) none).0
    step false e h later = later h

-- ---- the two orders

pub greater_order : IsStrictWeakOrder is_greater
greater_order = ranks_by values_total (λ v. v)

less_parts : (nb na l : Bool) → (not nb && (na || l)) ≡ true → nb ≡ false
less_parts true na l h = absurd (true≢false (sym h))
less_parts false na l h = refl

pub less_order : IsStrictWeakOrder is_less
less_order = record {
  one_way = λ a b h. one (is_null a) (is_null b) (is_lt (compare_values b a)) (is_lt (compare_values a b)) (greater_order.one_way b a) h;
  chain = λ a b c h k. three (is_null a) (is_null b) (is_null c) (is_lt (compare_values b a)) (is_lt (compare_values c b)) (is_lt (compare_values c a)) (greater_order.chain c b a) h k;
}
  where
    one : (na nb l r : Bool) → (l ≡ true → r ≡ false) → (not nb && (na || l)) ≡ true → (not na && (nb || r)) ≡ false
    one true true l r s h = refl
    one true false l r s h = refl
    one false true l r s h = absurd (true≢false (sym h))
    one false false l r s h = s h

    three : (na nb nc ba cb ca : Bool) → (cb ≡ false → ba ≡ false → ca ≡ false) → (not nb && (na || ba)) ≡ false → (not nc && (nb || cb)) ≡ false → (not nc && (na || ca)) ≡ false
    three na nb true ba cb ca s h k = refl
    three na true false ba cb ca s h k = absurd (true≢false k)
    three true false false ba cb ca s h k = absurd (true≢false h)
    three false false false ba cb ca s h k = s k h

-- values of which neither wins are equal
ties : (a b : Value) (o : Ordering) → compare_values a b ≡ o → is_lt o ≡ false → is_lt (compare_values b a) ≡ false → a ≡ b
ties a b Less e h k = absurd (true≢false h)
ties a b Equal e h k = values_exact a b e
ties a b Greater e h k = absurd (true≢false (sym (ap is_lt ((values_total).antisymm b a ∙ ap ordering_reverse e)) ∙ k))

pub greater_exact : (a b : Value) → is_greater a b ≡ false → is_greater b a ≡ false → a ≡ b
greater_exact a b h k = ties a b (compare_values a b) refl h k

null_is : (v : Value) → is_null v ≡ true → v ≡ Null
null_is Null h = refl
null_is (Int n) h = absurd (true≢false (sym h))
null_is (Text t) h = absurd (true≢false (sym h))
null_is (NoCase t) h = absurd (true≢false (sym h))

pub less_exact : (a b : Value) → is_less a b ≡ false → is_less b a ≡ false → a ≡ b
less_exact a b h k = step (is_null a) (is_null b) refl refl h k
  where
    step : (na nb : Bool) → is_null a ≡ na → is_null b ≡ nb → (not nb && (na || is_lt (compare_values b a))) ≡ false → (not na && (nb || is_lt (compare_values a b))) ≡ false → a ≡ b
    step true true e f h k = null_is a e ∙ sym (null_is b f)
    step true false e f h k = absurd (true≢false h)
    step false true e f h k = absurd (true≢false k)
    step false false e f h k = greater_exact a b k h
