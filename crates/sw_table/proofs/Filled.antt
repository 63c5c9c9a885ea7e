-- The values in the places, as a list.
use Rattle.std.proofs.Common.{◌≡◌, ℕ, zero, suc, ◌+◌, ◌<◌, ◌≤◌, cond, List, [], ◌∷◌, length, drop, get_or, count_by, Option, Some, None, is_some, refl, sym, ap, ◌∙◌, arith}
use Rattle.std.proofs.lemmas.List.Sums.{sum_by-cons}
use Rattle.sw_table.specs.Walks.{filled}

module _ {X : Type 0} where
  none_some : (x : X) → None ≡ Some x → ⊥
  none_some x e = cc

  -- where the places from here on are vacant up to one that is filled, that is the next
  pub next_filled : (s : List (Option X)) (from i : ℕ) (x : X) → from ≤ i → ((j : ℕ) → from ≤ j → j < i → get_or s j None ≡ None) → get_or s i None ≡ Some x → filled (drop from s) ≡ x ∷ filled (drop (suc i) s)
  next_filled [] from i x le none here = absurd (none_some x here)
  next_filled (None ∷ s) zero zero x le none here = absurd (none_some x here)
  next_filled (Some y ∷ s) zero zero x le none here = ap (λ o. filled (o ∷ s)) here
  next_filled (o ∷ s) zero (suc i) x le none here = ap (λ q. filled (q ∷ s)) (none 0 (omega arith) (omega arith)) ∙ next_filled s zero i x (omega arith) (λ j a b. none (suc j) (omega arith) (omega (arith, b))) here
  next_filled (o ∷ s) (suc from) zero x le none here = absurd (omega (arith, le))
  next_filled (o ∷ s) (suc from) (suc i) x le none here = next_filled s from i x (omega (arith, le)) (λ j a b. none (suc j) (omega (arith, a)) (omega (arith, b))) here

  -- the same, with the place after it as the code counts it
  pub filled_on : (s : List (Option X)) (from i : ℕ) (x : X) → from ≤ i → ((j : ℕ) → from ≤ j → j < i → get_or s j None ≡ None) → get_or s i None ≡ Some x → filled (drop from s) ≡ x ∷ filled (drop (i + 1) s)
  filled_on s from i x le none here =
      let behind : suc i ≡ i + 1 = omega arith in
      next_filled s from i x le none here ∙ ap (λ k. x ∷ filled (drop k s)) behind

  -- where all places from here on are vacant, there is no next
  pub none_filled : (s : List (Option X)) (from : ℕ) → ((j : ℕ) → from ≤ j → get_or s j None ≡ None) → filled (drop from s) ≡ []
  none_filled [] zero none = refl
  none_filled [] (suc from) none = refl
  none_filled (o ∷ s) zero none = ap (λ q. filled (q ∷ s)) (none 0 (omega arith)) ∙ none_filled s zero (λ j a. none (suc j) (omega arith))
  none_filled (o ∷ s) (suc from) none = none_filled s from (λ j a. none (suc j) (omega (arith, a)))

  -- where all places before this one are vacant, the values are those from here on
  pub filled_behind : (s : List (Option X)) (from : ℕ) → ((j : ℕ) → j < from → get_or s j None ≡ None) → filled s ≡ filled (drop from s)
  filled_behind s zero none = refl
  filled_behind [] (suc from) none = refl
  filled_behind (o ∷ s) (suc from) none = ap (λ q. filled (q ∷ s)) (none 0 (omega arith)) ∙ filled_behind s from (λ j lt. none (suc j) (omega (arith, lt)))

  pub length_of_filled : (s : List (Option X)) → length (filled s) ≡ count_by is_some s
  length_of_filled [] = refl
  length_of_filled (None ∷ s) = length_of_filled s ∙ (let e : ◌≡◌ {A = ℕ} (count_by is_some s) (0 + count_by is_some s) = omega arith in e) ∙ sym (sum_by-cons (λ (o : Option X). cond (is_some o) 1 0) None s)
  length_of_filled (Some x ∷ s) = (let h = length_of_filled s in let e : ◌≡◌ {A = ℕ} (suc (length (filled s))) (1 + count_by is_some s) = omega (arith, h) in e) ∙ sym (sum_by-cons (λ (o : Option X). cond (is_some o) 1 0) (Some x) s)
