-- Places that are kept or emptied, one after the other.
use Rattle.std.proofs.Common.{◌≡◌, ℕ, zero, suc, ◌+◌, ◌<◌, ◌≤◌, Bool, true, false, List, [], ◌∷◌, ◌++◌, take, drop, set, get_or, Option, Some, None, refl, sym, ap, ◌∙◌, subst, arith, append_assoc}
use Rattle.std.proofs.lemmas.List.{drop-set-lt}
use Rattle.std.specs.Borrow.{Bor}
use Rattle.std.specs.Fn.{Mut}
use Rattle.sw_table.specs.Walks.{filled}
use Rattle.sw_table.proofs.Filled.{filled_on, none_filled}
use Rattle.sw_flat.specs.Retaining.{AnswersAt, KeepsInTurn}
use Rattle.sw_flat.proofs.Classes.{none_some}

module _ {X : Type 0} where
  -- up to the next filled place, the values are those before it and its own
  front_suc : (s : List (Option X)) (from i : ℕ) (x : X) → from ≤ i → ((j : ℕ) → from ≤ j → j < i → get_or s j None ≡ None) → get_or s i None ≡ Some x
      → filled (take (suc i) s) ≡ filled (take from s) ++ x ∷ []
  front_suc [] from i x le none here = absurd (none_some x here)
  front_suc (None ∷ s) zero zero x le none here = absurd (none_some x here)
  front_suc (Some y ∷ s) zero zero x le none here = ap (λ o. filled (o ∷ [])) here
  front_suc (o ∷ s) zero (suc i) x le none here = ap (λ q. filled (q ∷ take (suc i) s)) (none 0 (omega arith) (omega arith)) ∙ front_suc s zero i x (omega arith) (λ j a b. none (suc j) (omega arith) (omega (arith, b))) here
  front_suc (o ∷ s) (suc from) zero x le none here = absurd (omega (arith, le))
  front_suc (None ∷ s) (suc from) (suc i) x le none here = front_suc s from i x (omega (arith, le)) (λ j a b. none (suc j) (omega (arith, a)) (omega (arith, b))) here
  front_suc (Some y ∷ s) (suc from) (suc i) x le none here = ap (λ r. y ∷ r) (front_suc s from i x (omega (arith, le)) (λ j a b. none (suc j) (omega (arith, a)) (omega (arith, b))) here)

  -- and without its own, where it is emptied
  emptied_suc : (s : List (Option X)) (from i : ℕ) (x : X) → from ≤ i → ((j : ℕ) → from ≤ j → j < i → get_or s j None ≡ None) → get_or s i None ≡ Some x
      → filled (take (suc i) (set s i None)) ≡ filled (take from s)
  emptied_suc [] from i x le none here = absurd (none_some x here)
  emptied_suc (o ∷ s) zero zero x le none here = refl
  emptied_suc (o ∷ s) zero (suc i) x le none here = ap (λ q. filled (q ∷ take (suc i) (set s i None))) (none 0 (omega arith) (omega arith)) ∙ emptied_suc s zero i x (omega arith) (λ j a b. none (suc j) (omega arith) (omega (arith, b))) here
  emptied_suc (o ∷ s) (suc from) zero x le none here = absurd (omega (arith, le))
  emptied_suc (None ∷ s) (suc from) (suc i) x le none here = emptied_suc s from i x (omega (arith, le)) (λ j a b. none (suc j) (omega (arith, a)) (omega (arith, b))) here
  emptied_suc (Some y ∷ s) (suc from) (suc i) x le none here = ap (λ r. y ∷ r) (emptied_suc s from i x (omega (arith, le)) (λ j a b. none (suc j) (omega (arith, a)) (omega (arith, b))) here)

  front_and_rest : (s : List (Option X)) (n : ℕ) → filled s ≡ filled (take n s) ++ filled (drop n s)
  front_and_rest [] zero = refl
  front_and_rest [] (suc n) = refl
  front_and_rest (o ∷ s) zero = refl
  front_and_rest (None ∷ s) (suc n) = front_and_rest s n
  front_and_rest (Some y ∷ s) (suc n) = ap (λ r. y ∷ r) (front_and_rest s n)

module _ {F K V : Type 0} (g : Mut F (Bor K × (Bor V × Unit {0})) Bool) (start : F) (all : List (K × V)) where
  -- the closure, f by now, was asked of the entries before `from`, and the places there have those that it kept
  pub IsRetaining : F → List (Option (K × V)) → ℕ → Type 0
  IsRetaining f ps from = (later : List (K × V)) → KeepsInTurn g f (filled (drop from ps)) later → KeepsInTurn g start all (filled (take from ps) ++ later)

  pub retaining_none : (ps : List (Option (K × V))) → filled ps ≡ all → IsRetaining start ps 0
  unfolding IsRetaining
  retaining_none ps e later k = subst (λ xs. KeepsInTurn g start xs later) e k

  module _ (f : F) (ps : List (Option (K × V))) (from i : ℕ) (x : K × V) (d : IsRetaining f ps from) (le : from ≤ i)
      (none : (j : ℕ) → from ≤ j → j < i → get_or ps j None ≡ None) (here : get_or ps i None ≡ Some x) (f' : F) where
    behind : suc i ≡ i + 1
    behind = omega arith

    pub retaining_kept : AnswersAt g f x true f' → IsRetaining f' ps (i + 1)
    unfolding IsRetaining
    retaining_kept said later k =
        subst (KeepsInTurn g start all)
        (sym (append_assoc (filled (take from ps)) (x ∷ []) later) ∙ ap (λ r. r ++ later) (sym (front_suc ps from i x le none here) ∙ ap (λ n. filled (take n ps)) behind))
        (d (x ∷ later) (subst (λ xs. KeepsInTurn g f xs (x ∷ later)) (sym (filled_on ps from i x le none here)) (true, f', said, later, k, refl)))

    pub retaining_dropped : AnswersAt g f x false f' → (ps' : List (Option (K × V))) → ps' ≡ set ps i None → IsRetaining f' ps' (i + 1)
    unfolding IsRetaining
    retaining_dropped said ps' e later k =
        let gone : drop (i + 1) ps' ≡ drop (i + 1) ps = ap (drop (i + 1)) e ∙ drop-set-lt (i + 1) ps i None (omega arith) in
        let front : filled (take from ps) ≡ filled (take (i + 1) ps') = sym (emptied_suc ps from i x le none here) ∙ ap (λ n. filled (take n (set ps i None))) behind ∙ ap (λ qs. filled (take (i + 1) qs)) (sym e) in
        subst (KeepsInTurn g start all) (ap (λ r. r ++ later) front)
        (d later (subst (λ xs. KeepsInTurn g f xs later) (sym (filled_on ps from i x le none here)) (false, f', said, later, subst (λ qs. KeepsInTurn g f' (filled qs) later) gone k, refl)))

  pub retained : (f : F) (ps : List (Option (K × V))) (from : ℕ) → IsRetaining f ps from → ((j : ℕ) → from ≤ j → get_or ps j None ≡ None) → KeepsInTurn g start all (filled ps)
  unfolding IsRetaining
  retained f ps from d none =
      let rest = none_filled ps from none in
      subst (KeepsInTurn g start all) (ap (λ r. filled (take from ps) ++ r) (sym rest) ∙ sym (front_and_rest ps from)) (d [] (subst (λ xs. KeepsInTurn g f xs []) (sym rest) refl))
