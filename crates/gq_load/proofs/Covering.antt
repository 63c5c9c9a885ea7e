-- As many different places as there are columns are the places of all columns.
use Rattle.std.proofs.Common.{◌≡◌, ◌<◌, ◌≤◌, ◌||◌, ℕ, zero, suc, Bool, true, false, cond, List, [], ◌∷◌, length, eqb, refl, ap, arith}
use Rattle.std.specs.Prelude.{nat_eq}
use Rattle.std.specs.List.{AllByRecursion, list_any}
use Rattle.std.proofs.lemmas.Bool.Decides.{nat_tests}
use Rattle.gq_row.specs.Repeats.{no_repeats}
use Rattle.gq_load.proofs.Places.{both, either, not_true}

-- the places without the first that is this one
without : ℕ → List ℕ → List ℕ
without n [] = []
without n (p ∷ ps) = cond (eqb n p) ps (p ∷ without n ps)

without_any : (n q : ℕ) (ps : List ℕ) → list_any (nat_eq q) ps ≡ false → list_any (nat_eq q) (without n ps) ≡ false
unfolding without
without_any n q [] h = refl
without_any n q (p ∷ ps) h =
    let parts = either (eqb q p) (list_any (nat_eq q) ps) h in
    by_first (eqb n p) parts.0 parts.1 (without_any n q ps parts.1)
  where
    by_first : (b : Bool) → eqb q p ≡ false → list_any (nat_eq q) ps ≡ false → list_any (nat_eq q) (without n ps) ≡ false → list_any (nat_eq q) (cond b ps (p ∷ without n ps)) ≡ false
    by_first true first others rest = others
    by_first false first others rest = rw (first, rest) refl

without_apart : (n : ℕ) (ps : List ℕ) → no_repeats nat_eq ps ≡ true → no_repeats nat_eq (without n ps) ≡ true
unfolding without
without_apart n [] h = refl
without_apart n (p ∷ ps) h =
    let parts = both _ (no_repeats nat_eq ps) h in
    by_first (eqb n p) (not_true _ parts.0) parts.1 (without_apart n ps parts.1)
  where
    by_first : (b : Bool) → list_any (nat_eq p) ps ≡ false → no_repeats nat_eq ps ≡ true → no_repeats nat_eq (without n ps) ≡ true → no_repeats nat_eq (cond b ps (p ∷ without n ps)) ≡ true
    by_first true none apart rest = apart
    by_first false none apart rest = rw (without_any n p ps none, rest) refl

without_length : (n : ℕ) (ps : List ℕ) → list_any (nat_eq n) ps ≡ true → length ps ≡ suc (length (without n ps))
unfolding without
without_length n [] h = let none : ⊥ = cc in absurd none
without_length n (p ∷ ps) h = by_first (eqb n p) h (without_length n ps)
  where
    by_first : (b : Bool) → b || list_any (nat_eq n) ps ≡ true → (list_any (nat_eq n) ps ≡ true → length ps ≡ suc (length (without n ps))) → suc (length ps) ≡ suc (length (cond b ps (p ∷ without n ps)))
    by_first true h again = refl
    by_first false h again = ap suc (again h)

below : (n : ℕ) (ps : List ℕ) → list_any (nat_eq n) ps ≡ false → AllByRecursion (λ p. p < suc n) ps → AllByRecursion (λ p. p < n) ps
below n [] h small = tt
below n (p ∷ ps) h small =
    let parts = either (eqb n p) (list_any (nat_eq n) ps) h in
    (smaller parts.0 small.0, below n ps parts.1 small.1)
  where
    smaller : eqb n p ≡ false → p < suc n → p < n
    smaller e s = grind (arith, nat_tests)

without_below : (n : ℕ) (ps : List ℕ) → no_repeats nat_eq ps ≡ true → AllByRecursion (λ p. p < suc n) ps → AllByRecursion (λ p. p < n) (without n ps)
unfolding without
without_below n [] h small = tt
without_below n (p ∷ ps) h small =
    let parts = both _ (no_repeats nat_eq ps) h in
    by_first (eqb n p) refl (not_true _ parts.0) (without_below n ps parts.1 small.1)
  where
    smaller : eqb n p ≡ false → p < suc n → p < n
    smaller e s = grind (arith, nat_tests)

    by_first : (b : Bool) → eqb n p ≡ b → list_any (nat_eq p) ps ≡ false → AllByRecursion (λ q. q < n) (without n ps) → AllByRecursion (λ q. q < n) (cond b ps (p ∷ without n ps))
    by_first true e none rest =
        let same : n ≡ p = grind (arith, nat_tests) in
        below n ps (rw same none) small.1
    by_first false e none rest = (smaller e small.0, rest)

-- different places below a bound are no more than it
at_most : (n : ℕ) (ps : List ℕ) → no_repeats nat_eq ps ≡ true → AllByRecursion (λ p. p < n) ps → length ps ≤ n
at_most zero [] apart small = omega arith
at_most zero (p ∷ ps) apart small = let none : ⊥ = omega (arith, small.0) in absurd none
at_most (suc n) ps apart small = by_last (list_any (nat_eq n) ps) refl (at_most n (without n ps) (without_apart n ps apart) (without_below n ps apart small)) (at_most n ps apart)
  where
    by_last : (b : Bool) → list_any (nat_eq n) ps ≡ b → length (without n ps) ≤ n → (AllByRecursion (λ p. p < n) ps → length ps ≤ n) → length ps ≤ suc n
    by_last true e fewer again = let size = without_length n ps e in omega (arith, size, fewer)
    by_last false e fewer again = let few = again (below n ps e small) in omega (arith, few)

-- and where they are as many, each number below it is among them
pub all_named : (n : ℕ) (ps : List ℕ) → no_repeats nat_eq ps ≡ true → AllByRecursion (λ p. p < n) ps → length ps ≡ n → (k : ℕ) → k < n → list_any (nat_eq k) ps ≡ true
all_named n ps apart small size k h = by_among (list_any (nat_eq k) ps) refl
  where
    by_among : (b : Bool) → list_any (nat_eq k) ps ≡ b → b ≡ true
    by_among true e = refl
    by_among false e =
        let many = at_most n (k ∷ ps) (rw (e, apart) refl) (h, small) in
        let none : ⊥ = omega (arith, many, size) in
        absurd none
