-- Steps that come to each group at most once come to every group.
use Rattle.std.proofs.Common.{◌≡◌, ◌≢◌, ℕ, zero, suc, ◌-◌, ◌<◌, ◌≤◌, ◌⊎◌, Bool, true, false, cond, nat_lt, refl, sym, ap, ◌∙◌, arith, inl, inr}
use Rattle.std.proofs.lemmas.Bool.{cases_eq, ltb-true, ltb-false}
use Rattle.sw_probe.specs.Order.{group_number, IsGroupCount, VisitsAll}
use Rattle.sw_probe.proofs.Once.{visits_once, group_number-lt}

-- numbers other than v, with no gap
squeezed : ℕ → ℕ → ℕ
squeezed v x = cond (nat_lt x v) x (x - 1)

squeezed_same : (v x y : ℕ) → x ≢ v → y ≢ v → squeezed v x ≡ squeezed v y → x ≡ y
unfolding squeezed
squeezed_same v x y a b e = by_sides (nat_lt x v) (nat_lt y v) refl refl e
  where
    by_sides : (p q : Bool) → nat_lt x v ≡ p → nat_lt y v ≡ q → cond p x (x - 1) ≡ cond q y (y - 1) → x ≡ y
    by_sides true true p q e = e
    by_sides true false p q e = omega (arith, a, b, ltb-true x v p, ltb-false y v q, e)
    by_sides false true p q e = omega (arith, a, b, ltb-false x v p, ltb-true y v q, e)
    by_sides false false p q e = omega (arith, a, b, ltb-false x v p, ltb-false y v q, e)

squeezed_lt : (v x m : ℕ) → x ≢ v → x < suc m → v < suc m → squeezed v x < m
unfolding squeezed
squeezed_lt v x m a lt at = by_side (nat_lt x v) refl
  where
    by_side : (p : Bool) → nat_lt x v ≡ p → cond p x (x - 1) < m
    by_side true p = omega (arith, lt, at, ltb-true x v p)
    by_side false p = omega (arith, a, lt, at, ltb-false x v p)

abbrev OneToOne : (ℕ → ℕ) → ℕ → Type 0
OneToOne f n = (i j : ℕ) → i < n → j < n → f i ≡ f j → i ≡ j

-- n different numbers below m
pub pigeons : (n m : ℕ) (f : ℕ → ℕ) → OneToOne f n → ((i : ℕ) → i < n → f i < m) → n ≤ m
pigeons zero m f one below = omega arith
pigeons (suc n) zero f one below = let h = below 0 (omega arith) in omega (arith, h)
pigeons (suc n) (suc m) f one below =
    let v = f n in
    let apart : (i : ℕ) → i < n → f i ≢ v = λ i lt e. (let h = one i n (omega (arith, lt)) (omega arith) e in omega (arith, h, lt)) in
    let ih = pigeons n m (λ i. squeezed v (f i))
    (λ i j a b e. one i j (omega (arith, a)) (omega (arith, b)) (squeezed_same v (f i) (f j) (apart i a) (apart j b) e))
    (λ i a. squeezed_lt v (f i) m (apart i a) (below i (omega (arith, a))) (below n (omega arith))) in
    omega (arith, ih)

-- whether f reaches v below n
find_below : (n : ℕ) (f : ℕ → ℕ) (v : ℕ) → ((i : ℕ) × (i < n) × (f i ≡ v)) ⊎ ((i : ℕ) → i < n → f i ≢ v)
find_below zero f v = inr (λ i lt e. omega (arith, lt))
find_below (suc n) f v = elim (cases_eq (f n) v) [
  | inl e ↦ inl (n, omega arith, e)
  | inr other ↦ elim (find_below n f v) [
    | inl it ↦ inl (it.0, omega (arith, it.1), it.2)
    | inr none ↦ inr (λ i lt e. elim (cases_eq i n) [
      | inl last ↦ other (ap f (sym last) ∙ e)
      | inr less ↦ none i (omega (arith, lt, less)) e
    ])
  ]
]

pub onto : (n : ℕ) (f : ℕ → ℕ) → OneToOne f n → ((i : ℕ) → i < n → f i < n) → (v : ℕ) → v < n → (i : ℕ) × (i < n) × (f i ≡ v)
onto zero f one below v lt = absurd (omega (arith, lt))
onto (suc n) f one below v lt = elim (find_below (suc n) f v) [
  | inl it ↦ it
  | inr none ↦ absurd (
      let h = pigeons (suc n) n (λ i. squeezed v (f i))
      (λ i j a b e. one i j a b (squeezed_same v (f i) (f j) (none i a) (none j b) e))
      (λ i a. squeezed_lt v (f i) n (none i a) (below i a) lt) in
      omega (arith, h))
]

-- a walk over g groups reaches every group
pub comes_to : (h g : ℕ) → IsGroupCount g → VisitsAll h g
comes_to h g whole group lt =
    onto g (group_number h g) (λ i j a b e. once i j a b e) (λ i _. group_number-lt h g i whole) group lt
  where
    once : OneToOne (group_number h g) g
    once i j a b e = elim (cases_eq i j) [
      | inl same ↦ same
      | inr other ↦ absurd (visits_once h g whole i j a b other e)
    ]
