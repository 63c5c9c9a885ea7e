-- Triangular steps over a power of two come to each group once.
use Rattle.std.proofs.Common.{◌≡◌, ◌≢◌, ℕ, zero, suc, ◌+◌, ◌-◌, ◌*◌, ◌/◌, ◌%◌, ◌^◌, ◌<◌, ◌≤◌, refl, sym, ap, ◌∙◌, subst, arith}
use Rattle.std.proofs.Math.Nat.{two-pow-succ, add-mul, mul-add, mul-sub, mul_comm, mod-lt, add-mod-mod}
use native.Mathlib.Nat.{div-add-mod', one-mul, mul-suc, mul-zero}
use native.Mathlib.Decide.{dec_lt}
use Rattle.sw_probe.specs.Order.{IsGroupCount, triangle, group_number, VisitsOnce}
use Rattle.sw_probe.proofs.Powers.{odd_factor, power_double, power_of, count-pos}

-- i * (i + 1) at the next i
next_product : (i : ℕ) → (i + 1) * (i + 1 + 1) ≡ i * (i + 1) + 2 * (i + 1)
next_product i = mul_comm (i + 1) (i + 1 + 1) ∙ ap (λ x. x * (i + 1)) (let e : i + 1 + 1 ≡ i + 2 = omega arith in e) ∙ add-mul i 2 (i + 1)

pub triangle-next : (i : ℕ) → triangle (i + 1) ≡ triangle i + (i + 1)
unfolding triangle
triangle-next i = omega (arith, next_product i)

even : (i : ℕ) → i * (i + 1) % 2 ≡ 0
even zero = omega (arith, one-mul 0)
even (suc i) = let e : suc i ≡ i + 1 = omega arith in ap (λ x. x * (x + 1) % 2) e ∙ omega (arith, next_product i, even i)

pub twice : (i : ℕ) → 2 * triangle i ≡ i * (i + 1)
unfolding triangle
twice i = omega (arith, even i)

-- a number below p and above 0 is no multiple of p
none_so_small : (p b q : ℕ) → b ≡ p * q → 0 < b → b < p → ⊥
none_so_small p b zero e some small = omega (arith, e, mul-zero p)
none_so_small p b (suc q) e some small = omega (arith, e, mul-suc p q)

-- equal remainders
apart_by : (a b m : ℕ) → a ≤ b → a % m ≡ b % m → (q : ℕ) × (b ≡ a + m * q)
apart_by a b m le e =
    (b / m - a / m, omega (arith, e, mul-sub m (b / m) (a / m), div-add-mod' a m, div-add-mod' b m, mul_comm m (a / m), mul_comm m (b / m)))

-- what lies between two products
between : (i d : ℕ) → (i + d) * (i + d + 1) ≡ i * (i + 1) + d * (2 * i + d + 1)
between i d =
    let e : i + d + 1 ≡ i + 1 + d = omega arith in let f : 2 * i + d + 1 ≡ i + d + 1 + i = omega arith in
    add-mul i d (i + d + 1)
    ∙ (λ t. i * e t + d * (i + d + 1))
    ∙ omega (arith, mul-add i (i + 1) d, ap (λ x. d * x) f, mul-add d (i + d + 1) i, mul_comm i d)

-- a later step has another group
pub later_differs : (k h i j : ℕ) → i < j → j < 2 ^ k → group_number h (2 ^ k) i ≢ group_number h (2 ^ k) j
unfolding group_number
later_differs k h i j less small e =
    let d = j - i in let s = 2 * i + d + 1 in
    let at : i + d ≡ j = omega arith in
    let products : j * (j + 1) ≡ i * (i + 1) + d * s = ap (λ x. x * (x + 1)) (sym at) ∙ between i d in
    let q = apart_by (h + triangle i) (h + triangle j) (2 ^ k) (omega (arith, twice i, twice j, products)) e in
    let m = q.0 in
    let product : d * s ≡ 2 ^ suc k * m = omega (arith, products, twice i, twice j, q.1, power_double k m) in
    by_parity d s m product (omega arith) (omega arith, omega arith) (omega (arith, two-pow-succ k)) (omega (arith, two-pow-succ k)) (d % 2) refl
  where
    by_parity : (d s m : ℕ) → d * s ≡ 2 ^ suc k * m → (d + s) % 2 ≡ 1 → 0 < d × (0 < s) → d < 2 ^ suc k → s < 2 ^ suc k → (r : ℕ) → d % 2 ≡ r → ⊥
    by_parity d s m e odd some a b (suc r) is = let f = odd_factor (suc k) d s m (omega arith) e in none_so_small (2 ^ suc k) s f.0 f.1 some.1 b
    by_parity d s m e odd some a b zero is = let f = odd_factor (suc k) s d m (omega arith) (mul_comm s d ∙ e) in none_so_small (2 ^ suc k) d f.0 f.1 some.0 a

-- two different steps have different groups
pub visits_once : (h g : ℕ) → IsGroupCount g → VisitsOnce h g
visits_once h g whole = subst (VisitsOnce h) (sym (power_of g whole).2) (λ i j a b other e. elim (dec_lt i j) [
  | yes less ↦ later_differs (power_of g whole).0 h i j less b e
  | no rest ↦ later_differs (power_of g whole).0 h j i (omega (arith, rest, other)) a (sym e)
])

-- one step on
pub group_number-next : (h g i : ℕ) → (group_number h g i + (i + 1)) % g ≡ group_number h g (i + 1)
unfolding group_number
group_number-next h g i =
    ap (λ x. x % g) (let e : (h + triangle i) % g + (i + 1) ≡ i + 1 + (h + triangle i) % g = omega arith in e)
    ∙ add-mod-mod (i + 1) (h + triangle i) g
    ∙ ap (λ x. x % g) (omega (arith, triangle-next i))

pub group_number-first : (h g : ℕ) → h % g ≡ group_number h g 0
unfolding group_number triangle
group_number-first h g = ap (λ x. x % g) (omega (arith, one-mul 0))

pub group_number-lt : (h g i : ℕ) → IsGroupCount g → group_number h g i < g
unfolding group_number
group_number-lt h g i whole =
    mod-lt (h + triangle i) (count-pos g whole)
