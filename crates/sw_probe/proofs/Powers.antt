-- Powers of two: what divides them, and the numbers of groups.
use Rattle.std.proofs.Common.{◌≡◌, ℕ, zero, suc, ◌+◌, ◌-◌, ◌*◌, ◌/◌, ◌%◌, ◌^◌, ◌<◌, ◌≤◌, refl, sym, ap, ◌∙◌, subst, arith, bit_and}
use Rattle.std.proofs.Math.Nat.{two-pow-succ, add-mul, mul_comm, mul_assoc, one-le-pow}
use Rattle.std.proofs.lemmas.Nat.{pow-add, and_mask}
use native.Mathlib.Nat.{zero-mul, mul-mod_left, div-add-mod', one-mul, mul-suc, mul-zero}
use native.Mathlib.Decide.{dec_lt}
use lib.Pow.{pow_mono}
use Rattle.sw_probe.specs.Order.{IsGroupCount}

odd_times : (a b : ℕ) → a % 2 ≡ 1 → a * b ≡ 2 * (a / 2 * b) + b
odd_times a b odd =
    let it : a ≡ 2 * (a / 2) + 1 = omega (arith, odd) in
    ap (λ x. x * b) it ∙ add-mul (2 * (a / 2)) 1 b ∙ omega (arith, mul_assoc 2 (a / 2) b, one-mul b)

times_double : (a c : ℕ) → a * (2 * c) ≡ 2 * (a * c)
times_double a c = ap (λ x. a * x) (mul_comm 2 c) ∙ sym (mul_assoc a c 2) ∙ mul_comm (a * c) 2

pub power_double : (n m : ℕ) → 2 ^ suc n * m ≡ 2 * (2 ^ n * m)
power_double n m = ap (λ x. x * m) (two-pow-succ n) ∙ add-mul (2 ^ n) (2 ^ n) m ∙ omega arith

-- an odd factor takes no power of two
pub odd_factor : (n a b m : ℕ) → a % 2 ≡ 1 → a * b ≡ 2 ^ n * m → (q : ℕ) × (b ≡ 2 ^ n * q)
odd_factor zero a b m odd e = (b, sym (one-mul b))
odd_factor (suc n) a b m odd e =
    let c = b / 2 in
    let b_is : b ≡ 2 * c = omega (arith, odd_times a b odd, power_double n m, e) in
    let half : a * c ≡ 2 ^ n * m = omega (arith, ap (λ x. a * x) b_is, times_double a c, power_double n m, e) in
    let it = odd_factor n a c m odd half in
    (it.0, b_is ∙ ap (λ x. 2 * x) it.1 ∙ sym (power_double n it.0))

one_factor : (n q : ℕ) → n * q ≡ 1 → n ≡ 1
one_factor zero q e = absurd (omega (arith, e, zero-mul q))
one_factor (suc zero) q e = refl
one_factor (suc (suc n)) zero e = absurd (omega (arith, e, mul-zero (suc (suc n))))
one_factor (suc (suc n)) (suc q) e = absurd (omega (arith, e, mul-suc (suc (suc n)) q))

abbrev IsPowerUpTo : ℕ → ℕ → Type 0
IsPowerUpTo m n = (k : ℕ) × (k ≤ m) × (n ≡ 2 ^ k)

-- of an even n the half divides the half; for an odd n the other factor is even
divisor_step : (m : ℕ) → ((n q : ℕ) → n * q ≡ 2 ^ m → IsPowerUpTo m n) → (n q r : ℕ) → n * q ≡ 2 ^ suc m → n % 2 ≡ r → IsPowerUpTo (suc m) n
divisor_step m below n q zero e even =
    let h = n / 2 in
    let n_is : n ≡ 2 * h = omega (arith, even) in
    let double : n * q ≡ 2 * (h * q) = ap (λ x. x * q) n_is ∙ mul_assoc 2 h q in
    let it = below h q (omega (arith, double, e, two-pow-succ m)) in
    (suc it.0, omega (arith, it.1), n_is ∙ ap (λ x. 2 * x) it.2 ∙ omega (arith, two-pow-succ it.0))
divisor_step m below n q (suc r) e odd =
    let h = q / 2 in
    let q_is : q ≡ 2 * h = omega (arith, odd_times n q (omega (arith, odd)), e, two-pow-succ m) in
    let it = below n h (omega (arith, ap (λ x. n * x) q_is, times_double n h, e, two-pow-succ m)) in
    (it.0, omega (arith, it.1), it.2)

-- the divisors of a power of two are the powers of two up to it
divisor : (m n q : ℕ) → n * q ≡ 2 ^ m → IsPowerUpTo m n
divisor zero n q e = (0, omega arith, one_factor n q (e ∙ omega arith))
divisor (suc m) n q e = divisor_step m (λ a b f. divisor m a b f) n q (n % 2) e refl

-- a number of groups is a power of two, at most 2 ^ 24
pub power_of : (n : ℕ) → IsGroupCount n → (k : ℕ) × (k ≤ 24) × (n ≡ 2 ^ k)
power_of n count = divisor 24 n (2 ^ 24 / n) (mul_comm n (2 ^ 24 / n) ∙ omega (arith, count, div-add-mod' (2 ^ 24) n))

-- and each such power is a number of groups
pub group_count : (k n : ℕ) → k ≤ 24 → n ≡ 2 ^ k → IsGroupCount n
group_count k n le e =
    let whole : 24 ≡ 24 - k + k = omega (arith, le) in
    ap (λ x. 2 ^ 24 % x) e ∙ ap (λ x. x % 2 ^ k) (ap (λ x. 2 ^ x) whole ∙ pow-add 2 (24 - k) k) ∙ mul-mod_left (2 ^ (24 - k)) (2 ^ k)

pub count-le : (g : ℕ) → IsGroupCount g → g ≤ 2 ^ 24
count-le g count = let it = power_of g count in subst (λ x. x ≤ 2 ^ 24) (sym it.2) (pow_mono it.1)

pub count-pos : (g : ℕ) → IsGroupCount g → 0 < g
count-pos g count = let it = power_of g count in subst (λ x. 0 < x) (sym it.2) (omega (arith, one-le-pow it.0 2 (omega arith)))

-- a number of groups below the greatest can be doubled
pub count-double : (g : ℕ) → IsGroupCount g → g < 2 ^ 24 → IsGroupCount (2 * g)
count-double g count less =
    let it = power_of g count in
    let below : it.0 < 24 = elim (dec_lt it.0 24) [
      | yes lt ↦ lt
      | no rest ↦ absurd (let last : it.0 ≡ 24 = omega (arith, rest, it.1) in omega (arith, less, it.2, ap (λ k. 2 ^ k) last))
    ] in
    group_count (suc it.0) (2 * g) (omega (arith, below)) (ap (λ x. 2 * x) it.2 ∙ omega (arith, two-pow-succ it.0))

-- the remainder by a number of groups is the low bits
pub masked : (n g : ℕ) → IsGroupCount g → bit_and n (g - 1) ≡ n % g
masked n g count = let it = power_of g count in ap (λ x. bit_and n (x - 1)) it.2 ∙ and_mask n it.0 ∙ ap (λ x. n % x) (sym it.2)
