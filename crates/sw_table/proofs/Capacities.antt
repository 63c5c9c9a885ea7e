-- How large a table is.
use Rattle.std.proofs.Common.{◌≡◌, ◌≢◌, ℕ, suc, ◌+◌, ◌*◌, ◌/◌, ◌%◌, ◌^◌, ◌<◌, ◌≤◌, inl, inr, refl, ap, ◌∙◌, arith}
use Rattle.std.proofs.lemmas.Bool.{cases_eq}
use Rattle.std.proofs.Math.Nat.{two-pow-succ, one-le-pow}
use native.Mathlib.Decide.{dec_lt}
use lib.Pow.{pow_mono}
use Rattle.sw_probe.specs.Order.{IsGroupCount}
use Rattle.sw_probe.proofs.Powers.{group_count}
use Rattle.sw_table.specs.Sizes.{IsCapacity}

pub small : (n : ℕ) → IsCapacity n → n ≤ 2 ^ 28
small n (inl e) = omega (arith, e)
small n (inr (k, le, e)) = let p : 2 ^ k ≤ 2 ^ 24 = pow_mono le in omega (arith, p, e)

pub whole : (n : ℕ) → IsCapacity n → n % 16 ≡ 0
whole n (inl e) = omega (arith, e)
whole n (inr (k, le, e)) = omega (arith, e)

-- the groups of a table that has some
pub groups_of : (n : ℕ) → IsCapacity n → 0 < n → IsGroupCount (n / 16)
groups_of n (inl e) some = absurd (omega (arith, e, some))
groups_of n (inr (k, le, e)) some = group_count k (n / 16) le (omega (arith, e))

pub first_size : IsCapacity 16
first_size = inr (0, omega arith, refl)

pub more_groups : (m n : ℕ) → IsCapacity m → IsCapacity n → m < n → 14 * (m / 16) < 14 * (n / 16)
more_groups m n a b lt = omega (arith, whole m a, whole n b, lt)

pub double_fits : (n : ℕ) → IsCapacity n → n ≢ 0 → n ≢ 2 ^ 28 → IsCapacity (2 * n)
double_fits n (inl e) some most = absurd (some e)
double_fits n (inr (k, le, e)) some most = elim (cases_eq k 24) [
  | inl top ↦ absurd (most (e ∙ ap (λ j. 16 * 2 ^ j) top))
  | inr other ↦ inr (k + 1, omega (arith, le, other), omega (arith, e, next k))
]
  where
    next : (k : ℕ) → 2 ^ (k + 1) ≡ 2 * 2 ^ k
    next k = (let s : k + 1 ≡ suc k = omega arith in ap (λ j. 2 ^ j) s) ∙ two-pow-succ k ∙ omega arith

twice_power : (k : ℕ) → 2 ^ (k + 1) ≡ 2 * 2 ^ k
twice_power k = (let s : k + 1 ≡ suc k = omega arith in ap (λ j. 2 ^ j) s) ∙ two-pow-succ k ∙ omega arith

-- no capacity lies between one and its double
pub no_size_between : (k d : ℕ) → IsCapacity d → 16 * 2 ^ k ≤ d → d < 2 * (16 * 2 ^ k) → d ≡ 16 * 2 ^ k
no_size_between k d (inl e) low high = omega (arith, e, low, one-le-pow k 2 (omega arith))
no_size_between k d (inr (j, le, e)) low high = elim (cases_eq j k) [
  | inl same ↦ e ∙ ap (λ x. 16 * 2 ^ x) same
  | inr other ↦ absurd (elim (dec_lt j k) [
    | yes lt ↦ let p : 2 ^ (j + 1) ≤ 2 ^ k = pow_mono (let f : j + 1 ≤ k = omega (arith, lt) in f) in omega (arith, p, twice_power j, e, low, one-le-pow j 2 (omega arith))
    | no ge ↦ let p : 2 ^ (k + 1) ≤ 2 ^ j = pow_mono (let f : k + 1 ≤ j = omega (arith, ge, other) in f) in omega (arith, p, twice_power k, e, high)
  ])
]

pub power_some : (k : ℕ) → 1 ≤ 2 ^ k
power_some k = one-le-pow k 2 (omega arith)

pub next_size : (k n : ℕ) → k ≤ 24 → n ≡ 16 * 2 ^ k → n ≢ 2 ^ 28 → (j : ℕ) × (j ≤ 24) × (2 * n ≡ 16 * 2 ^ j)
next_size k n le e most = elim (cases_eq k 24) [
  | inl top ↦ absurd (most (e ∙ ap (λ j. 16 * 2 ^ j) top))
  | inr other ↦ (k + 1, omega (arith, le, other), omega (arith, e, twice_power k))
]
