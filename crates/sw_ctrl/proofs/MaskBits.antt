-- The places of a mask as the bits of its number.
use Rattle.std.proofs.Common.{◌≡◌, ℕ, zero, suc, ◌+◌, ◌-◌, ◌/◌, ◌%◌, ◌^◌, ◌<◌, ◌≤◌, Bool, true, false, nat_eq, List, length, get_or, w16, sym, ap, ◌∙◌, arith}
use mathlib.Core.Bool.{true≢false}
use native.Mathlib.Decide.{dec_lt}
use Rattle.std.proofs.Math.Nat.{two-pow-succ, div-one, div-div-eq-div-mul, div-le_self, zero-div}
use Rattle.std.proofs.lemmas.Nat.{pow-add}
use Rattle.std.proofs.lemmas.Nat.Bits.{bit_at-trailing_zeros}
use Rattle.std.proofs.lemmas.List.{get_or_past}
use Rattle.std.specs.Int.{bit_at, trailing_zeros}
use Rattle.sw_ctrl.specs.Bits.{bits_of}

next_power : (b i : ℕ) → b / 2 / 2 ^ i ≡ b / 2 ^ suc i
next_power b i = div-div-eq-div-mul b 2 (2 ^ i) ∙ ap (λ x. b / x) (sym (two-pow-succ i ∙ omega arith))

pub place_is : (n b i : ℕ) → b < 2 ^ n → get_or (bits_of n b) i false ≡ nat_eq (b / 2 ^ i % 2) 1
unfolding bits_of
place_is zero b i small =
    let none : b ≡ 0 = omega (arith, small) in
    sym (ap (λ x. nat_eq (x / 2 ^ i % 2) 1) none ∙ ap (λ x. nat_eq (x % 2) 1) (zero-div (2 ^ i)))
place_is (suc n) b zero small = ap (λ x. nat_eq (x % 2) 1) (sym (div-one b))
place_is (suc n) b (suc i) small = place_is n (b / 2) i (omega (arith, small, two-pow-succ n)) ∙ ap (λ x. nat_eq (x % 2) 1) (next_power b i)

pub shifted : (b f k : ℕ) → b / 2 ^ f / 2 ^ k ≡ b / 2 ^ (f + k)
shifted b f k = div-div-eq-div-mul b (2 ^ f) (2 ^ k) ∙ ap (λ x. b / x) (sym (pow-add 2 f k))

module _ (b f : ℕ) (ms : List Bool) (is : bits_of 16 b ≡ ms) (small : b < 2 ^ 16) where
  -- the places from f on are the bits of the number without its f lowest
  place_after : (k : ℕ) → get_or ms (f + k) false ≡ nat_eq (bit_at (b / 2 ^ f) k) 1
  place_after k = ap (λ m. get_or m (f + k) false) (sym is) ∙ place_is 16 b (f + k) small ∙ ap (λ x. nat_eq (x % 2) 1) (sym (shifted b f k))

  at_distance : (k : ℕ) → f ≤ k → get_or ms k false ≡ nat_eq (bit_at (b / 2 ^ f) (k - f)) 1
  at_distance k le = (let e : k ≡ f + (k - f) = omega (arith, le) in ap (λ j. get_or ms j false) e) ∙ place_after (k - f)

  pub none_after : b / 2 ^ f ≡ 0 → (k : ℕ) → f ≤ k → get_or ms k false ≡ false
  none_after e k le = at_distance k le ∙ ap (λ x. nat_eq (x / 2 ^ (k - f) % 2) 1) e ∙ ap (λ x. nat_eq (x % 2) 1) (zero-div (2 ^ (k - f)))

  module _ (some : 0 < b / 2 ^ f) where
    lowest : (trailing_zeros w16 (b / 2 ^ f) < 16) × (bit_at (b / 2 ^ f) (trailing_zeros w16 (b / 2 ^ f)) ≡ 1) × ((i : ℕ) → i < trailing_zeros w16 (b / 2 ^ f) → bit_at (b / 2 ^ f) i ≡ 0)
    lowest = bit_at-trailing_zeros w16 (b / 2 ^ f) some (omega (arith, small, div-le_self b (2 ^ f)))

    pub set_there : get_or ms (f + trailing_zeros w16 (b / 2 ^ f)) false ≡ true
    set_there = place_after (trailing_zeros w16 (b / 2 ^ f)) ∙ ap (λ x. nat_eq x 1) lowest.1

    pub set_within : length ms ≡ 16 → f + trailing_zeros w16 (b / 2 ^ f) < 16
    set_within long = elim (dec_lt (f + trailing_zeros w16 (b / 2 ^ f)) 16) [
      | yes lt ↦ lt
      | no ge ↦ absurd (true≢false (sym set_there ∙ get_or_past ms (f + trailing_zeros w16 (b / 2 ^ f)) false (omega (arith, long, ge))))
    ]

    pub none_between : (k : ℕ) → f ≤ k → k < f + trailing_zeros w16 (b / 2 ^ f) → get_or ms k false ≡ false
    none_between k le lt = at_distance k le ∙ ap (λ x. nat_eq x 1) (lowest.2 (k - f) (omega (arith, le, lt)))
