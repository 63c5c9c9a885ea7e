-- The bits of a mask.
use Rattle.std.specs.Prelude.{◌≡◌, ℕ, zero, suc, ◌/◌, ◌%◌, ◌^◌, ◌<◌, ◌==◌, Bool, false, List, [], ◌∷◌, slice_set}
use Rattle.std.proofs.Common.{cond, eqb, refl, arith}
use Rattle.std.proofs.Math.Nat.{two-pow-succ}
use Rattle.std.specs.List.{position_or_len}
use Rattle.std.specs.Simd.Lanes.{mask_l}

-- the `n` lowest bits of `b`, the lowest first
unfoldable pub bits_of : ℕ → ℕ → List Bool
bits_of zero b = []
bits_of (suc n) b = (b % 2 == 1) ∷ bits_of n (b / 2)

-- the number with these bits: the sum of 2^i over the positions i that are set
abbrev pub number_of : List Bool → ℕ
number_of = mask_l

-- bits with the first set one cleared
abbrev pub without_first : List Bool → List Bool
without_first bs = slice_set bs (position_or_len (λ b. b) bs) false

digit : (d : ℕ) → d < 2 → cond (eqb d 1) 1 0 ≡ d
digit zero h = refl
digit (suc zero) h = refl
digit (suc (suc d)) h = absurd (omega arith)

-- a number below 2^n is that of its `n` lowest bits
pub number_of-bits_of : (n b : ℕ) → b < 2 ^ n → number_of (bits_of n b) ≡ b
unfolding bits_of
number_of-bits_of zero b h = omega arith
number_of-bits_of (suc n) b h =
    let small : b / 2 < 2 ^ n = omega (arith, two-pow-succ n) in
    omega (arith, digit (b % 2) (omega arith), number_of-bits_of n (b / 2) small)
