-- Products of 128 bits.
use Rattle.std.proofs.Common.{◌≡◌, ℕ, ◌*◌, ◌^◌, ◌<◌, arith, subst, sym}

-- a word by 2^64 by the golden ratio
pub product_fits : (x k : ℕ) → k ≡ 0x9e3779b97f4a7c15 → x < 2 ^ 64 → x * k < 2 ^ 128
product_fits x k is h = subst (λ m. x * m < 2 ^ 128) (sym is) (omega (arith, h))
