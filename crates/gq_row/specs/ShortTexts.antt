-- Texts of up to 22 bytes, stored inline.
use Rattle.std.specs.Prelude.{◌≡◌, ◌-◌, ◌≤◌, ◌<◌, ◌++◌, ℕ, List, length, take, drop, replicate, IsUtf8}
use Rattle.std.proofs.Common.{◌∙◌, ap, sym, arith, take-append-drop, length-take-le}

-- 22 bytes are a UTF-8 text of length `len`, padded with zeros
pub record IsShort (len : ℕ) (bytes : List ℕ) : Type 0 where
  pub fits : len ≤ 22
  pub whole : length bytes ≡ 22
  pub text : ∥ IsUtf8 (take len bytes) ∥₁
  pub zeros : drop len bytes ≡ replicate (22 - len) 0

-- of eight bytes the first `len` are a UTF-8 text, and the others are zeros
pub record IsPadded (len : ℕ) (bytes : List ℕ) : Type 0 where
  pub few : len < 8
  pub text : ∥ IsUtf8 (take len bytes) ∥₁
  pub zeros : drop len bytes ≡ replicate (8 - len) 0

-- a short text alone determines its length and all 22 bytes
pub whole_again : (len : ℕ) (bytes : List ℕ) → IsShort len bytes
    → (length (take len bytes) ≡ len) × (take len bytes ++ replicate (22 - length (take len bytes)) 0 ≡ bytes)
whole_again len bytes h =
    let long : length (take len bytes) ≡ len = length-take-le len bytes (omega (arith, h.fits, h.whole)) in
    (long, ap (λ n. take len bytes ++ replicate (22 - n) 0) long ∙ ap (λ rest. take len bytes ++ rest) (sym h.zeros) ∙ take-append-drop len bytes)
