-- The digits of a number, two at a time, and the bytes that they are written over.
use Rattle.std.proofs.Common.{◌≡◌, ◌≤◌, ◌<◌, ◌+◌, ◌-◌, ◌*◌, ◌/◌, ◌%◌, ◌^◌, ◌&&◌, ◌∷◌, ◌++◌, ◌∙◌, [], ℕ, zero, suc, Bool, true, T, eqb, List, inl, inr, get_or, set, refl, ap, sym, length, take, arith, append_assoc, eq-zero-or-pos, eqb→eq, length-set}
use Rattle.std.specs.Fmt.{decimal}
use Rattle.std.proofs.lemmas.Fmt.{decimal_digit, decimal_step}
use Rattle.std.proofs.lemmas.Grind.{take-set_at}
use lib.Ieee.Fits.{and_l, and_r}
use Rattle.gq_reply.specs.declared.digits.TheConstants.{PAIRS}

-- two digits of a number below 100
abbrev pub pair : ℕ → List ℕ
pair p = (48 + p / 10) ∷ (48 + p % 10) ∷ []

abbrev are_pairs : ℕ → Bool
are_pairs zero = true
are_pairs (suc p) = (eqb (get_or PAIRS (p * 2) 0) (48 + p / 10) && eqb (get_or PAIRS (p * 2 + 1) 0) (48 + p % 10)) && are_pairs p

below : (n p : ℕ) → T (are_pairs n) → p < n → (get_or PAIRS (p * 2) 0 ≡ 48 + p / 10) × (get_or PAIRS (p * 2 + 1) 0 ≡ 48 + p % 10)
below zero p t h = absurd (omega arith)
below (suc n) p t h =
    elim (eq-zero-or-pos (n - p)) [
      | inl z ↦ let e : p ≡ n = omega arith in let a = and_l _ (are_pairs n) t in rw e (eqb→eq _ _ (and_l _ _ a), eqb→eq _ _ (and_r _ _ a))
      | inr g ↦ below n p (and_r _ (are_pairs n) t) (omega arith)
    ]

pub pair_at : (p : ℕ) → p < 100 → (get_or PAIRS (p * 2) 0 ≡ 48 + p / 10) × (get_or PAIRS (p * 2 + 1) 0 ≡ 48 + p % 10)
pair_at p h = below 100 p tt h

-- two bytes written one after the other
pub two_written : (buffer : List ℕ) (at a b : ℕ) → at + 2 ≤ length buffer → take (at + 2) (set (set buffer at a) (at + 1) b) ≡ take at buffer ++ a ∷ b ∷ []
two_written buffer at a b fits =
    take-set_at (set buffer at a) (at + 1) (at + 2) b (omega arith) (omega (arith, length-set buffer at a))
    ∙ ap (λ l. l ++ b ∷ []) (take-set_at buffer at (at + 1) a refl (omega arith)) ∙ append_assoc (take at buffer) (a ∷ []) (b ∷ [])

pub one_digit : (n : ℕ) → n < 10 → (48 + n) ∷ [] ≡ decimal n
one_digit n high = sym (decimal_digit n high)

pub two_digits : (n : ℕ) → 10 ≤ n → n < 100 → pair n ≡ decimal n
two_digits n low high = sym (rw (decimal_step n low (omega arith), decimal_digit (n / 10) (omega arith)))

-- the last two digits of a number that has more
pub two_more : (n : ℕ) → 100 ≤ n → n < 2 ^ 64 → decimal (n / 100) ++ pair (n % 100) ≡ decimal n
two_more n low high =
    let a : n / 10 / 10 ≡ n / 100 = omega arith in
    let b : n / 10 % 10 ≡ n % 100 / 10 = omega arith in
    let c : n % 10 ≡ n % 100 % 10 = omega arith in
    sym (rw (decimal_step n (omega arith) high, decimal_step (n / 10) (omega arith) (omega arith), append_assoc, a, b, ← c))

-- the last four
pub four_more : (n : ℕ) → 10000 ≤ n → n < 2 ^ 64 → (decimal (n / 10000) ++ pair (n % 10000 / 100)) ++ pair (n % 10000 % 100) ≡ decimal n
four_more n low high =
    let a : n / 100 / 100 ≡ n / 10000 = omega arith in
    let b : n / 100 % 100 ≡ n % 10000 / 100 = omega arith in
    let c : n % 100 ≡ n % 10000 % 100 = omega arith in
    (λ i. (decimal (sym a i) ++ pair (sym b i)) ++ pair (sym c i)) ∙ ap (λ l. l ++ pair (n % 100)) (two_more (n / 100) (omega arith) (omega arith)) ∙ two_more n (omega arith) high
