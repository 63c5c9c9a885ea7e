-- Digits as numbers of 64 bits.
use Rattle.std.proofs.Common.{◌≡◌, ℕ, ℤ, pos, suc, ◌+◌, ◌^◌, ◌<◌, Bool, true, false, List, [], ◌∷◌, take, length, None, Result, Ok, Err, refl, arith, rules}
use Rattle.std.specs.Prelude.{nat_le, nat_lt}
use Rattle.std.specs.Int.{w64}
use Rattle.std.specs.List.{prefix_len}
use Rattle.std.specs.Result.{OkIff, result_ok}
use Rattle.std.specs.Char.{is_ascii_digit}
use Rattle.std.specs.Str.{all_ascii_digits}
use Rattle.std.specs.Str.Parse.{digits_value, ParsesUnsigned, ParsesSigned}
use Rattle.std.proofs.lemmas.Str.Parse.{IsNumeralModel, numerals_by_value, parse_digits, parse_signed_digits}
use Rattle.std.proofs.lemmas.Bool.Decides.{nat_tests}
use Rattle.gq_token.specs.Lexing.{signed}

own : IsNumeralModel (λ ds. all_ascii_digits ds ≡ true) (digits_value 10)
own = numerals_by_value (λ ds. all_ascii_digits ds ≡ true) (search rules)

large : {E : Type 0} (r : Result ℕ E) (n : ℕ) (P : Type 0) → OkIff r (P × (n < 2 ^ 64)) n → P → result_ok r ≡ None → signed true n ≡ None
large (Ok m) n P h p e = absurd cc
large (Err x) n P h p e =
    let no : n < 2 ^ 64 → ⊥ = λ lt. h (p, lt) in
    let over : nat_le n (2 ^ 63) ≡ false = grind (arith, nat_tests) in
    rw over refl

pub too_large : {E : Type 0} (ds : List ℕ) (r : Result ℕ E) → ParsesUnsigned 64 10 ds r → 0 < length ds → all_ascii_digits ds ≡ true → result_ok r ≡ None → signed true (digits_value 10 ds) ≡ None
too_large ds r h some digits e = large r (digits_value 10 ds) (0 < length ds) (parse_digits own 64 ds r h digits) some e

plain : {E : Type 0} (r : Result ℤ E) (n : ℕ) (P : Type 0) → OkIff r (P × (n < 2 ^ 63)) (pos n) → P → result_ok r ≡ signed false n
plain (Ok m) n P h p =
    let lt : n < 2 ^ 63 = h.0.1 in
    let under : nat_lt n (2 ^ 63) ≡ true = grind (arith, nat_tests) in
    rw (under, h.1) refl
plain (Err x) n P h p =
    let no : n < 2 ^ 63 → ⊥ = λ lt. h (p, lt) in
    let over : nat_lt n (2 ^ 63) ≡ false = grind (arith, nat_tests) in
    rw over refl

pub parsed : {E : Type 0} (ds : List ℕ) (r : Result ℤ E) → ParsesSigned w64 10 ds r → 0 < length ds → all_ascii_digits ds ≡ true → result_ok r ≡ signed false (digits_value 10 ds)
parsed ds r h some digits = plain r (digits_value 10 ds) (0 < length ds) (parse_signed_digits own w64 ds r h digits) some

-- the leading digits are digits
pub front_digits : (bs : List ℕ) → all_ascii_digits (take (prefix_len is_ascii_digit bs) bs) ≡ true
front_digits [] = refl
front_digits (b ∷ bs) = by_digit (is_ascii_digit b) refl (front_digits bs)
  where
    by_digit : (t : Bool) → is_ascii_digit b ≡ t → all_ascii_digits (take (prefix_len is_ascii_digit bs) bs) ≡ true → all_ascii_digits (take (prefix_len is_ascii_digit (b ∷ bs)) (b ∷ bs)) ≡ true
    by_digit true e others =
        let n : 1 + prefix_len is_ascii_digit bs ≡ suc (prefix_len is_ascii_digit bs) = omega arith in
        rw (e, n) (rw e others)
    by_digit false e others = rw e refl
