-- Numbers, digit by digit.
use Rattle.std.proofs.Common.{◌≡◌, ◌+◌, ◌-◌, ◌*◌, ◌^◌, ◌<◌, ◌≤◌, ℕ, Bool, true, false, cond, List, [], ◌∷◌, length, drop, get_or, Option, Some, None, refl, sym, ◌∙◌, ap, add-one, arith}
use Rattle.std.specs.Prelude.{nat_le, nat_lt, ◌&&◌}
use Rattle.std.specs.Char.{digit_value, is_ascii_digit}
use Rattle.std.specs.Str.{all_ascii_digits}
use Rattle.std.specs.Str.Parse.{digits_value, digits_value_after}
use Rattle.std.proofs.Math.Nat.{pow-le-pow_right, pow-succ'}
use Rattle.std.proofs.lemmas.Bool.Decides.{nat_tests}
use Rattle.std.proofs.lemmas.List.{drop_more}
use Rattle.gq_load.specs.Numbers.{is_filled, magnitude, of_digits, signed}

-- more digits make no smaller number
pub after_le : (ds : List ℕ) (n : ℕ) → n ≤ digits_value_after 10 n ds
after_le [] n = omega arith
after_le (d ∷ ds) n = let more = after_le ds (n * 10 + digit_value d) in omega (arith, more)

pub some_other : (ds : List ℕ) → all_ascii_digits ds ≡ false → magnitude ds ≡ None
some_other ds e = by (is_filled ds)
  where
    by : (b : Bool) → cond (b && all_ascii_digits ds && nat_lt (digits_value 10 ds) (2 ^ 64)) (Some (digits_value 10 ds)) None ≡ None
    by true = rw e refl
    by false = refl

pub too_great : (ds : List ℕ) → 2 ^ 64 ≤ digits_value 10 ds → magnitude ds ≡ None
too_great ds h = by (is_filled ds) (all_ascii_digits ds)
  where
    over : nat_lt (digits_value 10 ds) (2 ^ 64) ≡ false
    over = grind (arith, nat_tests)

    by : (b c : Bool) → cond (b && c && nat_lt (digits_value 10 ds) (2 ^ 64)) (Some (digits_value 10 ds)) None ≡ None
    by true true = rw over refl
    by true false = refl
    by false c = refl

pub spelled : (ds : List ℕ) (n : ℕ) → is_filled ds ≡ true → all_ascii_digits ds ≡ true → digits_value 10 ds ≡ n → n < 2 ^ 64 → magnitude ds ≡ Some n
spelled ds n f a v h =
    let under : nat_lt n (2 ^ 64) ≡ true = grind (arith, nat_tests) in
    rw (f, a, v, under) refl

-- a sign before them

no_sign : (negative : Bool) (n : ℕ) → nat_lt n (2 ^ 64) ≡ false → signed negative n ≡ None
no_sign true n e = let over : nat_le n (2 ^ 63) ≡ false = grind (arith, nat_tests) in rw over refl
no_sign false n e = let over : nat_lt n (2 ^ 63) ≡ false = grind (arith, nat_tests) in rw over refl

pub none_signed : (negative : Bool) (ds : List ℕ) → magnitude ds ≡ None → of_digits negative ds ≡ None
none_signed negative ds e = by (is_filled ds) (all_ascii_digits ds) (nat_lt (digits_value 10 ds) (2 ^ 64)) refl e
  where
    by : (b c d : Bool) → nat_lt (digits_value 10 ds) (2 ^ 64) ≡ d → cond (b && c && d) (Some (digits_value 10 ds)) None ≡ None → cond (b && c) (signed negative (digits_value 10 ds)) None ≡ None
    by false c d t e = refl
    by true false d t e = refl
    by true true true t e = let none : ⊥ = cc in absurd none
    by true true false t e = no_sign negative (digits_value 10 ds) t

pub some_signed : (negative : Bool) (ds : List ℕ) (n : ℕ) → magnitude ds ≡ Some n → of_digits negative ds ≡ signed negative n
some_signed negative ds n e = by (is_filled ds) (all_ascii_digits ds) (nat_lt (digits_value 10 ds) (2 ^ 64)) e
  where
    number : Option ℕ → ℕ
    number None = n
    number (Some m) = m

    by : (b c d : Bool) → cond (b && c && d) (Some (digits_value 10 ds)) None ≡ Some n → cond (b && c) (signed negative (digits_value 10 ds)) None ≡ signed negative n
    by false c d e = let none : ⊥ = cc in absurd none
    by true false d e = let none : ⊥ = cc in absurd none
    by true true false e = let none : ⊥ = cc in absurd none
    by true true true e = ap (signed negative) (ap number e)

-- one digit of many

pub stops_at : (ds : List ℕ) (i : ℕ) → i < length ds → is_ascii_digit (get_or ds i 0) ≡ false → all_ascii_digits (drop i ds) ≡ false
stops_at ds i h e = rw (drop_more ds i 0 h, e) refl

pub grows : (ds : List ℕ) (i value : ℕ) → i < length ds → digits_value_after 10 value (drop i ds) ≡ digits_value 10 ds → value * 10 + digit_value (get_or ds i 0) ≤ digits_value 10 ds
grows ds i value h e =
    let next : digits_value_after 10 value (drop i ds) ≡ digits_value_after 10 (value * 10 + digit_value (get_or ds i 0)) (drop (i + 1) ds) = rw (drop_more ds i 0 h) refl in
    rw (← e, next) (after_le (drop (i + 1) ds) (value * 10 + digit_value (get_or ds i 0)))

pub digit_is : (d : ℕ) → is_ascii_digit d ≡ true → digit_value d ≡ d - 48
digit_is d e = grind (arith, nat_tests)

-- a few digits, and more

pub filled_by_length : (ds : List ℕ) → 19 < length ds → is_filled ds ≡ true
filled_by_length [] h = let none : ⊥ = omega (arith, h) in absurd none
filled_by_length (d ∷ ds) h = refl

pub within_64 : (v i : ℕ) → v < 10 ^ i → i ≤ 19 → v < 2 ^ 64
within_64 v i h k =
    let top : 10 ^ i ≤ 10 ^ 19 = pow-le-pow_right (omega arith) k in
    omega (arith, h, top)

pub fits : (v i : ℕ) → v < 10 ^ i → i < 19 → v * 10 + 9 < 2 ^ 64
fits v i h k =
    let top : 10 ^ i ≤ 10 ^ 18 = pow-le-pow_right {n = 10} (omega arith) {j = 18} (omega (arith, k)) in
    omega (arith, h, top)

pub one_digit_more : (v i d : ℕ) → v < 10 ^ i → d ≤ 9 → v * 10 + d < 10 ^ (i + 1)
one_digit_more v i d h k =
    let next : 10 ^ (i + 1) ≡ 10 * 10 ^ i = rw (add-one i) (pow-succ' 10 i) in
    omega (arith, h, k, next)

pub over_nine : (digit byte : ℕ) → nat_le digit 9 ≡ is_ascii_digit byte → 9 < digit → is_ascii_digit byte ≡ false
over_nine digit byte is over = let more : nat_le digit 9 ≡ false = grind (arith, nat_tests) in sym is ∙ more

pub within_63 : (v i : ℕ) → v < 10 ^ i → i < 19 → v < 2 ^ 63
within_63 v i h k =
    let top : 10 ^ i ≤ 10 ^ 18 = pow-le-pow_right {n = 10} (omega arith) {j = 18} (omega (arith, k)) in
    omega (arith, h, top)
