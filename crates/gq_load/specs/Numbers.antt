-- Which whole number a field of an INT column spells.
use Rattle.std.specs.Prelude.{ℕ, ℤ, pos, neg_ℤ, Bool, true, false, ◌==◌, ◌&&◌, ◌^◌, not, nat_lt, nat_le, List, [], ◌∷◌, take, drop, Option, Some, None, if◌then◌else◌}
use Rattle.std.specs.List.{prefix_len, list_all}
use Rattle.std.specs.Str.{all_ascii_digits}
use Rattle.std.specs.Str.Parse.{digits_value, starts_with_minus, without_leading_sign}

-- U+0020, and no other white space
abbrev pub is_space : ℕ → Bool
is_space b = b == 32

abbrev pub is_filled : List ℕ → Bool
is_filled [] = false
is_filled (b ∷ bs) = true

-- a number and its sign, from -2^63 to 2^63 - 1
abbrev pub signed : Bool → ℕ → Option ℤ
signed negative n = if negative then (if nat_le n (2 ^ 63) then Some (neg_ℤ (pos n)) else None) else (if nat_lt n (2 ^ 63) then Some (pos n) else None)

-- one or more digits after a sign
abbrev pub of_digits : Bool → List ℕ → Option ℤ
of_digits negative digits = if is_filled digits && all_ascii_digits digits then signed negative (digits_value 10 digits) else None

-- an optional sign, and one or more digits
unfoldable pub number_of : List ℕ → Option ℤ
number_of piece = of_digits (starts_with_minus piece) (without_leading_sign piece)

-- spaces, a number, and spaces
unfoldable pub int_of : List ℕ → Option ℤ
int_of field =
    let body = drop (prefix_len is_space field) field in
    let end = prefix_len (λ b. not (is_space b)) body in
    if list_all is_space (drop end body) then number_of (take end body) else None

-- one or more digits, if their number is below 2^64
abbrev pub magnitude : List ℕ → Option ℕ
magnitude digits = if is_filled digits && all_ascii_digits digits && nat_lt (digits_value 10 digits) (2 ^ 64) then Some (digits_value 10 digits) else None
