-- The tokens of a line, by longest match, with spaces and tabs between tokens.
use Rattle.std.specs.Prelude.{ℕ, ℤ, pos, neg_ℤ, zero, suc, ◌^◌, ◌==◌, nat_lt, nat_le, Bool, true, false, List, [], ◌∷◌, length, take, drop, Option, Some, None, if◌then◌else◌, ◌&&◌, ◌||◌, map, codes}
use Rattle.std.specs.Char.{is_ascii_digit, is_ascii_alphabetic, to_ascii_lowercase}
use Rattle.std.specs.List.{prefix_len}
use Rattle.std.specs.Str.{bytes_eq, is_utf8}
use Rattle.std.specs.Str.Parse.{digits_value}
use Rattle.gq_token.specs.declared.token.Terminal.{Terminal}
use Rattle.gq_token.specs.declared.token.Terminal.TheVariants as terminal
use Rattle.gq_token.specs.declared.token.Token.{Token}
use Rattle.gq_token.specs.declared.token.Token.TheVariants.{Fixed, Name, Number, Text}
use Rattle.gq_token.specs.Texts.{Bytes, some}
use Rattle.gq_token.specs.Results.{◌>>=◌}

abbrev pub is_blank : ℕ → Bool
is_blank b = (b == 32) || (b == 9)

-- whether a byte begins a word: a letter or an underscore
abbrev pub starts_word : ℕ → Bool
starts_word b = is_ascii_alphabetic b || (b == 95)

abbrev pub is_word_byte : ℕ → Bool
is_word_byte b = starts_word b || is_ascii_digit b

abbrev pub skip_blanks : Bytes → Bytes
skip_blanks bs = drop (prefix_len is_blank bs) bs

-- the first word of a line: after its blanks, the longest run of letters, digits and underscores
abbrev pub first_word : Bytes → Bytes
first_word line = let bs = skip_blanks line in take (prefix_len is_word_byte bs) bs

-- the text before the closing quote, in which doubled quotes are undone, and what follows that quote
abbrev pub with_byte : ℕ → Option (Bytes × Bytes) → Option (Bytes × Bytes)
with_byte b read = read >>= λ x. Some (b ∷ x.0, x.1)

abbrev pub quoted : ℕ → Bytes → Option (Bytes × Bytes)
quoted q [] = None
quoted q (b ∷ []) = if b == q then Some ([], []) else None
quoted q (b ∷ c ∷ rest) = if b == q then (if c == q then with_byte q (quoted q rest) else Some ([], c ∷ rest)) else with_byte b (quoted q (c ∷ rest))

-- the terminal with this spelling
abbrev pub lookup_word : List (Bytes × Terminal) → Bytes → Option Terminal
lookup_word [] w = None
lookup_word (e ∷ es) w = if bytes_eq w e.0 then Some e.1 else lookup_word es w

abbrev pub reserved_words : List (Bytes × Terminal)
reserved_words = (codes "create", terminal.Create)
    ∷ (codes "drop", terminal.Drop)
    ∷ (codes "load", terminal.Load)
    ∷ (codes "upsert", terminal.Upsert)
    ∷ (codes "delete", terminal.Delete)
    ∷ (codes "show", terminal.Show)
    ∷ (codes "group", terminal.Group)
    ∷ (codes "distinct", terminal.Distinct)
    ∷ (codes "by", terminal.By)
    ∷ (codes "on", terminal.On)
    ∷ (codes "where", terminal.Where)
    ∷ (codes "not", terminal.Not)
    ∷ (codes "exists", terminal.Exists)
    ∷ (codes "having", terminal.Having)
    ∷ (codes "and", terminal.And)
    ∷ (codes "is", terminal.Is)
    ∷ (codes "null", terminal.Null)
    ∷ (codes "key", terminal.Key)
    ∷ (codes "int", terminal.Int)
    ∷ (codes "text", terminal.Text)
    ∷ (codes "count", terminal.Count)
    ∷ (codes "sum", terminal.Sum)
    ∷ (codes "min", terminal.Min)
    ∷ (codes "max", terminal.Max)
    ∷ (codes "nocase", terminal.NoCase)
    ∷ (codes "rollup", terminal.Rollup)
    ∷ []

-- a bare word: a reserved one in any case, or a name
abbrev pub lower : Bytes → Bytes
lower w = map to_ascii_lowercase w

unfoldable pub word : Bytes → Token
word w = elim (lookup_word reserved_words (lower w)) [ Some t ↦ Fixed t | None ↦ Name w ]

-- the number with this sign, if it fits 64 bits
abbrev pub signed : Bool → ℕ → Option ℤ
signed negative n = if negative then (if nat_le n (2 ^ 63) then Some (neg_ℤ (pos n)) else None) else (if nat_lt n (2 ^ 63) then Some (pos n) else None)

abbrev pub begins : (ℕ → Bool) → Bytes → Bool
begins test [] = false
begins test (b ∷ bs) = test b

-- the number of the leading digits, if no letter, digit or underscore follows them
unfoldable pub digits_at : Bool → Bytes → Option (Token × Bytes)
digits_at negative bs =
    let n = prefix_len is_ascii_digit bs in
    if (n == 0) || begins is_word_byte (drop n bs) then None else (signed negative (digits_value 10 (take n bs)) >>= λ z. Some (Number z, drop n bs))

-- the first sign, of two bytes if it can be
unfoldable pub sign_at : Bytes → Option (Token × Bytes)
sign_at [] = None
sign_at (b ∷ rest) =
    if (b == 60) && begins (λ c. c == 62) rest then Some (Fixed terminal.NotEqual, drop 1 rest)
    else (if (b == 60) && begins (λ c. c == 61) rest then Some (Fixed terminal.LessEqual, drop 1 rest)
    else (if (b == 62) && begins (λ c. c == 61) rest then Some (Fixed terminal.GreaterEqual, drop 1 rest)
    else (if b == 40 then Some (Fixed terminal.Open, rest)
    else (if b == 41 then Some (Fixed terminal.Close, rest)
    else (if b == 44 then Some (Fixed terminal.Comma, rest)
    else (if b == 42 then Some (Fixed terminal.Star, rest)
    else (if b == 61 then Some (Fixed terminal.Equal, rest)
    else (if b == 60 then Some (Fixed terminal.Less, rest)
    else (if b == 62 then Some (Fixed terminal.Greater, rest)
    else None)))))))))

unfoldable pub word_at : Bytes → Option (Token × Bytes)
word_at bs = let n = prefix_len is_word_byte bs in Some (word (take n bs), drop n bs)

unfoldable pub name_in_quotes : Bytes → Option (Token × Bytes)
name_in_quotes bs = quoted 34 bs >>= λ x. if some x.0 then Some (Name x.0, x.1) else None

unfoldable pub text_in_quotes : Bytes → Option (Token × Bytes)
text_in_quotes bs = quoted 39 bs >>= λ x. Some (Text x.0, x.1)

-- the first token
unfoldable pub token_at : Bytes → Option (Token × Bytes)
token_at [] = None
token_at (b ∷ rest) =
    if starts_word b then word_at (b ∷ rest)
    else (if is_ascii_digit b then digits_at false (b ∷ rest)
    else (if b == 43 then digits_at false rest
    else (if b == 45 then digits_at true rest
    else (if b == 34 then name_in_quotes rest
    else (if b == 39 then text_in_quotes rest
    else sign_at (b ∷ rest))))))

-- the tokens of bytes without leading blanks, at most `n`
unfoldable pub tokens_within : ℕ → Bytes → Option (List Token)
tokens_within n [] = Some []
tokens_within zero (b ∷ rest) = None
tokens_within (suc n) (b ∷ rest) = do
  first ← token_at (b ∷ rest)
  others ← tokens_within n (skip_blanks first.1)
  Some (first.0 ∷ others)

unfoldable pub lexed : Bytes → Option (List Token)
lexed bs = tokens_within (length bs) (skip_blanks bs)

-- the tokens of a line, or none if it isn't UTF-8 or can't be split into tokens
unfoldable pub tokens : Bytes → Option (List Token)
tokens line = if is_utf8 line then lexed line else None
