-- How tokens are spelled, and that lines are split by longest match.
use Rattle.std.specs.Prelude.{◌≡◌, ℕ, ◌≤◌, ℤ, ◌==◌, Bool, true, false, List, [], ◌∷◌, ◌++◌, length, Some, None, if◌then◌else◌, ◌&&◌, codes, ◌⊎◌}
use Rattle.std.specs.List.{list_all}
use Rattle.std.specs.Str.{all_ascii_digits}
use Rattle.std.specs.Str.Parse.{digits_value}
use Rattle.gq_token.specs.declared.token.Terminal.{Terminal}
use Rattle.gq_token.specs.declared.token.Terminal.TheVariants as terminal
use Rattle.gq_token.specs.declared.token.Token.{Token}
use Rattle.gq_token.specs.declared.token.Token.TheVariants.{Fixed, Name, Number, Text}
use Rattle.gq_token.specs.Texts.{Bytes, some}
use Rattle.gq_token.specs.Results.{◌>>=◌}
use Rattle.gq_token.specs.Lexing.{starts_word, is_word_byte, lookup_word, reserved_words, lower, signed, begins, token_at, lexed, skip_blanks}

abbrev pub signs : List (Bytes × Terminal)
signs = (codes "(", terminal.Open)
    ∷ (codes ")", terminal.Close)
    ∷ (codes ",", terminal.Comma)
    ∷ (codes "*", terminal.Star)
    ∷ (codes "=", terminal.Equal)
    ∷ (codes "<>", terminal.NotEqual)
    ∷ (codes "<", terminal.Less)
    ∷ (codes "<=", terminal.LessEqual)
    ∷ (codes ">", terminal.Greater)
    ∷ (codes ">=", terminal.GreaterEqual)
    ∷ []

-- whether a text is a word: a letter or an underscore, and then letters, digits and underscores
abbrev pub is_word : Bytes → Bool
is_word [] = false
is_word (b ∷ bs) = starts_word b && list_all is_word_byte bs

abbrev pub doubled : ℕ → Bytes → Bytes
doubled q [] = []
doubled q (b ∷ bs) = if b == q then q ∷ q ∷ doubled q bs else b ∷ doubled q bs

-- a text in quotes, with each quote in it doubled
abbrev pub in_quotes : ℕ → Bytes → Bytes
in_quotes q bs = q ∷ (doubled q bs ++ q ∷ [])

-- an optional sign directly before digits
abbrev pub SignBefore : Bytes → Bool → Bytes → Type 0
SignBefore piece negative digits = ((piece ≡ digits) × (negative ≡ false)) ⊎ (((piece ≡ 43 ∷ digits) × (negative ≡ false)) ⊎ ((piece ≡ 45 ∷ digits) × (negative ≡ true)))

pub record IsInt (piece : Bytes) (z : ℤ) : Type 0 where
  pub negative : Bool
  pub digits : Bytes
  pub sign : SignBefore piece negative digits
  pub filled : some digits ≡ true
  pub all : all_ascii_digits digits ≡ true
  pub value : signed negative (digits_value 10 digits) ≡ Some z

-- the piece spells the token, if `rest` follows it
abbrev pub Spells : Bytes → Bytes → Token → Type 0
Spells piece rest (Fixed t) = ((is_word piece ≡ true) × (lookup_word reserved_words (lower piece) ≡ Some t)) ⊎ (lookup_word signs piece ≡ Some t)
Spells piece rest (Name n) = ((is_word piece ≡ true) × (lookup_word reserved_words (lower piece) ≡ None) × (piece ≡ n)) ⊎ ((piece ≡ in_quotes 34 n) × (some n ≡ true) × (begins (λ c. c == 34) rest ≡ false))
Spells piece rest (Number z) = IsInt piece z × (begins is_word_byte rest ≡ false)
Spells piece rest (Text s) = (piece ≡ in_quotes 39 s) × (begins (λ c. c == 39) rest ≡ false)

-- the token is spelled by the longest prefix that spells one
pub record Longest (bs : Bytes) (t : Token) (rest : Bytes) : Type 0 where
  pub piece : Bytes
  pub cut : bs ≡ piece ++ rest
  pub spelled : Spells piece rest t
  pub longest : (other : Bytes) (behind : Bytes) (u : Token) → bs ≡ other ++ behind → Spells other behind u → length other ≤ length piece

-- no prefix spells a token
abbrev pub Unspelled : Bytes → Type 0
Unspelled bs = (other : Bytes) (behind : Bytes) (u : Token) → bs ≡ other ++ behind → Spells other behind u → ⊥

-- the token that is taken is spelled by the longest prefix
abbrev pub TakesLongest : Type 0
TakesLongest = (bs : Bytes) → elim (token_at bs) [ None ↦ Unspelled bs | Some x ↦ Longest bs x.0 x.1 ]

-- the tokens of a text: none after its blanks, or one and those after it
abbrev pub CutsAll : Type 0
CutsAll = (bs : Bytes) → lexed bs ≡ elim (skip_blanks bs) [ [] ↦ Some [] | b ∷ rest ↦ (token_at (b ∷ rest) >>= λ first. lexed first.1 >>= λ others. Some (first.0 ∷ others)) ]
