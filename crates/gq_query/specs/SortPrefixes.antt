-- Normalized sort keys: two words that say where a key is in the order.
use Rattle.std.specs.Prelude.{◌≡◌, Bool, true, not, ◌&&◌, ◌||◌, if◌then◌else◌, ℕ, ℤ, zero, suc, ◌+◌, ◌-◌, ◌*◌, ◌%◌, ◌^◌, ◌<◌, nat_eq, nat_le, negsuc, ◌-ℤ◌, List, [], ◌∷◌, drop, get_or, length, min, unsigned_abs, FitsSigned}
use Rattle.std.specs.Int.{w64}
use Rattle.gq_row.specs.declared.value.Value.{Value}
use Rattle.gq_row.specs.declared.value.Value.TheVariants.{Null, Int, Text, NoCase}
use Rattle.gq_row.specs.Folding.{fold_case}
use Rattle.gq_row.specs.Rows.{cell}
use Rattle.gq_query.specs.declared.sort_prefix.SortPrefix.{SortPrefix}
use Rattle.gq_query.specs.declared.sort_prefix.NextPrefixes.{NextPrefixes}

-- the first `n` bytes of a text as a big-endian number, padded with zeros
abbrev pub leading : ℕ → List ℕ → ℕ
leading zero text = 0
leading (suc n) [] = 0
leading (suc n) (byte ∷ text) = byte * 256 ^ n + leading n text

-- the distance of a number from the least one of 64 bits
abbrev pub from_least : ℤ → ℕ
from_least n = unsigned_abs (n -ℤ negsuc (2 ^ 63 - 1))

-- the word of a number: numbers of up to 55 bits and a sign have one each, between one for all lower and one for all higher numbers
abbrev pub number_word : ℤ → ℕ
number_word n = 2 * 2 ^ 56 - 1 + min (from_least n - (2 ^ 63 - 2 ^ 55 - 1)) (2 ^ 56 + 1)

-- the first six bytes of a text, and its length up to seven
abbrev pub text_word : List ℕ → ℕ
text_word text = leading 6 text * 256 + min (length text) 7

-- the eight bytes of a value: 0 for null, a number's word, 4 with the first bytes of a text and its length, 5 with those of the fold of a text without case
abbrev pub word_of : Value → ℕ
word_of Null = 0
word_of (Int n) = number_word n
word_of (Text text) = 4 * 2 ^ 56 + text_word text
word_of (NoCase text) = 5 * 2 ^ 56 + text_word (fold_case text)

-- the word of a text with more than six bytes
abbrev pub is_open : ℕ → Bool
is_open word = nat_le (4 * 2 ^ 56) word && nat_eq (word % 256) 7

-- the word of numbers that have none of their own
abbrev pub is_wide : ℕ → Bool
is_wide word = nat_eq word (2 * 2 ^ 56 - 1) || nat_eq word (3 * 2 ^ 56)

-- a word says all of its value
abbrev pub is_whole : ℕ → Bool
is_whole word = not (is_open word || is_wide word)

-- what the word of a value doesn't say: all of a number, and a text's bytes after the first six
abbrev pub rest_word : Value → ℕ
rest_word Null = 0
rest_word (Int n) = from_least n
rest_word (Text text) = word_of (Text (drop 6 text))
rest_word (NoCase text) = word_of (NoCase (drop 6 text))

-- the sixteen bytes of two values: the word of the first, then what it doesn't say, or if it says all, the word of the second
abbrev pub prefix_of : Value → Value → SortPrefix
prefix_of first second = record { high = word_of first; low = if is_whole (word_of first) then word_of second else rest_word first }

-- a value without the first `n` bytes of its text
abbrev pub without_bytes : ℕ → Value → Value
without_bytes n Null = Null
without_bytes n (Int m) = Int m
without_bytes n (Text text) = Text (drop n text)
without_bytes n (NoCase text) = NoCase (drop n text)

-- the values that a machine holds: numbers of 64 bits, and texts of bytes
abbrev pub IsOfBytes : Value → Type 0
IsOfBytes Null = Unit {0}
IsOfBytes (Int n) = FitsSigned w64 n
IsOfBytes (Text text) = (i : ℕ) → get_or text i 0 < 256
IsOfBytes (NoCase text) = (i : ℕ) → get_or text i 0 < 256

-- the word of a value that a machine holds
abbrev pub IsWord : Value → ℕ → Type 0
IsWord value word = (word ≡ word_of value) × IsOfBytes value

-- the prefix of two values that a machine holds; the second counts only if the first has a whole word
pub record IsPairPrefix (first second : Value) (prefix : SortPrefix) : Type 0 where
  pub is : prefix ≡ prefix_of first second
  pub first_held : IsOfBytes first
  pub second_held : is_whole prefix.high ≡ true → IsOfBytes second

-- the prefixes of a key without its first value, and without its first two
pub record AreNextPrefixes (key : List Value) (prefixes : NextPrefixes) : Type 0 where
  pub second : IsPairPrefix (cell key 1) (cell key 2) prefixes.second
  pub third : IsPairPrefix (cell key 2) (cell key 3) prefixes.third

-- a place in a key: the number of cells before it, and then of bytes of a text
abbrev pub Place : Type 0
Place = ℕ × ℕ

-- where keys go on whose words tie at a place: six bytes further in a text that has more, else at the next cell
abbrev pub past_word : ℕ → Place → Place
past_word word place = if is_open word then (place.0, place.1 + 6) else (suc place.0, 0)

-- where keys go on whose prefixes tie at a place; both words of a number beyond the others are of that number
abbrev pub past : SortPrefix → Place → Place
past prefix place = if is_wide prefix.high || is_wide prefix.low then past_word prefix.high place else past_word prefix.low (past_word prefix.high place)
