-- Tagged words: numbers, indices of values in the overflow, null, or short texts.
use Rattle.std.specs.Prelude.{◌+◌, ◌*◌, ◌/◌, ◌^◌, ◌%◌, ◌<◌, ◌≤◌, ◌-◌, ◌-ℤ◌, ℕ, Bool, true, false, List, All, cond, drop, nat_lt, pos, slice_index_or, take, IsUtf8}
use Rattle.std.specs.Int.{w64, to_be_bytes}
use Rattle.std.specs.declared.cmp.Ordering.{Ordering}
use Rattle.gq_row.specs.Order.{compare_values, folded_order}
use Rattle.gq_row.specs.ShortTexts.{IsPadded}
use Rattle.gq_row.specs.declared.value.Value.{Value}
use Rattle.gq_row.specs.declared.value.Value.TheVariants.{Int, Null, Text}

-- bytes are UTF-8
abbrev pub IsValid : List ℕ → Type 0
IsValid bytes = ∥ IsUtf8 bytes ∥₁

-- the text in some bytes: the lowest three bits of the first are its length, and it follows
abbrev pub short_in : List ℕ → List ℕ
short_in bytes = take (slice_index_or bytes 0 0 % 8) (drop 1 bytes)

-- the text in a word, by the word's bytes from the highest on
abbrev pub text_in : ℕ → List ℕ
text_in word = short_in (to_be_bytes w64 word)

-- the value of a word: below 2^63 the number biased by 2^62; below 3 · 2^62 the value of the overflow at the index biased by 2^63, or null past its end; else a text
abbrev pub word_value : List Value → ℕ → Value
word_value overflow word = cond (nat_lt word (2 ^ 63)) (Int (pos word -ℤ pos (2 ^ 62))) (cond (nat_lt word (3 * 2 ^ 62)) (slice_index_or overflow (word - 2 ^ 63) Null) (Text (text_in word)))

-- a word is an index
abbrev pub is_index : ℕ → Bool
is_index word = cond (nat_lt word (2 ^ 63)) false (nat_lt word (3 * 2 ^ 62))

-- the length of the text in a word
abbrev pub text_len : ℕ → ℕ
text_len word = word / 2 ^ 56 % 8

-- the text in a word is UTF-8, and zeros follow it
pub record IsText (word : ℕ) : Type 0 where
  pub valid : IsValid (text_in word)
  pub padded : IsPadded (text_len word) (to_be_bytes w64 (word * 256 % 2 ^ 64))

-- if a word is a text, it is UTF-8, and zeros follow it
abbrev pub HasText : ℕ → Type 0
HasText word = 3 * 2 ^ 62 ≤ word → IsText word

-- a word is a number, an index into an overflow of this length, null, which is the last index of all, or a text in UTF-8
pub record IsWord (places word : ℕ) : Type 0 where
  pub within : 2 ^ 63 ≤ word → word + 1 < 3 * 2 ^ 62 → word - 2 ^ 63 < places
  pub utf8 : HasText word

-- words with an overflow of this length, which is too short for the index that is null
pub record AreWords (places : ℕ) (words : List ℕ) : Type 0 where
  pub all : All (IsWord places) words
  pub few : places < 2 ^ 62

-- the order of values by their folds, or their own order
abbrev pub value_order : Bool → Value → Value → Ordering
value_order true = folded_order
value_order false = compare_values
