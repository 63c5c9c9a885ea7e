-- Keys of one width, one after the other in a list of cells.
use Rattle.std.specs.Prelude.{◌≡◌, ◌^◌, ◌+◌, ◌*◌, ℕ, zero, suc, Bool, true, false, List, [], ◌∷◌, Option, Some, None, cond, drop, take, length, slice_index_or}
use Rattle.gq_row.specs.Order.{same_key}
use Rattle.gq_row.specs.declared.value.Value.{Value}
use Rattle.gq_row.specs.declared.value.Value.TheVariants.{Null}
use Rattle.gq_cells.specs.Words.{HasText, is_index, word_value}

-- the first keys of a list of cells
abbrev pub keys_in : ℕ → ℕ → List Value → List (List Value)
keys_in width zero cells = []
keys_in width (suc n) cells = take width cells ∷ keys_in width n (drop width cells)

-- the values of words: numbers and short texts, or else the values of a list in their order
abbrev pub values_in_order : List ℕ → List Value → List Value
values_in_order [] others = []
values_in_order (word ∷ words) others =
    cond (is_index word) (slice_index_or others 0 Null ∷ values_in_order words (drop 1 others)) (word_value [] word ∷ values_in_order words others)

-- words that are indices are those from one up to another, in order, and texts are UTF-8
abbrev pub AreInOrder : ℕ → List ℕ → ℕ → Type 0
AreInOrder from [] to = from ≡ to
AreInOrder from (word ∷ words) to = (is_index word ≡ true → word ≡ 2 ^ 63 + from) × HasText word × AreInOrder (cond (is_index word) (suc from) from) words to

-- whether a key is the same as another, if there is another
abbrev pub is_same : List Value → Option (List Value) → Bool
is_same key None = false
is_same key (Some other) = same_key key other

-- words of keys of one width, whose indices are those of an overflow in order
pub record AreKeys (width len : ℕ) (words : List ℕ) (overflow : List Value) : Type 0 where
  pub ordered : AreInOrder 0 words (length overflow)
  pub whole : length words ≡ len * width
