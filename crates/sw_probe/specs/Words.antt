-- The words of a byte string, and the hash by words.
use Rattle.std.specs.Prelude.{ℕ, zero, suc, List, [], ◌∷◌, ◌++◌, ◌-◌, ◌*◌, ◌/◌, ◌%◌, ◌^◌, max, length, take, drop, nat_lt, if◌then◌else◌, bit_xor, fold}
use Rattle.std.specs.Int.{w64, from_le_bytes}
use Rattle.sw_probe.specs.Hashes.{number_of}

-- the eight bytes from a position on as a number, little-endian
unfoldable pub word_at : List ℕ → ℕ → ℕ
word_at bytes i = from_le_bytes w64 (take 8 (drop i bytes))

-- the first `n` words of a byte string
abbrev pub front_words : ℕ → List ℕ → List ℕ
front_words zero bytes = []
front_words (suc n) bytes = front_words n bytes ++ word_at bytes (8 * n) ∷ []

-- the words of a byte string: its length; and then of fewer than eight bytes the number that they spell,
-- big-endian, and else the words from the first byte on while more than eight bytes are left, the first in any
-- case, and that of the last eight
abbrev pub words_of : List ℕ → List ℕ
words_of bytes = length bytes ∷
    (if nat_lt (length bytes) 8 then number_of bytes ∷ []
    else front_words (max 1 ((length bytes - 1) / 8)) bytes ++ word_at bytes (length bytes - 8) ∷ [])

-- one step of a hash of 64 bits: xor a word, then multiply by 2^64 divided by the golden ratio, then xor the
-- halves of the product
abbrev pub multiply_step : ℕ → ℕ → ℕ
multiply_step acc word = let product : ℕ = bit_xor acc word * 0x9e3779b97f4a7c15 in bit_xor (product % 2 ^ 64) (product / 2 ^ 64)

-- the hash of words, with a seed
abbrev pub word_hash_of : ℕ → List ℕ → ℕ
word_hash_of seed words = fold multiply_step (bit_xor 0xcbf29ce484222325 seed) words
