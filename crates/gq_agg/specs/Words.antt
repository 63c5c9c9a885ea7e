-- A whole number in two words.
use Rattle.std.specs.Prelude.{◌^◌, ◌+ℤ◌, ◌*ℤ◌, ℕ, ℤ, pos}

-- the number of two words: the high one times 2^64, plus the low one
abbrev pub in_words : ℤ → ℕ → ℤ
in_words high low = high *ℤ pos (2 ^ 64) +ℤ pos low
