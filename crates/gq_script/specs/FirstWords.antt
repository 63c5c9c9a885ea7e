-- The first word of a line, matched byte by byte.
use Rattle.std.specs.Prelude.{ℕ, ◌==◌, Bool, true, false, [], ◌∷◌, ◌||◌, if◌then◌else◌}
use Rattle.gq_token.specs.Lexing.{is_blank, is_word_byte}
use Rattle.gq_script.specs.declared.first_word.FirstWord.{FirstWord}
use Rattle.gq_script.specs.declared.first_word.FirstWord.TheVariants as first
use Rattle.gq_token.specs.Texts.{Bytes}

abbrev pub letter : ℕ → ℕ → ℕ → Bool
letter small capital b = (b == small) || (b == capital)

-- how much of the word `load` is matched after another byte
abbrev pub word_after : FirstWord → ℕ → FirstWord
word_after first.Blank b = if is_blank b then first.Blank else (if letter 108 76 b then first.L else first.Other)
word_after first.L b = if letter 111 79 b then first.Lo else first.Other
word_after first.Lo b = if letter 97 65 b then first.Loa else first.Other
word_after first.Loa b = if letter 100 68 b then first.Load else first.Other
word_after first.Load b = if is_word_byte b then first.Other else first.Ended
word_after first.Ended b = first.Ended
word_after first.Other b = first.Other

abbrev pub word_of : FirstWord → Bytes → FirstWord
word_of w [] = w
word_of w (b ∷ bs) = word_of (word_after w b) bs

abbrev pub is_load : FirstWord → Bool
is_load first.Blank = false
is_load first.L = false
is_load first.Lo = false
is_load first.Loa = false
is_load first.Load = true
is_load first.Ended = true
is_load first.Other = false
