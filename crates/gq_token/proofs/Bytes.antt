-- The bytes of words, numbers and blanks are ASCII.
use Rattle.std.proofs.Common.{◌≡◌, ℕ, ◌<◌, true, arith}
use Rattle.std.specs.Char.{is_ascii_digit}
use Rattle.std.proofs.lemmas.Bool.Decides.{nat_tests}
use Rattle.gq_token.specs.Lexing.{is_blank, is_word_byte}

pub is_blank-ascii : (b : ℕ) → is_blank b ≡ true → b < 128
is_blank-ascii b h = grind (arith, nat_tests)

pub is_ascii_digit-ascii : (b : ℕ) → is_ascii_digit b ≡ true → b < 128
is_ascii_digit-ascii b h = grind (arith, nat_tests)

pub is_word_byte-ascii : (b : ℕ) → is_word_byte b ≡ true → b < 128
is_word_byte-ascii b h = grind (arith, nat_tests)
