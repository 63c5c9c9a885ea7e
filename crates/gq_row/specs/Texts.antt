-- Texts, in each layout.
use Rattle.std.specs.Prelude.{ℕ, List, string_bytes}
use Rattle.gq_row.specs.declared.text.Chars.{Chars}
use Rattle.gq_row.specs.declared.text.Chars.TheVariants.{Short, Long}

-- the bytes of a text
abbrev pub chars_of : Chars → List ℕ
chars_of (Short text) = text
chars_of (Long text) = string_bytes text.value
