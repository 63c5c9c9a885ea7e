-- Bytes that aren't plain text in a field.
use Rattle.std.specs.Prelude.{ℕ, Bool, ◌==◌, ◌||◌}

-- whether a byte is CR or LF
abbrev pub ends_line : ℕ → Bool
ends_line b = (b == 13) || (b == 10)

-- whether a byte is a comma, a quote, CR or LF
abbrev pub is_special : ℕ → Bool
is_special b = ((b == 44) || (b == 34)) || ends_line b
