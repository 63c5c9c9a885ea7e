-- Values as people see them in a box. These texts are lists of characters.
use Rattle.std.specs.Prelude.{ℕ, ◌==◌, List, [], ◌∷◌, ◌++◌, false, flat_map, codes, chars, if◌then◌else◌}
use Rattle.std.specs.Char.{is_control}
use Rattle.std.specs.Fmt.{digits, signed_decimal}
use Rattle.unicode_width.specs.Width.{str_width}
use Rattle.gq_row.specs.declared.value.Value.{Value}
use Rattle.gq_row.specs.declared.value.Value.TheVariants.{Null, Int, Text, NoCase}

-- the width of characters in a terminal, in columns
abbrev pub terminal_width : List ℕ → ℕ
terminal_width text = str_width false text

-- a character as it is shown: line ends and other control characters are escaped
abbrev pub shown_char : ℕ → List ℕ
shown_char c =
    if c == 10 then codes "\\n"
    else if c == 13 then codes "\\r"
    else if c == 9 then codes "\\t"
    else if is_control c then codes "\\u{" ++ digits 16 false c ++ codes "}"
    else c ∷ []

abbrev pub shown_text : List ℕ → List ℕ
shown_text text = flat_map shown_char (chars text)

abbrev pub shown : Value → List ℕ
shown Null = codes "NULL"
shown (Int n) = signed_decimal n
shown (Text t) = shown_text t
shown (NoCase t) = shown_text t
