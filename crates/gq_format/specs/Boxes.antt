-- Results in a box, for people. Lines are lists of characters.
use Rattle.std.specs.Prelude.{ℕ, ◌+◌, ◌-◌, ◌==◌, Bool, true, false, List, [], ◌∷◌, ◌++◌, length, map, replicate, flat_map, codes, decimal, encode_utf8_all, if◌then◌else◌}
use Rattle.gq_row.specs.declared.value.Value.{Value}
use Rattle.gq_row.specs.declared.value.Value.TheVariants.{Null, Int, Text, NoCase}
use Rattle.gq_row.specs.Rows.{cell}
use Rattle.gq_format.specs.Columns.{Column, columns_of}
use Rattle.gq_format.specs.Shown.{shown, shown_text, terminal_width}

-- a text in a column of this width, at its right or left end, with a space on both sides
abbrev pub aligned : Bool → ℕ → List ℕ → List ℕ
aligned true width text = 32 ∷ replicate (width - terminal_width text) 32 ++ text ++ 32 ∷ []
aligned false width text = 32 ∷ text ++ replicate (width - terminal_width text) 32 ++ 32 ∷ []

-- whether a value is at the right end of its column, as numbers are, and null in a column of numbers
abbrev pub is_right : Column → Value → Bool
is_right column Null = column.is_numeric
is_right column (Int n) = true
is_right column (Text t) = false
is_right column (NoCase t) = false

-- what a line has in a column: bars, the name, the value of a row
abbrev pub bars : Column → List ℕ
bars column = replicate (column.width + 2) 0x2500

abbrev pub name_part : Column → List ℕ
name_part column = aligned column.is_numeric column.width (shown_text column.name)

abbrev pub value_part : List Value → Column → List ℕ
value_part row column = aligned (is_right column (cell row column.place)) column.width (shown (cell row column.place))

-- a line of parts: a mark before the first, one between each two, and one at the end
abbrev pub line : ℕ → ℕ → ℕ → (Column → List ℕ) → List Column → List ℕ
line left between right part [] = right ∷ []
line left between right part (column ∷ columns) = left ∷ part column ++ line between between right part columns

-- the lines of a box: three rules with bars of U+2500, and lines of names and of values between U+2502
abbrev pub lines_of : List Column → List (List Value) → List (List ℕ)
lines_of columns rows =
    line 0x250C 0x252C 0x2510 bars columns
    ∷ line 0x2502 0x2502 0x2502 name_part columns
    ∷ line 0x251C 0x253C 0x2524 bars columns
    ∷ map (λ row. line 0x2502 0x2502 0x2502 (value_part row) columns) rows
    ++ line 0x2514 0x2534 0x2518 bars columns ∷ []

abbrev pub box_lines : List (List ℕ) → List (List Value) → List (List ℕ)
box_lines header rows = lines_of (columns_of header rows) rows

abbrev pub count_text : ℕ → List ℕ
count_text rows = codes "(" ++ decimal rows ++ (if rows == 1 then codes " row)\n" else codes " rows)\n")

-- the lines in UTF-8, each with a line end
abbrev pub text_of : List (List ℕ) → List ℕ
text_of lines = flat_map (λ line. encode_utf8_all line ++ codes "\n") lines

abbrev pub box_text : List (List ℕ) → List (List Value) → List ℕ
box_text header rows = text_of (box_lines header rows) ++ count_text (length rows)
