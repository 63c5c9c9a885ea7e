-- The columns of a box.
use Rattle.std.specs.Prelude.{ℕ, max, Bool, true, false, List, map, fold}
use Rattle.std.specs.List.{enumerate_from, list_any}
use Rattle.gq_row.specs.declared.value.Value.{Value}
use Rattle.gq_row.specs.declared.value.Value.TheVariants.{Null, Int, Text, NoCase}
use Rattle.gq_row.specs.Rows.{cell}
use Rattle.gq_format.specs.Shown.{shown, shown_text, terminal_width}

-- a column: its name, its position in a row, the width of its widest text, and whether it holds a number
pub record Column : Type 0 where
  pub name : List ℕ
  pub place : ℕ
  pub width : ℕ
  pub is_numeric : Bool

abbrev pub is_number : Value → Bool
is_number Null = false
is_number (Int n) = true
is_number (Text t) = false
is_number (NoCase t) = false

abbrev pub cells_at : ℕ → List (List Value) → List Value
cells_at place rows = map (λ row. cell row place) rows

-- the largest width among texts: `most`, and those of values
abbrev pub widest : ℕ → List Value → ℕ
widest most values = fold (λ most value. max most (terminal_width (shown value))) most values

abbrev pub column_of : List (List Value) → ℕ × List ℕ → Column
column_of rows (place, name) = record { name = name; place = place; width = widest (terminal_width (shown_text name)) (cells_at place rows); is_numeric = list_any is_number (cells_at place rows) }

abbrev pub columns_of : List (List ℕ) → List (List Value) → List Column
columns_of header rows = map (column_of rows) (enumerate_from 0 header)
