-- Rows by columns.
use Rattle.std.specs.Prelude.{◌≡◌, ℕ, List, [], ◌∷◌, ◌++◌, All, length, replicate}
use Rattle.gq_row.specs.declared.value.Value.{Value}

-- rows with a cell of a column prepended to each
unfoldable pub before_rows : List Value → List (List Value) → List (List Value)
before_rows [] rows = []
before_rows (cell ∷ cells) [] = []
before_rows (cell ∷ cells) (row ∷ rows) = (cell ∷ row) ∷ before_rows cells rows

-- the `n` rows of some columns: each has the cells at its position
unfoldable pub rows_across : ℕ → List (List Value) → List (List Value)
rows_across n [] = replicate n []
rows_across n (column ∷ columns) = before_rows column (rows_across n columns)

-- columns with more cells appended to each
unfoldable pub columns_behind : List (List Value) → List (List Value) → List (List Value)
columns_behind [] more = []
columns_behind (column ∷ columns) [] = []
columns_behind (column ∷ columns) (cells ∷ more) = (column ++ cells) ∷ columns_behind columns more

-- a column of one cell
abbrev pub alone : Value → List Value
alone cell = cell ∷ []

-- each column has `n` cells
abbrev pub AreAsLong : ℕ → List (List Value) → Type 0
AreAsLong n columns = All (λ column. length column ≡ n) columns
