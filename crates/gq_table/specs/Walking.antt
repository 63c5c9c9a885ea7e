-- A cursor over rows.
use Rattle.std.specs.Prelude.{◌≡◌, ◌-◌, ℕ, List, [], All, drop, length, slice_index_or}
use Rattle.gq_row.specs.declared.value.Value.{Value}
use Rattle.gq_row.specs.Rows.{cell}
use Rattle.gq_table.specs.declared.rows.RowsRef.{RowsRef}
use Rattle.gq_table.specs.declared.rows.RowsRef.TheVariants.{Rows, Columns}

-- the state of a cursor: the current row, the row that was read last, and the rows that are still to come
pub record Walk : Type 0 where
  pub row : List Value
  pub read : List Value
  pub rest : List (List Value)

-- the rows of a table, in either layout
abbrev pub rows_in : RowsRef → List (List Value)
rows_in (Rows rows) = rows.now
rows_in (Columns rows) = rows.now

-- the rows that are still to come once `from` rows were entered
abbrev pub rest_of : RowsRef → ℕ → List (List Value)
rest_of rows from = drop from (rows_in rows)

-- the row that was entered last
abbrev pub row_of : RowsRef → ℕ → List Value
row_of rows from = slice_index_or (rows_in rows) (from - 1) []

-- the row that was read last: stored row by row it is the current one, and by columns the copy
abbrev pub read_of : RowsRef → ℕ → List Value → List Value
read_of (Rows rows) from copy = slice_index_or rows.now (from - 1) []
read_of (Columns rows) from copy = copy

-- two rows of one length have the same values in some columns
pub record AgreeIn (columns : List ℕ) (row other : List Value) : Type 0 where
  pub long : length row ≡ length other
  pub cells : All (λ column. cell row column ≡ cell other column) columns
