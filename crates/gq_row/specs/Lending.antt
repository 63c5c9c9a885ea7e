-- What a row holds once a mutable reference to its values ends.
use Rattle.std.specs.Prelude.{◌++◌, List, length, take, drop}
use Rattle.std.specs.Borrow.{Fml, MutBor, Array, Lends}
use Rattle.gq_row.specs.declared.value.Value.{Value}
use Rattle.gq_row.specs.contracts.value.Value.{the_row as value_row}
use Rattle.gq_row.specs.contracts.row.Row.{the_row}

-- a row overwritten from its first value on, as long as it was
abbrev pub with_cells : List Value → List Value → List Value
with_cells row cells = take (length row) (cells ++ drop (length cells) row)

-- the values of a row are borrowed, and when the borrow ends the row has what was written last
abbrev pub lends_cells : MutBor (List Value) → MutBor (List Value) → Fml
lends_cells row cells = Lends the_row (Array value_row 0) row cells (with_cells row.now)
