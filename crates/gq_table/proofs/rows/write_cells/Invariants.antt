use Rattle.std.proofs.Common.{◌≡◌, ◌++◌, length, take, drop}
use Rattle.gq_row.specs.Rows.{cells_in}
use Rattle.gq_table.proofs.rows.write_cells.Given as goal

abbrev pub invariant-loop-i : goal.invariant-loop-i
invariant-loop-i l = record {
  size : length l.cells ≡ length l.columns;
  written : take l.i l.cells ++ cells_in (drop l.i l.columns) l.row ≡ cells_in l.columns l.row;
}
