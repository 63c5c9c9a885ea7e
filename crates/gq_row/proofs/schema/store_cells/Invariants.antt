use Rattle.std.proofs.Common.{◌≡◌, ◌++◌, drop, take, length}
use Rattle.gq_row.specs.Fitting.{stored_in}
use Rattle.gq_row.proofs.schema.store_cells.Given as goal

abbrev pub invariant-loop-i : goal.invariant-loop-i
invariant-loop-i l = record {
  same_length : length l.cells ≡ length l.initial.cells;
  rest : take l.i l.cells ++ stored_in (drop l.i l.columns) (drop l.i l.cells) ≡ stored_in l.columns l.initial.cells;
}
