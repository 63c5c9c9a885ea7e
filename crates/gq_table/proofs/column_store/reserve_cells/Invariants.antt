use Rattle.std.proofs.Common.{◌≡◌}
use Rattle.gq_table.proofs.column_store.reserve_cells.Given as goal

abbrev pub invariant-loop-i : goal.invariant-loop-i
invariant-loop-i l = l.columns ≡ l.fn.columns
