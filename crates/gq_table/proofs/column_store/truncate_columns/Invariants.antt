use Rattle.std.proofs.Common.{◌≡◌, ◌++◌, map, take, drop}
use Rattle.gq_table.proofs.column_store.truncate_columns.Given as goal

abbrev pub invariant-loop-i : goal.invariant-loop-i
invariant-loop-i l = l.columns ≡ map (take l.cells) (take l.i l.fn.columns) ++ drop l.i l.fn.columns
