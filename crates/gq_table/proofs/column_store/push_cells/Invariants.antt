use Rattle.std.proofs.Common.{◌≡◌, ◌++◌, ℕ, length, map, take, drop}
use Rattle.gq_table.specs.Columns.{AreAsLong, alone, columns_behind}
use Rattle.gq_table.proofs.column_store.push_cells.Given as goal

abbrev pub invariant-loop-i : goal.invariant-loop-i
invariant-loop-i l = record {
  size : length l.row ≡ length l.columns;
  same : length l.columns ≡ length l.fn.columns;
  left : drop l.i l.row ≡ drop l.i l.fn.row;
  pushed : take l.i l.columns ++ columns_behind (drop l.i l.columns) (drop l.i (map alone l.fn.row)) ≡ columns_behind l.fn.columns (map alone l.fn.row);
  kept : (n : ℕ) → AreAsLong n l.fn.columns → map (take n) l.columns ≡ l.fn.columns;
}
