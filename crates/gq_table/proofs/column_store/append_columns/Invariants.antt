use Rattle.std.proofs.Common.{◌≡◌, ◌++◌, ℕ, length, map, take, drop}
use Rattle.gq_table.specs.Columns.{AreAsLong, columns_behind}
use Rattle.gq_table.proofs.column_store.append_columns.Given as goal

abbrev pub invariant-loop-i : goal.invariant-loop-i
invariant-loop-i l = record {
  size : length l.more ≡ length l.columns;
  same : length l.columns ≡ length l.fn.columns;
  left : drop l.i l.more ≡ drop l.i l.fn.more;
  appended : take l.i l.columns ++ columns_behind (drop l.i l.columns) (drop l.i l.fn.more) ≡ columns_behind l.fn.columns l.fn.more;
  kept : (n : ℕ) → AreAsLong n l.fn.columns → map (take n) l.columns ≡ l.fn.columns;
}
