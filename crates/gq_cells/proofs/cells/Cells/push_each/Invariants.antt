use Rattle.std.proofs.Common.{◌≡◌, ◌++◌, length, take, drop}
use Rattle.gq_cells.proofs.cells.Cells.push_each.Given as goal

abbrev pub invariant-loop-i : goal.invariant-loop-i
invariant-loop-i l = record {
  size : length l.values ≡ length l.fn.values;
  left : drop l.i l.values ≡ drop l.i l.fn.values;
  pushed : l.self ≡ l.fn.self ++ take l.i l.fn.values;
}
