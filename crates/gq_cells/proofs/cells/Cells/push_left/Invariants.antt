use Rattle.std.proofs.Common.{◌≡◌, ◌++◌, drop, take}
use Rattle.gq_cells.proofs.cells.Cells.push_left.Given as goal

abbrev pub invariant-loop-i : goal.invariant-loop-i
invariant-loop-i l = record {
  pushed : l.self ≡ l.fn.self ++ take l.i l.fn.left;
  left : drop l.i l.fn.left ≡ l.left;
}
