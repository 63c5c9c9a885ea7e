use Rattle.std.proofs.Common.{◌≡◌, ◌++◌, drop, take}
use Rattle.gq_cells.proofs.cells.push_tagged.Given as goal

abbrev pub invariant-loop-i : goal.invariant-loop-i
invariant-loop-i l = record {
  pushed : l.cells ≡ l.fn.cells ++ take l.i l.fn.left;
  left : drop l.i l.fn.left ≡ l.left;
}
