use Rattle.std.proofs.Common.{◌≡◌, ◌+◌, length, take}
use Rattle.gq_cells.specs.Lists.{part}
use Rattle.gq_cells.proofs.cells.Cells.write_over.Given as goal

abbrev pub invariant-loop-i : goal.invariant-loop-i
invariant-loop-i l = record {
  size : length l.over ≡ length l.fn.over;
  written : take l.i l.over ≡ part l.self l.start (l.start + l.i);
}
