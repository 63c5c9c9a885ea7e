use Rattle.std.proofs.Common.{◌≡◌, take}
use Rattle.gq_cells.proofs.cells.wide_of.Given as goal

abbrev pub invariant-loop-number : goal.invariant-loop-number
invariant-loop-number l = l.wide.items ≡ take l.number-index l.numbers.items
