use Rattle.std.proofs.Common.{◌≡◌, take}
use Rattle.gq_cells.proofs.tagged_cells.TaggedCells.to_values.Given as goal

abbrev pub invariant-loop-i : goal.invariant-loop-i
invariant-loop-i l = l.values.items ≡ take l.i l.self
