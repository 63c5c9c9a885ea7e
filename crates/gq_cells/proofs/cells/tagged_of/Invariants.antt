use Rattle.std.proofs.Common.{◌≡◌, map, take}
use Rattle.gq_row.specs.declared.value.Value.TheVariants.{Int}
use Rattle.gq_cells.proofs.cells.tagged_of.Given as goal

abbrev pub invariant-loop-number : goal.invariant-loop-number
invariant-loop-number l = l.values ≡ map Int (take l.number-index l.numbers)
