use Rattle.std.proofs.Common.{◌≡◌, map, take}
use Rattle.gq_cells.specs.Cells.{number_cell}
use Rattle.gq_cells.proofs.cells.tagged_of_nullable.Given as goal

abbrev pub invariant-loop-number : goal.invariant-loop-number
invariant-loop-number l = l.values ≡ map number_cell (take l.number-index l.numbers)
