use Rattle.std.proofs.Common.{◌≡◌, map, take}
use Rattle.gq_row.specs.declared.value.Value.TheVariants.{Int}
use Rattle.gq_cells.specs.Cells.{number_cell}
use Rattle.gq_cells.proofs.cells.nullable_of.Given as goal

abbrev pub invariant-loop-number : goal.invariant-loop-number
invariant-loop-number l = map number_cell l.cells.items ≡ map Int (take l.number-index l.numbers)
