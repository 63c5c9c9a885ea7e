use Rattle.std.proofs.Common.{◌≡◌, ◌++◌, take}
use Rattle.gq_query.proofs.group_list.copy_cells.Given as goal

abbrev pub invariant-loop-value : goal.invariant-loop-value
invariant-loop-value l = l.cells.items ≡ l.fn.cells.items ++ take l.value-index l.values
