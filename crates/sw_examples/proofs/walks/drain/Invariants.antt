use Rattle.std.proofs.Common.{length}
use Rattle.sw_table.specs.Walks.{IsDraining, filled}
use Rattle.sw_examples.proofs.walks.drain.Given as goal

abbrev pub invariant-entries : goal.invariant-entries
invariant-entries l = IsDraining l.stock l.walk

abbrev pub decreases-entries : goal.decreases-entries
decreases-entries l = length (filled l.stock.places)
