use Rattle.std.proofs.Common.{length}
use Rattle.sw_table.specs.Walks.{IsDraining, filled}
use Rattle.sw_examples.proofs.set_walks.drain.Given as goal

abbrev pub invariant-keys : goal.invariant-keys
invariant-keys l = IsDraining l.set l.walk

abbrev pub decreases-keys : goal.decreases-keys
decreases-keys l = length (filled l.set.places)
