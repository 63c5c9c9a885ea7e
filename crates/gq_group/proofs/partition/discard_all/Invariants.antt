use Rattle.std.proofs.Common.{length}
use Rattle.gq_group.specs.Partitions.{DiscardedSome}
use Rattle.gq_group.proofs.partition.discard_all.Given as goal

abbrev pub invariant-partitions : goal.invariant-partitions
invariant-partitions g l = DiscardedSome l.fn.partitions.items l.left.items (g.S.RunStore.runs l.fn.store) (g.S.RunStore.runs l.store)

abbrev pub decreases-partitions : goal.decreases-partitions
decreases-partitions g l = length l.left.items
