use Rattle.std.proofs.Common.{◌≡◌, length}
use Rattle.gq_group.specs.Partitions.{AreEmpty}
use Rattle.gq_group.proofs.partition.add_partitions.Given as goal

abbrev pub invariant-places : goal.invariant-places
invariant-places l = record {
  empty : AreEmpty l.partitions.items;
  count : length l.partitions.items ≡ l.i;
}
