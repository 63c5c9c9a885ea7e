use Rattle.std.proofs.Common.{arith}
use Rattle.std.proofs.lemmas.Grind.{common_steps}
use Rattle.gq_group.proofs.partition.add_partitions.Goals as goal

pub places-preserved : goal.places-preserved
places-preserved c = grind (arith, common_steps)
