use Rattle.std.proofs.Common.{arith}
use Rattle.std.proofs.lemmas.Grind.{common_steps}
use Rattle.gq_group.proofs.key_run.KeyRunGroupSink.push.Goals as goal

pub returns-in-Ok-write-clause-groups : goal.returns-in-Ok-write-clause-groups
returns-in-Ok-write-clause-groups g c = grind (arith, common_steps)
