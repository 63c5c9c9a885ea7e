use Rattle.std.proofs.Common.{arith}
use Rattle.std.proofs.lemmas.Grind.{common_steps}
use Rattle.gq_plan.proofs.kinds.result_kinds.Goals as goal

pub returns : goal.returns
returns c = grind (arith, common_steps)

pub loop-asked-preserved : goal.loop-asked-preserved
loop-asked-preserved c = grind (arith, common_steps)
