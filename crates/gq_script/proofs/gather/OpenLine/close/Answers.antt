use Rattle.std.proofs.Common.{arith}
use Rattle.std.proofs.lemmas.Grind.{common_steps}
use Rattle.gq_script.proofs.gather.OpenLine.close.Goals as goal

pub returns-then-after_cr : goal.returns-then-after_cr
returns-then-after_cr c = grind (arith, common_steps)

pub returns-else-after_cr : goal.returns-else-after_cr
returns-else-after_cr c = grind (arith, common_steps)
