use Rattle.std.proofs.Common.{arith}
use Rattle.std.proofs.lemmas.Grind.{common_steps}
use Rattle.gq_spill.proofs.window.lengthen.Goals as goal

pub returns-in_ok-resize-clause-kept : goal.returns-in_ok-resize-clause-kept
returns-in_ok-resize-clause-kept c = grind (arith, common_steps)

pub returns-else-len-clause-kept : goal.returns-else-len-clause-kept
returns-else-len-clause-kept c = grind (arith, common_steps)

pub returns-in_err-resize-clause-kept : goal.returns-in_err-resize-clause-kept
returns-in_err-resize-clause-kept c = grind (arith, common_steps)
