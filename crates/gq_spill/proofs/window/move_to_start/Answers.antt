use Rattle.std.proofs.Common.{arith}
use Rattle.std.proofs.lemmas.Grind.{common_steps}
use Rattle.gq_spill.proofs.window.move_to_start.Goals as goal

pub returns-then-start-gt0-clause-len : goal.returns-then-start-gt0-clause-len
returns-then-start-gt0-clause-len c = grind (arith, common_steps)

pub returns-then-start-gt0-clause-kept : goal.returns-then-start-gt0-clause-kept
returns-then-start-gt0-clause-kept c = grind (arith, common_steps)
