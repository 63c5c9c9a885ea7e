use Rattle.std.proofs.Common.{arith}
use Rattle.std.proofs.lemmas.Grind.{common_steps}
use Rattle.gq_spill.proofs.run_writer.RunWriter.put.Goals as goal

pub returns-in-Ok-append-clause-wrote : goal.returns-in-Ok-append-clause-wrote
returns-in-Ok-append-clause-wrote g c = grind (arith, common_steps)

pub returns-in-Err-clause-faults : goal.returns-in-Err-clause-faults
returns-in-Err-clause-faults g c = grind (arith, common_steps)
