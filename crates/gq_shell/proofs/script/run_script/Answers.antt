use Rattle.gq_shell.proofs.InputLemmas.{ran_asked}
use Rattle.gq_shell.proofs.script.run_script.Goals as goal

pub returns-in-Ok-new : goal.returns-in-Ok-new
returns-in-Ok-new g c = ran_asked _ _ c.in-Ok.seed _ _ _ c.in-Ok.ensures c.run_over-in-Ok-new.ensures
