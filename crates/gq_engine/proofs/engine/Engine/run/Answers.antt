use Rattle.gq_engine.proofs.OutputLemmas.{ran_plainly}
use Rattle.gq_engine.proofs.engine.Engine.run.Goals as goal

pub returns-clause-ran : goal.returns-clause-ran
returns-clause-ran g c = ran_plainly _ _ _ _ _ _ _ _ _ c.run_as.ensures.ran
