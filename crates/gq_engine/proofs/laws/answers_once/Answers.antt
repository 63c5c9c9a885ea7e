use Rattle.gq_engine.proofs.RepeatedRuns.{answers_once}
use Rattle.gq_engine.proofs.laws.answers_once.Goals as goal

pub returns : goal.returns
returns c = answers_once
