use Rattle.gq_engine.proofs.PlainRuns.{only_memory_refuses}
use Rattle.gq_engine.proofs.laws.only_memory_refuses.Goals as goal

pub returns : goal.returns
returns c = only_memory_refuses
