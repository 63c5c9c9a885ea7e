use Rattle.std.proofs.Common.{arith}
use Rattle.std.proofs.lemmas.Grind.{common_steps}
use Rattle.gq_engine.proofs.keys.check_key.Goals as goal

pub fit_key-requires : goal.fit_key-requires
fit_key-requires c = grind (arith, common_steps)
