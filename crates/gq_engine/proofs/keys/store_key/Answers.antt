use Rattle.std.proofs.Common.{arith}
use Rattle.std.proofs.lemmas.Grind.{common_steps}
use Rattle.gq_engine.proofs.keys.store_key.Goals as goal

pub store_values-requires : goal.store_values-requires
store_values-requires c = grind (arith, common_steps)
