use Rattle.std.proofs.Common.{arith}
use Rattle.std.proofs.lemmas.Grind.{common_steps}
use Rattle.gq_engine.proofs.catalog.Catalog.get.Goals as goal

pub index-requires : goal.index-requires
index-requires g c = grind (arith, common_steps)

pub returns-in_err-i : goal.returns-in_err-i
returns-in_err-i g c = grind (arith, common_steps)

pub returns : goal.returns
returns g c = grind (arith, common_steps)
