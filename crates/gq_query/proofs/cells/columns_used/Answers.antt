use Rattle.std.proofs.Common.{arith}
use Rattle.std.proofs.lemmas.Grind.{common_steps}
use Rattle.gq_query.proofs.cells.columns_used.Goals as goal

pub returns : goal.returns
returns c = grind (arith, common_steps)

pub loop-agg-preserved : goal.loop-agg-preserved
loop-agg-preserved c = grind (arith, common_steps)
