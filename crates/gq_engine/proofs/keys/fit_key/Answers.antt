use Rattle.std.proofs.Common.{arith}
use Rattle.std.proofs.lemmas.Grind.{common_steps}
use Rattle.gq_engine.proofs.KeyLemmas.{unequal_lengths}
use Rattle.gq_engine.proofs.keys.fit_key.Goals as goal

pub returns-then-key-values : goal.returns-then-key-values
returns-then-key-values c = unequal_lengths c.args.columns.now c.args.key.now c.args.values.now c.if-key-values.true

pub loop-i-preserved : goal.loop-i-preserved
loop-i-preserved c = grind (arith, common_steps)
