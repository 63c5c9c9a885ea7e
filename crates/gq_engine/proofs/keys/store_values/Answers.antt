use Rattle.std.proofs.Common.{arith}
use Rattle.std.proofs.lemmas.Grind.{common_steps}
use Rattle.gq_engine.proofs.KeyLemmas.{stored_rest}
use Rattle.gq_engine.proofs.keys.store_values.Goals as goal

pub returns : goal.returns
returns c =
    let i = c.loop-i.i in
    let rest = stored_rest c.args.columns.now c.args.key.now c.loop-i.values i (omega arith) in
    grind (arith, common_steps)
