use Rattle.std.proofs.Common.{arith}
use Rattle.std.proofs.lemmas.Grind.{common_steps}
use Rattle.gq_row.proofs.FittingLemmas.{stored_rest}
use Rattle.gq_row.proofs.schema.store_cells.Goals as goal

pub returns : goal.returns
returns c =
    let i = c.loop-i.i in
    let rest = stored_rest c.args.columns.now c.loop-i.cells i (omega arith) in
    grind (arith, common_steps)
