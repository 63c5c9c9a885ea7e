use Rattle.std.proofs.Common.{arith}
use Rattle.std.proofs.lemmas.Grind.{common_steps}
use Rattle.std.proofs.lemmas.Bool.{false≢true}
use Rattle.gq_table.proofs.ColumnStoreLemmas.{in_place_among}
use Rattle.gq_table.proofs.rows.write_cells.Goals as goal

pub loop-i-preserved : goal.loop-i-preserved
loop-i-preserved c = grind (arith, common_steps)

pub returns-in_err-copy_from-clause-in_place : goal.returns-in_err-copy_from-clause-in_place
returns-in_err-copy_from-clause-in_place c = λ placed.
    let i = c.loop-i.i in
    absurd (false≢true (c.in_err-copy_from.ensures.in_place
    (in_place_among c.args.row.now c.args.columns.now i c.index-row-columns.result c.loop-i-test.true (c.requires.within i 0 c.loop-i-test.true) c.index-row-columns.is placed)))
