use Rattle.std.proofs.lemmas.Bool.{false≢true}
use Rattle.gq_table.proofs.ColumnStoreLemmas.{in_place_there}
use Rattle.gq_table.proofs.column_store.pick_cells.Goals as goal

pub returns-in_err-copy_to-clause-in_place : goal.returns-in_err-copy_to-clause-in_place
returns-in_err-copy_to-clause-in_place c = λ placed.
    let i = c.loop-i.i in
    absurd (false≢true (c.in_err-copy_to.ensures.in_place
    (in_place_there c.args.all.now c.args.position c.args.columns.now i c.index-all-columns.result c.loop-i-test.true (c.requires.columns i 0 c.loop-i-test.true) c.index-all-columns.is placed)))
