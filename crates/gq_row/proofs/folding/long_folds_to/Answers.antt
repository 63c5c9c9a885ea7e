use Rattle.std.proofs.Common.{◌∙◌, sym, arith}
use Rattle.gq_row.proofs.LaneLemmas.{eight_differ, eight_more, last_eight}
use Rattle.gq_row.proofs.folding.long_folds_to.Goals as goal

pub returns-then-not-lanes_fold_to : goal.returns-then-not-lanes_fold_to
returns-then-not-lanes_fold_to c = eight_differ c.args.text.now c.args.folded.now c.loop-at.at (sym c.lanes_fold_to.ensures ∙ c.if-not-lanes_fold_to.true)

pub loop-at-preserved : goal.loop-at-preserved
loop-at-preserved c = eight_more c.args.text.now c.args.folded.now c.loop-at.at c.loop-at.invariant (sym c.lanes_fold_to.ensures ∙ c.if-not-lanes_fold_to.false)

pub returns : goal.returns
returns c = last_eight c.args.text.now c.args.folded.now c.loop-at.at _ c.loop-at-test.false (omega (arith, c.requires.long)) c.requires.same_length c.loop-at.invariant _ (sym c.lanes_fold_to-2.ensures)
