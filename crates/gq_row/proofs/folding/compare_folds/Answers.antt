use Rattle.std.proofs.Common.{arith}
use Rattle.std.proofs.lemmas.Grind.{common_steps}
use Rattle.gq_row.proofs.FoldLemmas.{longer_fold, shorter_fold}
use Rattle.gq_row.proofs.folding.compare_folds.Goals as goal

pub returns-then-i-b : goal.returns-then-i-b
returns-then-i-b c = longer_fold c.args.a.now c.args.b.now c.loop-i.i (omega arith) (omega arith) c.loop-i.invariant.rest

pub returns-then-a-b : goal.returns-then-a-b
returns-then-a-b c = shorter_fold c.args.a.now c.args.b.now c.loop-i.i (omega arith) (omega arith) c.loop-i.invariant.rest

pub loop-i-preserved : goal.loop-i-preserved
loop-i-preserved c = grind (arith, common_steps)
