use Rattle.std.proofs.Common.{arith}
use Rattle.std.proofs.lemmas.Grind.{common_steps}
use Rattle.gq_row.proofs.ClassLemmas.{unequal_folds}
use Rattle.gq_row.proofs.keyed.have_folds.Goals as goal

pub returns-then-cells-key : goal.returns-then-cells-key
returns-then-cells-key c = unequal_folds c.args.cells.now c.args.key.now c.if-cells-key.true

pub loop-i-preserved : goal.loop-i-preserved
loop-i-preserved c = grind (arith, common_steps)
