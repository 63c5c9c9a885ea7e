use Rattle.std.proofs.Common.{arith}
use Rattle.std.proofs.lemmas.Grind.{common_steps}
use Rattle.gq_row.proofs.ClassLemmas.{unequal_key}
use Rattle.gq_row.proofs.keyed.has_cells.Goals as goal

pub returns-then-positions-key : goal.returns-then-positions-key
returns-then-positions-key c = unequal_key c.args.positions.now c.args.row.now c.args.key.now c.if-positions-key.true

pub loop-i-preserved : goal.loop-i-preserved
loop-i-preserved c = grind (arith, common_steps)
