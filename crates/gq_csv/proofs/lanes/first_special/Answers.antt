use Rattle.std.proofs.Common.{arith}
use Rattle.gq_csv.proofs.LaneLemmas.{none_special, some_special}
use Rattle.gq_csv.proofs.lanes.first_special.Goals as goal

pub returns-then-bits-eq0 : goal.returns-then-bits-eq0
returns-then-bits-eq0 c = none_special c.args.block.now c.requires c.if-bits-eq0.true

pub returns-else-bits-eq0 : goal.returns-else-bits-eq0
returns-else-bits-eq0 c = some_special c.args.block.now c.requires (omega (arith, c.if-bits-eq0.false))
