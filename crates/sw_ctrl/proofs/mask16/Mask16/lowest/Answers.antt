use Rattle.std.proofs.Common.{arith}
use Rattle.sw_ctrl.proofs.Masks.{lowest_none, lowest_some}
use Rattle.sw_ctrl.proofs.mask16.Mask16.lowest.Goals as goal

pub returns-then-self-eq0 : goal.returns-then-self-eq0
returns-then-self-eq0 c = rw (← c.self.view_is) (lowest_none c.self.inside.bits c.self.invariant c.if-self-eq0.true)

pub returns-else-self-eq0 : goal.returns-else-self-eq0
returns-else-self-eq0 c = rw (← c.self.view_is) (lowest_some c.self.inside.bits c.self.invariant (omega (arith, c.if-self-eq0.false)))
