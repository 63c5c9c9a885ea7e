use Rattle.std.proofs.Common.{arith}
use Rattle.sw_ctrl.proofs.Masks.{cleared, cleared_none}
use Rattle.sw_ctrl.proofs.mask16.Mask16.without_lowest.Goals as goal

pub returns-then-self-eq0 : goal.returns-then-self-eq0
returns-then-self-eq0 c = rw (← c.self.view_is) (cleared_none c.self.inside.bits c.self.invariant c.if-self-eq0.true)

pub returns-else-self-eq0 : goal.returns-else-self-eq0
returns-else-self-eq0 c = rw (← c.self.view_is) (cleared 16 c.self.inside.bits (omega (arith, c.if-self-eq0.false)) c.self.invariant)
