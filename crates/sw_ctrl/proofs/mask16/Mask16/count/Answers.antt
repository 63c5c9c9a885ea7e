use Rattle.sw_ctrl.proofs.Masks.{count_is}
use Rattle.sw_ctrl.proofs.mask16.Mask16.count.Goals as goal

pub returns : goal.returns
returns c = rw (← c.self.view_is) (count_is c.self.inside.bits c.self.invariant)
