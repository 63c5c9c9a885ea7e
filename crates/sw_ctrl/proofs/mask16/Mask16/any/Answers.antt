use Rattle.sw_ctrl.proofs.Masks.{any_is}
use Rattle.sw_ctrl.proofs.mask16.Mask16.any.Goals as goal

pub returns : goal.returns
returns c = rw (← c.self.view_is) (any_is c.self.inside.bits c.self.invariant)
