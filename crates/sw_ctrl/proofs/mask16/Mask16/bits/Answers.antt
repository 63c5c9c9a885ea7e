use Rattle.std.proofs.Common.{sym}
use Rattle.sw_ctrl.specs.Bits.{number_of-bits_of}
use Rattle.sw_ctrl.proofs.mask16.Mask16.bits.Goals as goal

pub returns-clause-number : goal.returns-clause-number
returns-clause-number c = rw (← c.self.view_is) (sym (number_of-bits_of 16 c.self.inside.bits c.self.invariant))
