use Rattle.std.proofs.Common.{nat_lt}
use Rattle.sw_ctrl.specs.Bytes.{is_full}
use Rattle.sw_ctrl.proofs.Masks.{compared_is, compared_fits, lanes_of}
use Rattle.sw_ctrl.proofs.group.Group.match_full.Goals as goal

pub overflow_cast-self-inside : goal.overflow_cast-self-inside
overflow_cast-self-inside c = compared_fits c.self.inside.lanes c.self.invariant nat_lt 128

pub returns : goal.returns
returns c = rw (c.from_bits.ensures, compared_is c.self.inside.lanes c.self.invariant nat_lt 128, ← c.self.view_is) (lanes_of c.self.inside.lanes c.self.invariant is_full)
