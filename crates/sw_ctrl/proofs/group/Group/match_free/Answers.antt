use Rattle.std.proofs.Common.{nat_eq}
use Rattle.sw_ctrl.specs.Bytes.{is_free}
use Rattle.sw_ctrl.specs.declared.control.TheConstants.{EMPTY, DELETED}
use Rattle.sw_ctrl.proofs.Masks.{either_is, either_fits, lanes_of}
use Rattle.sw_ctrl.proofs.group.Group.match_free.Goals as goal

pub overflow_cast-empty : goal.overflow_cast-empty
overflow_cast-empty c = either_fits c.self.inside.lanes c.self.invariant nat_eq EMPTY DELETED

pub returns : goal.returns
returns c = rw (c.from_bits.ensures, either_is c.self.inside.lanes c.self.invariant nat_eq EMPTY DELETED, ← c.self.view_is) (lanes_of c.self.inside.lanes c.self.invariant is_free)
