use Rattle.std.proofs.Common.{nat_eq}
use Rattle.sw_ctrl.proofs.Masks.{compared_is, compared_fits, lanes_of}
use Rattle.sw_ctrl.proofs.group.Group.match_byte.Goals as goal

pub overflow_cast-self-inside : goal.overflow_cast-self-inside
overflow_cast-self-inside c = compared_fits c.self.inside.lanes c.self.invariant nat_eq c.args.byte

pub returns : goal.returns
returns c = rw (c.from_bits.ensures, compared_is c.self.inside.lanes c.self.invariant nat_eq c.args.byte, ← c.self.view_is) (lanes_of c.self.inside.lanes c.self.invariant (λ x. nat_eq x c.args.byte))
