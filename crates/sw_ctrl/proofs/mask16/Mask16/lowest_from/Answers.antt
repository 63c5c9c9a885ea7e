use Rattle.std.proofs.Common.{◌/◌, ◌^◌, ◌<◌, length, sym, ap, ◌∙◌, arith}
use Rattle.sw_ctrl.proofs.MaskBits.{none_after, set_there, set_within, none_between}
use Rattle.sw_ctrl.proofs.Masks.{length-bits_of}
use Rattle.sw_ctrl.proofs.mask16.Mask16.lowest_from.Goals as goal

pub returns-then-rest-eq0-clause-none : goal.returns-then-rest-eq0-clause-none
returns-then-rest-eq0-clause-none c =
    none_after c.self.inside.bits c.args.from c.args.self c.self.view_is c.self.invariant c.if-rest-eq0.true

pub returns-clause-set : goal.returns-clause-set
returns-clause-set c =
    let b = c.self.inside.bits in
    let some : 0 < b / 2 ^ c.args.from = omega (arith, c.if-rest-eq0.false) in (
      omega arith,
      set_within b c.args.from c.args.self c.self.view_is c.self.invariant some (ap length (sym c.self.view_is) ∙ length-bits_of 16 b),
      set_there b c.args.from c.args.self c.self.view_is c.self.invariant some,
    )

pub returns-clause-first : goal.returns-clause-first
returns-clause-first c =
    let b = c.self.inside.bits in
    let some : 0 < b / 2 ^ c.args.from = omega (arith, c.if-rest-eq0.false) in
    none_between b c.args.from c.args.self c.self.view_is c.self.invariant some
