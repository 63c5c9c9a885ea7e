use Rattle.std.proofs.Common.{◌+◌, ◌%◌, arith, ◌∙◌, ap}
use Rattle.sw_probe.proofs.Once.{group_number-next, group_number-lt}
use Rattle.sw_probe.proofs.Powers.{masked, count-le}
use Rattle.sw_probe.proofs.probe.Probe.advance.Goals as goal

pub overflow_add-self-2 : goal.overflow_add-self-2
overflow_add-self-2 c =
    let p = c.self.inside in let i = c.self.invariant in
    record { fits = omega (arith, i.standing, i.here, group_number-lt p.start p.groups p.index i.power, count-le p.groups i.power) }

pub invariant_of-self : goal.invariant_of-self
invariant_of-self c =
    let p = c.self.inside in let i = c.self.invariant in
    record {
      power = i.power;
      standing = omega (arith, i.standing, c.if-self.false);
      here = masked (p.group + (p.index + 1)) p.groups i.power ∙ ap (λ x. (x + (p.index + 1)) % p.groups) i.here ∙ group_number-next p.start p.groups p.index;
    }
