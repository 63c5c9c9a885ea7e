use Rattle.sw_probe.proofs.Once.{group_number-lt}
use Rattle.sw_probe.proofs.probe.Probe.group.Goals as goal

pub returns-clause-in_range : goal.returns-clause-in_range
returns-clause-in_range c =
    let p = c.self.inside in let i = c.self.invariant in
    rw (← c.self.view_is, i.here) (group_number-lt p.start p.groups p.index i.power)
