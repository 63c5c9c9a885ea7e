use Rattle.std.proofs.Common.{◌∙◌}
use Rattle.sw_probe.proofs.Once.{group_number-first}
use Rattle.sw_probe.proofs.Powers.{masked, count-pos}
use Rattle.sw_probe.proofs.probe.Probe.new.Goals as goal

pub invariant_of-result : goal.invariant_of-result
invariant_of-result c =
    let g = c.args.groups in let h = c.h1-start.result in
    record { power = c.requires; standing = count-pos g c.requires; here = masked h g c.requires ∙ group_number-first h g }
