use Rattle.sw_probe.proofs.Powers.{power_of, group_count}
use Rattle.sw_probe.proofs.laws.group_counts.Goals as goal

pub returns : goal.returns
returns c = record { 0 = power_of c.args.groups; 1 = λ it. group_count it.0 c.args.groups it.1 it.2 }
