use Rattle.sw_probe.proofs.Everywhere.{comes_to}
use Rattle.sw_probe.proofs.laws.comes_everywhere.Goals as goal

pub returns : goal.returns
returns c = comes_to c.args.start c.args.groups c.requires
