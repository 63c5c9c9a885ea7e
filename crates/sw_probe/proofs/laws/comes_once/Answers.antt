use Rattle.sw_probe.proofs.Once.{visits_once}
use Rattle.sw_probe.proofs.laws.comes_once.Goals as goal

pub returns : goal.returns
returns c = visits_once c.args.start c.args.groups c.requires
