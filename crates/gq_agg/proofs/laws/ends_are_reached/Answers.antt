use Rattle.gq_agg.proofs.Unseen.{ends_reached}
use Rattle.gq_agg.proofs.laws.ends_are_reached.Goals as goal

pub returns : goal.returns
returns c = ends_reached
