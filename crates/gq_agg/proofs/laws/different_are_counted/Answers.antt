use Rattle.gq_agg.proofs.Different.{different_counted}
use Rattle.gq_agg.proofs.laws.different_are_counted.Goals as goal

pub returns : goal.returns
returns c = different_counted
