use Rattle.gq_agg.proofs.Unseen.{nulls_unseen}
use Rattle.gq_agg.proofs.laws.nulls_are_unseen.Goals as goal

pub returns : goal.returns
returns c = nulls_unseen
