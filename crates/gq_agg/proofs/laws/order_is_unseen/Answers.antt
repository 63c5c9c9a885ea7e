use Rattle.gq_agg.proofs.Unseen.{order_unseen}
use Rattle.gq_agg.proofs.laws.order_is_unseen.Goals as goal

pub returns : goal.returns
returns c = order_unseen
