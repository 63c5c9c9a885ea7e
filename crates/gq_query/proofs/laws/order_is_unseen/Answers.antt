use Rattle.gq_query.proofs.Unseen.{order_is_unseen}
use Rattle.gq_query.proofs.laws.order_is_unseen.Goals as goal

pub returns : goal.returns
returns c = order_is_unseen
