use Rattle.gq_query.proofs.RollupLemmas.{rolls_up}
use Rattle.gq_query.proofs.laws.rolls_up.Goals as goal

pub returns : goal.returns
returns c = rolls_up
