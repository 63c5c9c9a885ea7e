use Rattle.gq_clause.proofs.Agrees.{aggregates_agree}
use Rattle.gq_clause.proofs.laws.aggregates_agree.Goals as goal

pub returns : goal.returns
returns c = aggregates_agree
