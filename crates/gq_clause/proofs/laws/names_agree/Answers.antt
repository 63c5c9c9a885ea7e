use Rattle.gq_clause.proofs.Agrees.{names_agree}
use Rattle.gq_clause.proofs.laws.names_agree.Goals as goal

pub returns : goal.returns
returns c = names_agree
