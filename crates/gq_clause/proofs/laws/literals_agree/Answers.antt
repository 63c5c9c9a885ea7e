use Rattle.gq_clause.proofs.Agrees.{literals_agree}
use Rattle.gq_clause.proofs.laws.literals_agree.Goals as goal

pub returns : goal.returns
returns c = literals_agree
