use Rattle.gq_clause.proofs.Agrees.{tests_agree}
use Rattle.gq_clause.proofs.laws.tests_agree.Goals as goal

pub returns : goal.returns
returns c = tests_agree
