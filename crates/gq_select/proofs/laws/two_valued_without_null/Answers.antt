use Rattle.gq_select.proofs.TruthLemmas.{known_tests}
use Rattle.gq_select.proofs.laws.two_valued_without_null.Goals as goal

pub returns : goal.returns
returns c = known_tests
