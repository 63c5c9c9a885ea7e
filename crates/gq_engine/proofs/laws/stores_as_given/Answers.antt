use Rattle.gq_engine.proofs.CaseLemmas.{stores_as_given}
use Rattle.gq_engine.proofs.laws.stores_as_given.Goals as goal

pub returns : goal.returns
returns c = stores_as_given
