use Rattle.gq_infer.proofs.NarrowLemmas.{narrowest}
use Rattle.gq_infer.proofs.laws.is_narrowest.Goals as goal

pub returns : goal.returns
returns c = narrowest
