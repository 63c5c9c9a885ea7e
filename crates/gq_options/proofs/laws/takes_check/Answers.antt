use Rattle.gq_options.proofs.CheckLemmas.{takes-check}
use Rattle.gq_options.proofs.laws.takes_check.Goals as goal

pub returns : goal.returns
returns c = takes-check
