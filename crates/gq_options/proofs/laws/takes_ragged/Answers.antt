use Rattle.gq_options.proofs.RaggedLemmas.{takes-ragged}
use Rattle.gq_options.proofs.laws.takes_ragged.Goals as goal

pub returns : goal.returns
returns c = takes-ragged
