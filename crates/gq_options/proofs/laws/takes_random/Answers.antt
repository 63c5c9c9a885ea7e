use Rattle.gq_options.proofs.RandomLemmas.{takes-random}
use Rattle.gq_options.proofs.laws.takes_random.Goals as goal

pub returns : goal.returns
returns c = takes-random
