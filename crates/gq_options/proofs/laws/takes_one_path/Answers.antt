use Rattle.gq_options.proofs.LineLemmas.{takes-one-path}
use Rattle.gq_options.proofs.laws.takes_one_path.Goals as goal

pub returns : goal.returns
returns c = takes-one-path
