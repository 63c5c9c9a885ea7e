use Rattle.gq_options.proofs.StatsLemmas.{takes-stats}
use Rattle.gq_options.proofs.laws.takes_stats.Goals as goal

pub returns : goal.returns
returns c = takes-stats
