use Rattle.gq_shell.proofs.StatusLemmas.{statuses-mean}
use Rattle.gq_shell.proofs.laws.statuses_mean.Goals as goal

pub returns : goal.returns
returns c = statuses-mean
