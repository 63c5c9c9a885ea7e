use Rattle.gq_select.proofs.TruthLemmas.{with_case, by_folds}
use Rattle.gq_select.proofs.laws.minds_case.Goals as goal

pub returns : goal.returns
returns c = record { with_case = with_case; by_folds = by_folds }
