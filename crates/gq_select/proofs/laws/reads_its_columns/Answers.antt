use Rattle.gq_select.proofs.ReadLemmas.{truth_same}
use Rattle.gq_select.proofs.laws.reads_its_columns.Goals as goal

pub returns : goal.returns
returns c = truth_same
