use Rattle.gq_select.proofs.TruthLemmas.{each_is_true, none_by_null}
use Rattle.gq_select.proofs.laws.keeps_what_is_true.Goals as goal

pub returns : goal.returns
returns c = record { each = each_is_true; none_by_null = none_by_null }
