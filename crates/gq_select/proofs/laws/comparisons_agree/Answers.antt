use Rattle.gq_select.proofs.TruthLemmas.{at_equal, at_same, at_not_equal, at_least, at_above}
use Rattle.gq_select.proofs.laws.comparisons_agree.Goals as goal

pub returns : goal.returns
returns c = record { equal = at_equal; same = at_same; not_equal = at_not_equal; at_least = at_least; above = at_above }
