use Rattle.std.proofs.Common.{refl}
use Rattle.gq_select.proofs.TruthLemmas.{all_of-cons, both-comm, both-assoc}
use Rattle.gq_select.proofs.laws.and_is_of_two.Goals as goal

pub returns : goal.returns
returns c = record { none = refl; more = all_of-cons; either_way = both-comm; grouped = both-assoc }
