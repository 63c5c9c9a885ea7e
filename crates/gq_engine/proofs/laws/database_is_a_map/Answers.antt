use Rattle.gq_engine.proofs.MapLemmas.{is_finite_map}
use Rattle.gq_engine.proofs.laws.database_is_a_map.Goals as goal

pub returns : goal.returns
returns c = is_finite_map
