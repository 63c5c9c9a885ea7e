use Rattle.gq_engine.proofs.UpsertLemmas.{load_is_upserts}
use Rattle.gq_engine.proofs.laws.load_is_upserts.Goals as goal

pub returns : goal.returns
returns c = load_is_upserts
