use Rattle.gq_format.proofs.ObjectLemmas.{object_back}
use Rattle.gq_format.proofs.laws.json_reads_back.Goals as goal

pub returns : goal.returns
returns c = object_back
