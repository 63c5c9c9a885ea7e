use Rattle.gq_spill.proofs.ReadingLemmas.{reads_back}
use Rattle.gq_spill.proofs.laws.reads_back.Goals as goal

pub returns : goal.returns
returns c = reads_back
