use Rattle.gq_command.proofs.OneReading.{reads_once}
use Rattle.gq_command.proofs.laws.reads_once.Goals as goal

pub returns : goal.returns
returns c = reads_once
