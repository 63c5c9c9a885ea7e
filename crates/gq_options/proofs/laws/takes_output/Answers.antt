use Rattle.gq_options.proofs.OutputLemmas.{outputs-worked, takes-output}
use Rattle.gq_options.proofs.laws.takes_output.Goals as goal

pub returns : goal.returns
returns c = record { vary = takes-output; worked = outputs-worked }
