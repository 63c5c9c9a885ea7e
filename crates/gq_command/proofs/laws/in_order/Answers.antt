use Rattle.gq_command.proofs.Passing.{in_order}
use Rattle.gq_command.proofs.laws.in_order.Goals as goal

pub returns : goal.returns
returns c = in_order
