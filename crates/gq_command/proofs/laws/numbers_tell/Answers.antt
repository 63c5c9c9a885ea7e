use Rattle.gq_command.proofs.NumberLemmas.{numbers_tell}
use Rattle.gq_command.proofs.laws.numbers_tell.Goals as goal

pub returns : goal.returns
returns c = numbers_tell
