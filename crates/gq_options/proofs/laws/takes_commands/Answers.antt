use Rattle.gq_options.proofs.CommandLemmas.{takes-commands}
use Rattle.gq_options.proofs.laws.takes_commands.Goals as goal

pub returns : goal.returns
returns c = takes-commands
