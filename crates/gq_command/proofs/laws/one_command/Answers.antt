use Rattle.gq_token.specs.Lexing.{tokens}
use Rattle.gq_command.proofs.Again.{one_command}
use Rattle.gq_command.proofs.laws.one_command.Goals as goal

pub returns : goal.returns
returns c = λ line c d a b. one_command (tokens line) c d a b
