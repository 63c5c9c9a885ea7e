use Rattle.gq_token.proofs.Longest.{takes_longest}
use Rattle.gq_token.proofs.laws.takes_longest.Goals as goal

pub returns : goal.returns
returns c = takes_longest
