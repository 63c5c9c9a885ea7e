use Rattle.gq_token.proofs.Longest.{cuts_all}
use Rattle.gq_token.proofs.laws.cuts_all.Goals as goal

pub returns : goal.returns
returns c = cuts_all
