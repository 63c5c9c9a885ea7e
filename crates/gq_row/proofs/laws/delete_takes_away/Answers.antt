use Rattle.gq_row.proofs.DeleteLemmas.{delete-gone, delete-others}
use Rattle.gq_row.proofs.laws.delete_takes_away.Goals as goal

pub returns : goal.returns
returns c = record { gone = delete-gone; others = delete-others }
