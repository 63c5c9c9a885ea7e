use Rattle.gq_row.proofs.LaneLemmas.{folds_is}
use Rattle.gq_row.proofs.folding.fold_lanes.Goals as goal

pub returns : goal.returns
returns c = folds_is c.args.lanes c.fits-lanes.0
