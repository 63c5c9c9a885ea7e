use Rattle.std.proofs.Common.{◌≡◌, ◌-◌, take}
use Rattle.gq_row.specs.Folding.{fold_case}
use Rattle.gq_row.proofs.folding.long_folds_to.Given as goal

abbrev pub invariant-loop-at : goal.invariant-loop-at
invariant-loop-at l = fold_case (take l.at l.text) ≡ take l.at l.folded

abbrev pub decreases-loop-at : goal.decreases-loop-at
decreases-loop-at l = l.last - l.at
