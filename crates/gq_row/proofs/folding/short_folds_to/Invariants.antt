use Rattle.std.proofs.Common.{◌≡◌, drop, bytes_eq}
use Rattle.gq_row.specs.Folding.{fold_case}
use Rattle.gq_row.proofs.folding.short_folds_to.Given as goal

abbrev pub invariant-loop-i : goal.invariant-loop-i
invariant-loop-i l = bytes_eq (fold_case (drop l.i l.text)) (drop l.i l.folded) ≡ bytes_eq (fold_case l.text) l.folded
