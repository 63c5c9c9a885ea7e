use Rattle.std.proofs.Common.{◌≡◌, drop, map}
use Rattle.gq_row.specs.Folding.{folded}
use Rattle.gq_row.specs.Order.{same_key}
use Rattle.gq_row.proofs.keyed.have_folds.Given as goal

abbrev pub invariant-loop-i : goal.invariant-loop-i
invariant-loop-i l = same_key (map folded (drop l.i l.cells)) (drop l.i l.key) ≡ same_key (map folded l.cells) l.key
