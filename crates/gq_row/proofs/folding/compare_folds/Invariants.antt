use Rattle.std.proofs.Common.{◌≡◌, ◌≤◌, drop, length}
use Rattle.std.specs.Cmp.Lexicographic.{slice_cmp}
use Rattle.std.specs.Ordering.{nat_cmp}
use Rattle.gq_row.specs.Folding.{fold_case}
use Rattle.gq_row.proofs.folding.compare_folds.Given as goal

abbrev pub invariant-loop-i : goal.invariant-loop-i
invariant-loop-i l = record {
  within : l.i ≤ length l.b;
  rest : slice_cmp nat_cmp (fold_case (drop l.i l.a)) (fold_case (drop l.i l.b)) ≡ slice_cmp nat_cmp (fold_case l.a) (fold_case l.b);
}
