use Rattle.std.proofs.Common.{◌≡◌, drop, map}
use Rattle.std.specs.Cmp.Lexicographic.{pointwise}
use Rattle.gq_select.specs.Asking.{kind_at}
use Rattle.gq_plan.specs.Kinds.{same_kind}
use Rattle.gq_plan.proofs.kinds.kinds_agree.Given as goal

abbrev pub invariant-loop-i : goal.invariant-loop-i
invariant-loop-i l =
    pointwise same_kind (map (kind_at l.others) (drop l.i l.theirs)) (map (kind_at l.columns) (drop l.i l.ours)) ≡ pointwise same_kind (map (kind_at l.others) l.theirs) (map (kind_at l.columns) l.ours)
