use Rattle.std.proofs.Common.{◌≡◌, ◌≤◌, drop, length, true}
use Rattle.gq_group.specs.Fitting.{has_no_sum}
use Rattle.gq_group.proofs.group_spec.sums_end.Given as goal

abbrev pub invariant-loop-end : goal.invariant-loop-end
invariant-loop-end l = (l.end ≤ length l.aggs) × (has_no_sum (drop l.end l.aggs) ≡ true)

abbrev pub decreases-loop-end : goal.decreases-loop-end
decreases-loop-end l = l.end
