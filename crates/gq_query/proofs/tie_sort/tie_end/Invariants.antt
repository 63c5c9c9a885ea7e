use Rattle.std.proofs.Common.{◌<◌, ◌≤◌, ◌-◌, ℕ, get_or, length}
use Rattle.gq_query.specs.declared.group_list.GroupSpan.{GroupSpan}
use Rattle.gq_query.specs.GroupSpans.{HasPrefix}
use Rattle.gq_query.proofs.tie_sort.tie_end.Given as goal

abbrev pub invariant-ties : goal.invariant-ties
invariant-ties l = record {
  low : l.at < l.end;
  high : l.end ≤ length l.groups;
  ties : (k : ℕ) (d : GroupSpan) → l.at ≤ k → k < l.end → HasPrefix l.prefix (get_or l.groups k d);
}

abbrev pub decreases-ties : goal.decreases-ties
decreases-ties l = length l.groups - l.end
