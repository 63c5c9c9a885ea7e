use Rattle.std.proofs.Common.{◌≡◌, ◌<◌, ◌≤◌, ◌-◌, ℕ, get_or, length, map}
use Rattle.gq_query.specs.declared.sort_prefix.SortPrefix.{SortPrefix}
use Rattle.gq_query.specs.declared.group_list.GroupSpan.{GroupSpan}
use Rattle.gq_query.specs.GroupSpans.{with_prefix}
use Rattle.gq_query.specs.Ties.{HasRestPrefix}
use Rattle.gq_query.proofs.tie_sort.sort_by_prefix.Given as goal

abbrev pub invariant-chunks : goal.invariant-chunks
invariant-chunks l = record {
  kept : (p : SortPrefix) → map (with_prefix p) l.groups ≡ map (with_prefix p) l.fn.groups;
  within : l.at ≤ length l.groups;
  prefixed : (k : ℕ) (d : GroupSpan) → k < l.at → HasRestPrefix l.cells l.tie (get_or l.groups k d);
}

abbrev pub decreases-chunks : goal.decreases-chunks
decreases-chunks l = length l.groups - l.at
