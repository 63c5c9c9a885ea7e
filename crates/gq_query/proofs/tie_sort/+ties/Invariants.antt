use Rattle.std.proofs.Common.{◌-◌, ◌<◌, ◌+◌, ◌*◌, ℕ, get_or, length, map, IsPermutation, IsTrue}
use Rattle.std.specs.List.Sorted.{IsSortedByKey, IsSortedWithin}
use Rattle.gq_row.specs.Order.{compare_keys}
use Rattle.gq_query.specs.declared.group_list.GroupSpan.{GroupSpan}
use Rattle.gq_query.specs.GroupSpans.{HasPrefix, key_at, with_prefix}
use Rattle.gq_query.proofs.TieLemmas.{span_below}
use Rattle.gq_query.proofs.tie_sort.+ties.Given as goal

abbrev pub decreases-sort_ties : goal.decreases-sort_ties
decreases-sort_ties l = l.tie.depth * 4 + 2

abbrev pub decreases-sort_tie : goal.decreases-sort_tie
decreases-sort_tie l = l.tie.depth * 4 + 1

abbrev pub decreases-sort_long_tie : goal.decreases-sort_long_tie
decreases-sort_long_tie l = l.tie.depth * 4

abbrev pub decreases-sort_next : goal.decreases-sort_next
decreases-sort_next l = l.tie.depth * 4 + 3

abbrev pub invariant-sort_ties-ties : goal.invariant-sort_ties-ties
invariant-sort_ties-ties l = record {
  moved : IsPermutation l.fn.groups l.groups;
  sorted : IsTrue l.sorted → IsSortedWithin (span_below l.cells) l.groups 0 l.at;
}

abbrev pub decreases-sort_ties-ties : goal.decreases-sort_ties-ties
decreases-sort_ties-ties l = length l.groups - l.at

abbrev pub invariant-sort_next-loop-i : goal.invariant-sort_next-loop-i
invariant-sort_next-loop-i l = record {
  moved : IsPermutation (map (with_prefix l.prefix) l.fn.groups) (map (with_prefix l.prefix) l.groups);
  given : (k : ℕ) (d : GroupSpan) → k < l.i → HasPrefix l.prefix (get_or l.groups k d);
  sorted : IsTrue l.sorted → IsSortedByKey (key_at l.cells) compare_keys l.groups;
}
