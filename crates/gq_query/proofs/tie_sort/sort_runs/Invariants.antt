use Rattle.std.proofs.Common.{◌-◌, length, IsPermutation, IsTrue}
use Rattle.std.specs.List.Sorted.{IsSortedWithin}
use Rattle.gq_query.proofs.TieLemmas.{span_below}
use Rattle.gq_query.proofs.tie_sort.sort_runs.Given as goal

abbrev pub invariant-runs : goal.invariant-runs
invariant-runs l = record {
  moved : IsPermutation l.fn.groups l.groups;
  sorted : IsTrue l.sorted → IsSortedWithin (span_below l.cells) l.groups 0 l.at;
}

abbrev pub decreases-runs : goal.decreases-runs
decreases-runs l = length l.groups - l.at
