use Rattle.std.proofs.Common.{rules}
use Rattle.std.proofs.lemmas.List.Sorted.{IsPermutation-trans}
use Rattle.gq_query.proofs.GroupSpanLemmas.{sorted_at}
use Rattle.gq_query.proofs.TieLemmas.{moved_tied}
use Rattle.gq_query.proofs.tie_sort.sort_prefixed.Goals as goal

pub sort_runs-requires : goal.sort_runs-requires
sort_runs-requires c = moved_tied c.args.cells.now c.args.tie c.args.groups.now c.sort_unstable_by.new.self c.sort_unstable_by.ensures.permutation c.requires

pub returns-then-not-sort_runs : goal.returns-then-not-sort_runs
returns-then-not-sort_runs c = record {
  moved = IsPermutation-trans _ _ _ c.sort_unstable_by.ensures.permutation (IsPermutation-trans _ _ _ c.sort_runs.ensures.moved c.sort_unstable_by-then-not-sort_runs.ensures.permutation);
  sorted = sorted_at c.args.cells.now c.sort_unstable_by-then-not-sort_runs.new.self c.sort_unstable_by-then-not-sort_runs.ensures.sorted (λ a r q k. search rules);
}

pub returns-else-not-sort_runs : goal.returns-else-not-sort_runs
returns-else-not-sort_runs c = record {
  moved = IsPermutation-trans _ _ _ c.sort_unstable_by.ensures.permutation c.sort_runs.ensures.moved;
  sorted = c.sort_runs.ensures.sorted (search rules);
}
