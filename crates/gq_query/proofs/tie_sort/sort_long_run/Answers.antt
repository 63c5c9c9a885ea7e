use Rattle.std.proofs.Common.{rules}
use Rattle.std.proofs.lemmas.List.Sorted.{All-permutation}
use Rattle.gq_query.specs.GroupSpans.{HasPrefix, key_at}
use Rattle.gq_query.proofs.OrderingLemmas.{sorted_by}
use Rattle.gq_query.proofs.TieLemmas.{tie_sorted}
use Rattle.gq_query.proofs.tie_sort.sort_long_run.Goals as goal

pub returns-clause-sorted : goal.returns-clause-sorted
returns-clause-sorted c = λ _.
    let cells = c.args.cells.now in
    let new = c.sort_unstable_by.new.self in
    tie_sorted cells c.args.prefix new (All-permutation (HasPrefix c.args.prefix) c.args.groups.now new c.sort_unstable_by.ensures.permutation c.requires.same)
    (sorted_by (key_at cells) new c.sort_unstable_by.ensures.sorted (λ a r q k. search rules))
