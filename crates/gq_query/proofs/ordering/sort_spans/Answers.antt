use Rattle.std.proofs.Common.{rules}
use Rattle.std.proofs.lemmas.List.Sorted.{IsPermutation-trans}
use Rattle.std.proofs.lemmas.Result.{on_ok_weaker}
use Rattle.gq_query.specs.Answers.{ordered_by}
use Rattle.gq_query.specs.Spans.{row_in}
use Rattle.gq_query.proofs.OrderingLemmas.{sorted_by}
use Rattle.gq_query.proofs.ordering.sort_spans.Goals as goal

pub returns-clause-moved : goal.returns-clause-moved
returns-clause-moved c = IsPermutation-trans _ _ _ c.in_ok-sort_by_prefixes.ensures c.sort_by.ensures.permutation

pub returns-clause-ascending : goal.returns-clause-ascending
returns-clause-ascending c =
    on_ok_weaker c.sort_by.result
    (λ up. sorted_by (λ span. ordered_by c.args.columns.now (row_in c.args.cells.now span)) c.sort_by.new.self.items up (λ a r q k. search rules))
    c.sort_by.ensures.sorted
