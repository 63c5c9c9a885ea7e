use Rattle.std.proofs.Common.{◌≡◌, drop}
use Rattle.std.specs.Prelude.{fold}
use Rattle.gq_query.specs.Cells.{with_agg, columns_used}
use Rattle.gq_query.proofs.cells.columns_used.Given as goal

abbrev pub invariant-loop-agg : goal.invariant-loop-agg
invariant-loop-agg l = fold with_agg l.columns.items (drop l.agg-index l.aggs) ≡ columns_used (record { by = l.by; aggs = l.aggs })
