use Rattle.std.proofs.Common.{◌≡◌, ◌++◌, drop}
use Rattle.gq_query.specs.Cells.{placed_aggs}
use Rattle.gq_query.proofs.cells.place_aggs.Given as goal

abbrev pub invariant-loop-agg : goal.invariant-loop-agg
invariant-loop-agg l = l.aggs.items ++ placed_aggs l.columns (drop l.agg-index l.asked) ≡ placed_aggs l.columns l.asked
