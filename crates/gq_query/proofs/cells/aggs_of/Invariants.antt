use Rattle.std.proofs.Common.{◌≡◌, ◌++◌, drop}
use Rattle.gq_query.specs.Cells.{aggs_of}
use Rattle.gq_query.proofs.cells.aggs_of.Given as goal

abbrev pub invariant-loop-asked : goal.invariant-loop-asked
invariant-loop-asked l = l.aggs.items ++ aggs_of (drop l.asked-index l.shown) ≡ aggs_of l.shown
