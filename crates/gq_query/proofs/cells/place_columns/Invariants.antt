use Rattle.std.proofs.Common.{◌≡◌, ◌++◌, drop}
use Rattle.gq_query.specs.Cells.{placed_columns}
use Rattle.gq_query.proofs.cells.place_columns.Given as goal

abbrev pub invariant-loop-column : goal.invariant-loop-column
invariant-loop-column l = l.places.items ++ placed_columns l.columns (drop l.column-index l.asked) ≡ placed_columns l.columns l.asked
