use Rattle.std.proofs.Common.{◌≡◌, drop}
use Rattle.std.specs.Prelude.{fold}
use Rattle.gq_query.specs.Cells.{with_column}
use Rattle.gq_query.proofs.cells.add_columns.Given as goal

abbrev pub invariant-loop-column : goal.invariant-loop-column
invariant-loop-column l = fold with_column l.columns.items (drop l.column-index l.more) ≡ fold with_column l.fn.columns.items l.more
