use Rattle.std.proofs.Common.{◌≡◌, drop}
use Rattle.std.specs.Cmp.Lexicographic.{slice_cmp}
use Rattle.gq_row.specs.Order.{folded_order}
use Rattle.gq_row.specs.Rows.{cells_in}
use Rattle.gq_query.proofs.ordering.compare_in.Given as goal

abbrev pub invariant-loop-column : goal.invariant-loop-column
invariant-loop-column l = slice_cmp folded_order (cells_in (drop l.column-index l.columns) l.a) (cells_in (drop l.column-index l.columns) l.b) ≡ slice_cmp folded_order (cells_in l.columns l.a) (cells_in l.columns l.b)
