use Rattle.std.proofs.Common.{◌≡◌, Equal, sym, ◌∙◌, arith}
use Rattle.std.proofs.lemmas.Grind.{common_steps}
use Rattle.std.specs.Cmp.Lexicographic.{slice_cmp}
use Rattle.gq_row.specs.Order.{folded_order}
use Rattle.gq_row.specs.Rows.{cells_in}
use Rattle.gq_query.proofs.OrderingLemmas.{keys_by_cells}
use Rattle.gq_query.proofs.ordering.compare_in.Goals as goal

pub loop-column-preserved : goal.loop-column-preserved
loop-column-preserved c = grind (arith, common_steps)

pub returns-in_default : goal.returns-in_default
returns-in_default c =
    let columns = c.args.columns.now in
    let cells : c.compare_cell.result ≡ slice_cmp folded_order (cells_in columns c.args.a.now) (cells_in columns c.args.b.now) = grind (arith, common_steps) in
    cells ∙ sym (keys_by_cells columns c.args.a.now c.args.b.now)

pub returns : goal.returns
returns c =
    let columns = c.args.columns.now in
    let cells : Equal ≡ slice_cmp folded_order (cells_in columns c.args.a.now) (cells_in columns c.args.b.now) = grind (arith, common_steps) in
    cells ∙ sym (keys_by_cells columns c.args.a.now c.args.b.now)
