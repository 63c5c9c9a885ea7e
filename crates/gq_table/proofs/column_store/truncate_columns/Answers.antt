use Rattle.std.proofs.Common.{◌≡◌, ◌∙◌, ◌+◌, ◌++◌, suc, map, take, drop, slice_index_or, slice_set, ap, arith}
use Rattle.gq_cells.proofs.RowsLemmas.{moved_in_place}
use Rattle.gq_table.proofs.column_store.truncate_columns.Goals as goal

pub loop-i-preserved : goal.loop-i-preserved
loop-i-preserved c =
    let i = c.loop-i.i in
    let old = c.args.columns.now in
    let d = c.index-columns-i.result in
    let so_far = c.loop-i.invariant in
    let next : suc i ≡ i + 1 = omega arith in
    (λ z. slice_set (so_far z) i ((c.truncate.ensures ∙ ap (λ l. take c.args.cells (slice_index_or l i d)) so_far) z))
    ∙ moved_in_place (take c.args.cells) old i d c.loop-i-test.true
    ∙ (λ z. map (take c.args.cells) (take (next z) old) ++ drop (next z) old)
