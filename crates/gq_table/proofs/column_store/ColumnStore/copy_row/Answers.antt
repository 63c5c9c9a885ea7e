use Rattle.std.proofs.Common.{◌<◌, ◌∙◌, [], List, length, map, slice_index_or, sym, ap, subst, arith, All}
use Rattle.std.proofs.lemmas.Result.{on_ok_weaker}
use Rattle.gq_row.specs.declared.value.Value.{Value}
use Rattle.gq_row.specs.declared.value.Value.TheVariants.{Null}
use Rattle.gq_table.proofs.ColumnStoreLemmas.{position_within, row_there, whole, within_each}
use Rattle.gq_table.proofs.column_store.ColumnStore.copy_row.Goals as goal

pub write_cells-requires-clause-within : goal.write_cells-requires-clause-within
write_cells-requires-clause-within c =
    let g = c.self.inside in
    subst (All (λ (column : List Value). c.args.position < length column)) (sym c.as_slice.ensures.value)
    (within_each g.rows c.args.position g.columns.items c.self.invariant (position_within g.rows c.args.position g.columns.items c.args.self.now c.self.view_is c.self.invariant c.requires))

pub returns : goal.returns
returns c =
    let g = c.self.inside in
    let i = c.args.position in
    on_ok_weaker c.write_cells.result
    (λ e.
    whole c.if-len.row.len c.write_cells.new.row c.if-len.row.items (omega (arith, c.write_cells.auto.row, c.as_mut_slice.ensures.len))
    ∙ e
    ∙ ap (map (λ (column : List Value). slice_index_or column i Null)) c.as_slice.ensures.value
    ∙ sym (row_there g.rows i g.columns.items c.self.invariant (position_within g.rows i g.columns.items c.args.self.now c.self.view_is c.self.invariant c.requires))
    ∙ ap (λ rows. slice_index_or rows i []) c.self.view_is)
    c.write_cells.ensures
