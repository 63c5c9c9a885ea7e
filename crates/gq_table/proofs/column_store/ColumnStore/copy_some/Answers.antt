use Rattle.std.proofs.Common.{◌≡◌, ◌<◌, ◌∙◌, [], List, length, map, slice_index_or, sym, ap, subst, arith, rules, All}
use Rattle.std.proofs.lemmas.List.{length-map}
use Rattle.std.proofs.lemmas.Result.{on_ok_weaker}
use Rattle.gq_row.specs.declared.value.Value.{Value}
use Rattle.gq_row.specs.declared.value.Value.TheVariants.{Null}
use Rattle.gq_table.proofs.ColumnStoreLemmas.{position_within, row_there, whole, within_each}
use Rattle.gq_table.proofs.SomeCellsLemmas.{agree_in}
use Rattle.gq_table.proofs.column_store.ColumnStore.copy_some.Goals as goal

pub write_some-requires-clause-within : goal.write_some-requires-clause-within
write_some-requires-clause-within c =
    let g = c.self.inside in
    subst (All (λ (column : List Value). c.args.position < length column)) (sym c.as_slice.ensures.value)
    (within_each g.rows c.args.position g.columns.items c.self.invariant (position_within g.rows c.args.position g.columns.items c.args.self.now c.self.view_is c.self.invariant c.requires))

pub returns : goal.returns
returns c =
    let g = c.self.inside in
    let i = c.args.position in
    let at : List Value → Value = λ column. slice_index_or column i Null in
    let columns = c.as_slice.result.now in
    let written = whole c.if-len.row.len c.write_some.new.row c.if-len.row.items (omega (arith, c.write_some.auto.row, c.as_mut_slice.ensures.len)) in
    let there =
    ap (map at) c.as_slice.ensures.value
    ∙ sym (row_there g.rows i g.columns.items c.self.invariant (position_within g.rows i g.columns.items c.args.self.now c.self.view_is c.self.invariant c.requires))
    ∙ ap (λ rows. slice_index_or rows i []) c.self.view_is in
    let wide : length c.as_mut_slice.result.now ≡ length columns = search rules in
    on_ok_weaker c.write_some.result
    (agree_in c.args.columns.now c.write_some.new.row (map at columns) written there (c.write_some.ensures.long ∙ wide ∙ sym (length-map columns at)))
    c.write_some.ensures.cells
