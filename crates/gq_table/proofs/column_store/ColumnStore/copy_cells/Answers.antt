use Rattle.std.proofs.Common.{◌<◌, ◌∙◌, [], List, length, map, slice_index_or, All, sym, ap, subst}
use Rattle.std.proofs.lemmas.Result.{on_ok_weaker}
use Rattle.gq_row.specs.declared.value.Value.{Value}
use Rattle.gq_row.specs.declared.value.Value.TheVariants.{Null}
use Rattle.gq_row.specs.Written.{IsInPlace}
use Rattle.gq_table.proofs.ColumnStoreLemmas.{column_there, picked}
use Rattle.gq_table.proofs.column_store.ColumnStore.copy_cells.Goals as goal

pub pick_cells-requires-clause-columns : goal.pick_cells-requires-clause-columns
pick_cells-requires-clause-columns c = λ k d lt.
    let g = c.self.inside in
    subst (λ (l : List (List Value)). slice_index_or c.args.columns.now k d < length l) (sym c.as_slice.ensures.value)
    (column_there g.rows c.args.position (slice_index_or c.args.columns.now k d) g.columns.items c.args.self.now c.self.view_is c.self.invariant (c.requires.within k d lt)).0

pub pick_cells-requires-clause-within : goal.pick_cells-requires-clause-within
pick_cells-requires-clause-within c = λ k d lt.
    let g = c.self.inside in
    subst (λ (l : List (List Value)). c.args.position < length (slice_index_or l (slice_index_or c.args.columns.now k d) [])) (sym c.as_slice.ensures.value)
    (column_there g.rows c.args.position (slice_index_or c.args.columns.now k d) g.columns.items c.args.self.now c.self.view_is c.self.invariant (c.requires.within k d lt)).1

pub returns-clause-copied : goal.returns-clause-copied
returns-clause-copied c =
    let g = c.self.inside in
    on_ok_weaker c.pick_cells.result
    (λ e.
    e
    ∙ ap (λ (l : List (List Value)). map (λ column. slice_index_or (slice_index_or l column []) c.args.position Null) c.args.columns.now) c.as_slice.ensures.value
    ∙ picked g.rows c.args.position g.columns.items c.args.self.now c.self.view_is c.self.invariant c.args.columns.now c.requires.within)
    c.pick_cells.ensures.copied

pub returns-clause-in_place : goal.returns-clause-in_place
returns-clause-in_place c = λ placed.
    let g = c.self.inside in
    c.pick_cells.ensures.in_place
    (subst (All IsInPlace)
    (sym (ap (λ (l : List (List Value)). map (λ column. slice_index_or (slice_index_or l column []) c.args.position Null) c.args.columns.now) c.as_slice.ensures.value
    ∙ picked g.rows c.args.position g.columns.items c.args.self.now c.self.view_is c.self.invariant c.args.columns.now c.requires.within))
    placed)
