use Rattle.std.proofs.Common.{◌∙◌, map, sym, ap}
use Rattle.gq_row.specs.declared.value.Value.TheVariants.{Int}
use Rattle.gq_cells.specs.Cells.{cells_of, number_cell}
use Rattle.gq_cells.specs.Lists.{part, row_at}
use Rattle.gq_cells.proofs.RowsLemmas.{part_map}
use Rattle.gq_cells.proofs.cells.Cells.lend.Goals as goal

pub returns-in-Narrow-clause-values : goal.returns-in-Narrow-clause-values
returns-in-Narrow-clause-values c =
    let it = c.args.part in
    let numbers = c.in-Narrow.numbers.items in
    (λ i. map Int (part (c.deref.ensures.value i) it.start it.end))
    ∙ sym (part_map Int numbers it.start it.end)
    ∙ ap (λ cells. row_at cells it) (sym (ap cells_of c.in-Narrow.is) ∙ c.self.view_is)

pub returns-in-Numbers-clause-values : goal.returns-in-Numbers-clause-values
returns-in-Numbers-clause-values c =
    let it = c.args.part in
    let numbers = c.in-Numbers.numbers.items in
    (λ i. map Int (part (c.deref-in-Numbers.ensures.value i) it.start it.end))
    ∙ sym (part_map Int numbers it.start it.end)
    ∙ ap (λ cells. row_at cells it) (sym (ap cells_of c.in-Numbers.is) ∙ c.self.view_is)

pub returns-in-Nullable-clause-values : goal.returns-in-Nullable-clause-values
returns-in-Nullable-clause-values c =
    let it = c.args.part in
    let numbers = c.in-Nullable.numbers.items in
    (λ i. map number_cell (part (c.deref-in-Nullable.ensures.value i) it.start it.end))
    ∙ sym (part_map number_cell numbers it.start it.end)
    ∙ ap (λ cells. row_at cells it) (sym (ap cells_of c.in-Nullable.is) ∙ c.self.view_is)
