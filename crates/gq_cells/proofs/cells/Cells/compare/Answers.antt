use Rattle.std.proofs.Common.{◌≡◌, ◌∙◌, map, sym, ap}
use Rattle.gq_row.specs.declared.value.Value.TheVariants.{Int}
use Rattle.gq_row.specs.Order.{compare_keys}
use Rattle.gq_cells.specs.Cells.{cells_of, number_cell}
use Rattle.gq_cells.specs.Lists.{part, row_at}
use Rattle.gq_cells.proofs.RowsLemmas.{part_map}
use Rattle.gq_cells.proofs.cells.Cells.compare.Goals as goal

pub returns-in-Narrow : goal.returns-in-Narrow
returns-in-Narrow c =
    let a = c.args.a in
    let b = c.args.b in
    let numbers = c.in-Narrow.numbers.items in
    let all : map Int numbers ≡ c.args.self.now = sym (ap cells_of c.in-Narrow.is) ∙ c.self.view_is in
    c.compare_narrow.ensures
    ∙ (λ i. compare_keys (map Int (part (c.deref.ensures.value i) a.start a.end)) (map Int (part (c.deref-in-Narrow.ensures.value i) b.start b.end)))
    ∙ (λ i. compare_keys (sym (part_map Int numbers a.start a.end) i) (sym (part_map Int numbers b.start b.end) i))
    ∙ ap (λ cells. compare_keys (row_at cells a) (row_at cells b)) all

pub returns-in-Numbers : goal.returns-in-Numbers
returns-in-Numbers c =
    let a = c.args.a in
    let b = c.args.b in
    let numbers = c.in-Numbers.numbers.items in
    let all : map Int numbers ≡ c.args.self.now = sym (ap cells_of c.in-Numbers.is) ∙ c.self.view_is in
    c.compare_numbers.ensures
    ∙ (λ i. compare_keys (map Int (part (c.deref-in-Numbers.ensures.value i) a.start a.end)) (map Int (part (c.deref-in-Numbers-2.ensures.value i) b.start b.end)))
    ∙ (λ i. compare_keys (sym (part_map Int numbers a.start a.end) i) (sym (part_map Int numbers b.start b.end) i))
    ∙ ap (λ cells. compare_keys (row_at cells a) (row_at cells b)) all

pub returns-in-Nullable : goal.returns-in-Nullable
returns-in-Nullable c =
    let a = c.args.a in
    let b = c.args.b in
    let numbers = c.in-Nullable.numbers.items in
    let all : map number_cell numbers ≡ c.args.self.now = sym (ap cells_of c.in-Nullable.is) ∙ c.self.view_is in
    c.compare_nullable.ensures
    ∙ (λ i. compare_keys (map number_cell (part (c.deref-in-Nullable.ensures.value i) a.start a.end)) (map number_cell (part (c.deref-in-Nullable-2.ensures.value i) b.start b.end)))
    ∙ (λ i. compare_keys (sym (part_map number_cell numbers a.start a.end) i) (sym (part_map number_cell numbers b.start b.end) i))
    ∙ ap (λ cells. compare_keys (row_at cells a) (row_at cells b)) all
