use Rattle.std.proofs.Common.{◌∙◌, map, take, sym, ap}
use Rattle.std.proofs.lemmas.List.{take-map}
use Rattle.gq_row.specs.declared.value.Value.TheVariants.{Int}
use Rattle.gq_cells.specs.Cells.{cells_of, number_cell}
use Rattle.gq_cells.specs.declared.cells.Cells.TheInside.{Inside}
use Rattle.gq_cells.proofs.cells.Cells.truncate.Goals.{in-Narrow, in-Numbers, in-Nullable, in-Values, in-Tagged}
use Rattle.gq_cells.proofs.cells.Cells.truncate.Goals as goal

pub returns : goal.returns
returns c = elim c.match-self.branch [
  | in-Narrow w ↦
      ap (λ (s : Inside). cells_of s.stored) w.self-inside-is
      ∙ ap (map Int) w.truncate.ensures.items
      ∙ sym (take-map Int c.args.cells w.in-Narrow.numbers.items)
      ∙ ap (take c.args.cells) (ap cells_of (sym w.in-Narrow.is) ∙ c.self.view_is)
  | in-Numbers w ↦
      ap (λ (s : Inside). cells_of s.stored) w.self-inside-is
      ∙ ap (map Int) w.truncate-in-Numbers.ensures.items
      ∙ sym (take-map Int c.args.cells w.in-Numbers.numbers.items)
      ∙ ap (take c.args.cells) (ap cells_of (sym w.in-Numbers.is) ∙ c.self.view_is)
  | in-Nullable w ↦
      ap (λ (s : Inside). cells_of s.stored) w.self-inside-is
      ∙ ap (map number_cell) w.truncate-in-Nullable.ensures.items
      ∙ sym (take-map number_cell c.args.cells w.in-Nullable.numbers.items)
      ∙ ap (take c.args.cells) (ap cells_of (sym w.in-Nullable.is) ∙ c.self.view_is)
  | in-Values w ↦
      ap (λ (s : Inside). cells_of s.stored) w.self-inside-is
      ∙ w.truncate-in-Values.ensures.items
      ∙ ap (take c.args.cells) (ap cells_of (sym w.in-Values.is) ∙ c.self.view_is)
  | in-Tagged w ↦
      ap (λ (s : Inside). cells_of s.stored) w.self-inside-is
      ∙ w.truncate-in-Tagged.ensures
      ∙ ap (take c.args.cells) (ap cells_of (sym w.in-Tagged.is) ∙ c.self.view_is)
]
