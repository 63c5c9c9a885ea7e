use Rattle.std.proofs.Common.{◌∙◌, sym, ap, map, length, arith}
use Rattle.std.proofs.lemmas.List.{length-map}
use Rattle.std.proofs.lemmas.List.Sorted.{All-permutation, IsPermutation-swap}
use Rattle.std.specs.List.{swap}
use Rattle.gq_cells.specs.Lists.{IsPart, row_at}
use Rattle.gq_cells.proofs.RowsLemmas.{map-swap}
use Rattle.gq_cells.proofs.rows.Rows.swap.Goals as goal

pub invariant_of-self : goal.invariant_of-self
invariant_of-self c =
    let spans = c.self.inside.spans.items in
    let long = sym (length-map spans (row_at c.self.inside.cells)) ∙ ap length c.self.view_is in
    All-permutation (IsPart c.self.inside.cells) spans c.swap.new.self.items
    (IsPermutation-swap spans c.swap.new.self.items c.args.a c.args.b (omega (arith, long, c.requires.0)) (omega (arith, long, c.requires.1)) c.swap.ensures.items)
    c.self.invariant

pub returns : goal.returns
returns c =
    ap (map (row_at c.self.inside.cells)) c.swap.ensures.items
    ∙ map-swap (row_at c.self.inside.cells) c.self.inside.spans.items c.args.a c.args.b
    ∙ ap (λ l. swap l c.args.a c.args.b) c.self.view_is
