use Rattle.std.proofs.Common.{◌∙◌, All, length, subst, sym}
use Rattle.gq_cells.specs.Keys.{values_in_order}
use Rattle.gq_cells.specs.Words.{HasText}
use Rattle.gq_cells.proofs.KeyLemmas.{in_order, ordered_utf8}
use Rattle.gq_cells.proofs.cells_left.CellsLeft.new.Goals as goal

pub returns : goal.returns
returns c =
    (λ i. values_in_order (c.into_iter.ensures.rest i) (c.into_iter-2.ensures.rest i)) ∙ sym (in_order 0 (length c.args.overflow.items) c.args.words.items c.args.overflow.items c.requires)

pub invariant_of-result : goal.invariant_of-result
invariant_of-result c = subst (All HasText) (sym c.into_iter.ensures.rest) (ordered_utf8 0 (length c.args.overflow.items) c.args.words.items c.requires)
