use Rattle.std.proofs.Common.{◌∙◌, All, length, map, subst, sym}
use Rattle.gq_cells.specs.Lists.{part}
use Rattle.gq_cells.specs.Words.{HasText, word_value}
use Rattle.gq_cells.proofs.TaggedCellLemmas.{utf8_at, words_at}
use Rattle.gq_cells.proofs.tagged_cells.TaggedCells.lend.Goals as goal

pub returns-clause-values : goal.returns-clause-values
returns-clause-values c = words_at c.as_slice.result.now c.deref.result.now c.args.self.now c.args.part ((λ i. map (word_value (c.as_slice.ensures.value i)) (c.deref.ensures.value i)) ∙ c.self.view_is)

pub returns-clause-utf8 : goal.returns-clause-utf8
returns-clause-utf8 c =
    let at = c.args.part in
    subst (λ l. All HasText (part l at.start at.end)) (sym c.deref.ensures.value) (utf8_at (length c.self.inside.overflow.items) c.self.inside.words.items at c.self.invariant.all)
