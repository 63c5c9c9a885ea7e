use Rattle.std.proofs.Common.{◌∙◌, ◌++◌, ◌∷◌, [], length, map, subst, sym, ap}
use Rattle.gq_cells.specs.Words.{AreWords, word_value}
use Rattle.gq_cells.proofs.TaggedCellLemmas.{own_pushed, own_with}
use Rattle.gq_cells.proofs.tagged_cells.TaggedCells.push_word.Goals as goal

pub invariant_of-self-2 : goal.invariant_of-self-2
invariant_of-self-2 c =
    let places = length c.self.inside.overflow.items in
    subst (AreWords places) (sym c.in_ok-push.ensures.items) (own_with places c.self.inside.words.items c.args.word c.requires c.self.invariant)

pub returns-clause-pushed : goal.returns-clause-pushed
returns-clause-pushed c =
    let overflow = c.self.inside.overflow.items in
    let word = c.args.word in
    ap (map (word_value overflow)) c.in_ok-push.ensures.items
    ∙ own_pushed overflow c.self.inside.words.items word c.self.invariant.few c.requires
    ∙ ap (λ l. l ++ word_value [] word ∷ []) c.self.view_is
