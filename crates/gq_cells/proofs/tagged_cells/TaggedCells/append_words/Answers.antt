use Rattle.std.proofs.Common.{◌≡◌, ◌∙◌, ◌++◌, length, map, subst, sym, ap, rules}
use Rattle.gq_cells.specs.Words.{AreWords, word_value}
use Rattle.gq_cells.proofs.TaggedCellLemmas.{words_appended}
use Rattle.gq_cells.proofs.tagged_cells.TaggedCells.append_words.Goals as goal

pub invariant_of-self-2 : goal.invariant_of-self-2
invariant_of-self-2 c =
    let own = c.self.inside in
    let more = c.more.inside in
    let empty : length more.overflow.items ≡ 0 = search rules in
    subst (AreWords (length own.overflow.items)) (sym c.in_ok-append.ensures.items)
    (words_appended own.overflow.items more.overflow.items own.words.items more.words.items empty c.self.invariant c.more.invariant).0

pub returns-clause-moved : goal.returns-clause-moved
returns-clause-moved c =
    let own = c.self.inside in
    let more = c.more.inside in
    let empty : length more.overflow.items ≡ 0 = search rules in
    λ yes. ap (map (word_value own.overflow.items)) c.in_ok-append.ensures.items
    ∙ (words_appended own.overflow.items more.overflow.items own.words.items more.words.items empty c.self.invariant c.more.invariant).1
    ∙ (λ i. c.self.view_is i ++ c.more.view_is i)
