use Rattle.std.proofs.Common.{All, subst, rules}
use Rattle.std.proofs.lemmas.List.Elements.{All-head, All-tail}
use Rattle.gq_cells.specs.Words.{HasText}
use Rattle.gq_cells.proofs.tagged_cells.compare_words.Goals as goal

pub compare_word-requires : goal.compare_word-requires
compare_word-requires c =
    let both = c.in-Some-Some in (
      All-head HasText both.x.now both.more.now (subst (All HasText) both.ensures.cases.0 c.words.invariant.left_utf8),
      All-head HasText both.y.now both.others.now (subst (All HasText) both.ensures'.cases.0 c.words.invariant.right_utf8),
    )

pub words-preserved : goal.words-preserved
words-preserved c =
    let both = c.in-Some-Some in
    record {
      same = search rules;
      left_utf8 = All-tail HasText both.x.now both.more.now (subst (All HasText) both.ensures.cases.0 c.words.invariant.left_utf8);
      right_utf8 = All-tail HasText both.y.now both.others.now (subst (All HasText) both.ensures'.cases.0 c.words.invariant.right_utf8);
    }
