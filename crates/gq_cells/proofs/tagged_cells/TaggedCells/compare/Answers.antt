use Rattle.std.proofs.Common.{◌≡◌, ◌∙◌, All, Equal, length, map, subst, sym}
use Rattle.std.specs.Cmp.Lexicographic.{slice_cmp}
use Rattle.gq_row.specs.Order.{compare_values, folded_order}
use Rattle.gq_cells.specs.Lists.{part, row_at}
use Rattle.gq_cells.specs.Words.{HasText, word_value}
use Rattle.gq_cells.proofs.TaggedCellLemmas.{utf8_at, words_at}
use Rattle.gq_cells.proofs.OrderLemmas.{keys_by_folds, keys_by_values}
use Rattle.gq_cells.proofs.tagged_cells.TaggedCells.compare.Goals as goal

pub compare_words-requires : goal.compare_words-requires
compare_words-requires c =
    let places = length c.self.inside.overflow.items in
    let words = c.self.inside.words.items in
    let a = c.args.a in
    let b = c.args.b in (
      subst (λ l. All HasText (part l a.start a.end)) (sym c.deref.ensures.value) (utf8_at places words a c.self.invariant.all),
      subst (λ l. All HasText (part l b.start b.end)) (sym c.deref-2.ensures.value) (utf8_at places words b c.self.invariant.all),
    )

pub compare_words-requires-in-Equal : goal.compare_words-requires-in-Equal
compare_words-requires-in-Equal c =
    let places = length c.self.inside.overflow.items in
    let words = c.self.inside.words.items in
    let a = c.args.a in
    let b = c.args.b in (
      subst (λ l. All HasText (part l a.start a.end)) (sym c.deref.ensures.value) (utf8_at places words a c.self.invariant.all),
      subst (λ l. All HasText (part l b.start b.end)) (sym c.deref-2.ensures.value) (utf8_at places words b c.self.invariant.all),
    )

pub returns-in-Equal : goal.returns-in-Equal
returns-in-Equal c =
    let overflow = c.as_slice-overflow.result.now in
    let all = c.args.self.now in
    let left = words_at overflow c.deref.result.now all c.args.a ((λ i. map (word_value (c.as_slice-overflow.ensures.value i)) (c.deref.ensures.value i)) ∙ c.self.view_is) in
    let right = words_at overflow c.deref-2.result.now all c.args.b ((λ i. map (word_value (c.as_slice-overflow.ensures.value i)) (c.deref-2.ensures.value i)) ∙ c.self.view_is) in
    let tie : slice_cmp folded_order (row_at all c.args.a) (row_at all c.args.b) ≡ Equal = (λ i. slice_cmp folded_order (sym left i) (sym right i)) ∙ sym c.compare_words.ensures ∙ c.in-Equal.is in
    c.compare_words-in-Equal.ensures ∙ (λ i. slice_cmp compare_values (left i) (right i)) ∙ keys_by_values (row_at all c.args.a) (row_at all c.args.b) tie

pub returns-in_default : goal.returns-in_default
returns-in_default c =
    let overflow = c.as_slice-overflow.result.now in
    let all = c.args.self.now in
    let left = words_at overflow c.deref.result.now all c.args.a ((λ i. map (word_value (c.as_slice-overflow.ensures.value i)) (c.deref.ensures.value i)) ∙ c.self.view_is) in
    let right = words_at overflow c.deref-2.result.now all c.args.b ((λ i. map (word_value (c.as_slice-overflow.ensures.value i)) (c.deref-2.ensures.value i)) ∙ c.self.view_is) in
    let told = c.compare_words.ensures ∙ (λ i. slice_cmp folded_order (left i) (right i)) in
    told ∙ keys_by_folds (row_at all c.args.a) (row_at all c.args.b) (λ tie. c.in_default.not-Equal (told ∙ tie))
