use Rattle.std.proofs.Common.{◌≡◌, ◌+◌, ◌^◌, ◌∙◌, ◌++◌, ◌∷◌, [], ◌<◌, length, map, subst, sym, ap, rules, arith}
use Rattle.std.proofs.lemmas.List.{length-append}
use Rattle.gq_cells.specs.Words.{AreWords, word_value}
use Rattle.gq_cells.proofs.TaggedCellLemmas.{kept_words, places_added, word_pushed, words_with}
use Rattle.gq_cells.proofs.tagged_cells.TaggedCells.push.Goals as goal

pub invariant_of-self-in_err-push : goal.invariant_of-self-in_err-push
invariant_of-self-in_err-push c =
    let overflow = c.self.inside.overflow.items in
    let value = c.args.value.now in
    let words = c.self.inside.words.items in
    let all : c.push_value.new.values.items ≡ overflow ++ value ∷ [] = search rules in
    let same : c.push.new.self.items ≡ words = search rules in
    let places = length overflow in
    let more = length (overflow ++ value ∷ []) in
    let one = length-append overflow (value ∷ []) in
    let room : length overflow + 1 < 2 ^ 62 = search rules in
    subst (λ l. AreWords (length l) c.push.new.self.items) (sym all)
    (subst (AreWords more) (sym same) (record {
      all = places_added places more words (omega (arith, one)) c.self.invariant.all;
      few = omega (arith, one, room);
    }))

pub returns-in_err-push-clause-unchanged : goal.returns-in_err-push-clause-unchanged
returns-in_err-push-clause-unchanged c =
    let overflow = c.self.inside.overflow.items in
    let value = c.args.value.now in
    let words = c.self.inside.words.items in
    let all : c.push_value.new.values.items ≡ overflow ++ value ∷ [] = search rules in
    let same : c.push.new.self.items ≡ words = search rules in
    let one = length-append overflow (value ∷ []) in
    let room : length overflow + 1 < 2 ^ 62 = search rules in
    let still : map (word_value c.push_value.new.values.items) c.push.new.self.items ≡ c.args.self.now =
    (λ i. map (word_value (all i)) (same i)) ∙ kept_words overflow (value ∷ []) words (omega (arith, one, room)) c.self.invariant.all ∙ c.self.view_is in
    search rules

pub invariant_of-self-2 : goal.invariant_of-self-2
invariant_of-self-2 c =
    let overflow = c.self.inside.overflow.items in
    let value = c.args.value.now in
    let words = c.self.inside.words.items in
    let word = c.in_ok-word.word in
    let all : c.push_value.new.values.items ≡ overflow ++ value ∷ [] = search rules in
    let place : word ≡ 2 ^ 63 + length overflow = search rules in
    subst (λ l. AreWords (length l) c.push.new.self.items) (sym all)
    (subst (AreWords (length (overflow ++ value ∷ []))) (sym c.in_ok-push.ensures.items) (words_with overflow value words word (search rules) place c.self.invariant.all))

pub returns-clause-pushed : goal.returns-clause-pushed
returns-clause-pushed c =
    let overflow = c.self.inside.overflow.items in
    let value = c.args.value.now in
    let words = c.self.inside.words.items in
    let word = c.in_ok-word.word in
    let all : c.push_value.new.values.items ≡ overflow ++ value ∷ [] = search rules in
    let place : word ≡ 2 ^ 63 + length overflow = search rules in
    (λ i. map (word_value (all i)) (c.in_ok-push.ensures.items i)) ∙ word_pushed overflow value words word (search rules) place c.self.invariant.all ∙ ap (λ l. l ++ value ∷ []) c.self.view_is
