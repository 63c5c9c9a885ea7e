use Rattle.std.proofs.Common.{◌≡◌, ◌+◌, ◌^◌, ◌<◌, ◌∙◌, ◌++◌, ◌∷◌, [], length, map, ap, subst, sym, rules, arith, length-append}
use Rattle.gq_row.specs.Rows.{cell}
use Rattle.gq_cells.specs.Keys.{AreInOrder}
use Rattle.gq_cells.specs.Words.{word_value}
use Rattle.gq_cells.proofs.KeyLemmas.{ordered_index, ordered_own, ordered_words, own_key}
use Rattle.gq_cells.proofs.TaggedCellLemmas.{word_pushed}
use Rattle.gq_cells.proofs.keys.push_value.Goals as goal

pub returns-in-Some-clause-pushed : goal.returns-in-Some-clause-pushed
returns-in-Some-clause-pushed c =
    let overflow = c.args.overflow.now.items in
    ap (map (word_value overflow)) c.in_ok-push.ensures.items
    ∙ own_key overflow c.args.words.now.items c.in-Some.word c.in-Some.ensures.word.0
    ∙ ap (λ v. map (word_value overflow) c.args.words.now.items ++ v ∷ []) c.in-Some.ensures.value

pub returns-in-Some-clause-ordered : goal.returns-in-Some-clause-ordered
returns-in-Some-clause-ordered c =
    let to = length c.args.overflow.now.items in
    subst (λ ws. AreInOrder 0 ws to) (sym c.in_ok-push.ensures.items)
    (ordered_own 0 to c.in-Some.word c.args.words.now.items c.in-Some.ensures.word.0 c.in-Some.ensures.word.1 c.requires.ordered)

pub returns-clause-pushed : goal.returns-clause-pushed
returns-clause-pushed c =
    let overflow = c.args.overflow.now.items in
    let value = cell c.args.key.now c.args.position in
    let words = c.args.words.now.items in
    let word = c.in_ok-word.word in
    let all : c.push_to.new.values.items ≡ overflow ++ value ∷ [] = c.in_ok-push_to.ensures.ok in
    let more : c.push-2.new.self.items ≡ words ++ word ∷ [] = search rules in
    let is : word ≡ 2 ^ 63 + length overflow = search rules in
    let few : length overflow + 1 < 2 ^ 62 = search rules in
    (λ i. map (word_value (all i)) (more i)) ∙ word_pushed overflow value words word few is (ordered_words 0 (length overflow) words c.requires.ordered)

pub returns-clause-ordered : goal.returns-clause-ordered
returns-clause-ordered c =
    let overflow = c.args.overflow.now.items in
    let value = cell c.args.key.now c.args.position in
    let words = c.args.words.now.items in
    let word = c.in_ok-word.word in
    let more : c.push-2.new.self.items ≡ words ++ word ∷ [] = search rules in
    let is : word ≡ 2 ^ 63 + length overflow = search rules in
    let few : length overflow + 1 < 2 ^ 62 = search rules in
    let long : length c.push_to.new.values.items ≡ length overflow + 1 = ap length c.in_ok-push_to.ensures.ok ∙ length-append overflow (value ∷ []) in
    subst (λ ws. AreInOrder 0 ws (length c.push_to.new.values.items)) (sym more)
    (subst (AreInOrder 0 (words ++ word ∷ [])) (sym long) (ordered_index 0 (length overflow) word words (omega (arith, few)) is c.requires.ordered))
