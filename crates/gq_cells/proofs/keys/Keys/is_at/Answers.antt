use Rattle.std.proofs.Common.{arith, ◌≡◌, ◌≤◌, ◌+◌, ◌-◌, ◌*◌, ◌∙◌, length, map, take, drop, All, subst, sym, ap}
use Rattle.std.proofs.lemmas.Bool.Decides.{nat_tests}
use Rattle.std.proofs.lemmas.List.{length-map}
use Rattle.std.proofs.lemmas.List.Elements.{All-drop, All-take}
use Rattle.std.specs.List.{slice_get}
use Rattle.gq_row.specs.Order.{same_key}
use Rattle.gq_cells.specs.Keys.{is_same}
use Rattle.gq_cells.specs.Words.{HasText, word_value}
use Rattle.gq_cells.proofs.KeyLemmas.{key_long, key_words, no_key, ordered_utf8, other_length}
use Rattle.gq_cells.proofs.keys.Keys.is_at.Goals as goal

pub has_values-requires-clause-utf8 : goal.has_values-requires-clause-utf8
has_values-requires-clause-utf8 c =
    let own = c.self.inside in
    let start = c.args.position * own.width in
    let end = start + own.width in
    subst (λ l. All HasText (take (end - start) (drop start l))) (sym c.deref.ensures.value)
    (All-take HasText (end - start) (drop start own.words.items) (All-drop HasText start own.words.items (ordered_utf8 0 (length own.overflow.items) own.words.items c.self.invariant.ordered)))

pub returns-then-position-self : goal.returns-then-position-self
returns-then-position-self c =
    let own = c.self.inside in
    let cells = map (word_value own.overflow.items) own.words.items in
    let past : own.len ≤ c.args.position = grind (arith, nat_tests) in
    ap (is_same c.args.key.now) (sym (no_key own.width own.len c.args.position cells past) ∙ ap (λ ks. slice_get ks c.args.position) c.self.view_is)

pub returns-then-len-self : goal.returns-then-len-self
returns-then-len-self c =
    let own = c.self.inside in
    let p = c.args.position in
    let key = c.args.key.now in
    let words = take own.width (drop (p * own.width) own.words.items) in
    let cells = map (word_value own.overflow.items) words in
    let at = key_words own.width own.len p (p * own.width) own.overflow.items own.words.items c.if-position-self.false (λ z. p * own.width) in
    let long : length cells ≡ own.width = length-map words (word_value own.overflow.items) ∙ key_long own.width own.len p own.words.items c.self.invariant.whole c.if-position-self.false in
    sym (other_length key cells (λ same. c.if-len-self.true (c.len.ensures ∙ same ∙ long))) ∙ ap (is_same key) (sym at ∙ ap (λ ks. slice_get ks p) c.self.view_is)

pub returns : goal.returns
returns c =
    let own = c.self.inside in
    let p = c.args.position in
    let key = c.args.key.now in
    let start = p * own.width in
    let size : start + own.width - start ≡ own.width = omega arith in
    let at = key_words own.width own.len p start own.overflow.items own.words.items c.if-position-self.false (λ z. start) in
    c.has_values.ensures
    ∙ (λ z. same_key key (map (word_value (c.as_slice.ensures.value z)) (take (size z) (drop start (c.deref.ensures.value z)))))
    ∙ ap (is_same key) (sym at ∙ ap (λ ks. slice_get ks p) c.self.view_is)
