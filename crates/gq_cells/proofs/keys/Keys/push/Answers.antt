use Rattle.std.proofs.Common.{arith, ◌≡◌, ◌+◌, ◌*◌, ◌∙◌, ◌++◌, ◌∷◌, [], length, map, sym, ap, length-append, rules}
use Rattle.std.proofs.lemmas.List.{length-map}
use Rattle.gq_cells.specs.Keys.{keys_in}
use Rattle.gq_cells.specs.Words.{word_value}
use Rattle.gq_cells.proofs.KeyLemmas.{keys_push, no_cells, no_width}
use Rattle.gq_cells.proofs.keys.Keys.push.Goals.{then-self-eq0, else-self-eq0}
use Rattle.gq_cells.proofs.keys.Keys.push.Goals as goal

pub invariant_of-self-2 : goal.invariant_of-self-2
invariant_of-self-2 c =
    let own = c.self.inside in
    let width = c.if-self-eq0.width in
    let next : c.in-Some.len ≡ own.len + 1 = search rules in
    let long : length c.args.key.now ≡ width = sym c.len.ensures ∙ c.if-len-width.true in
    let cells = map (word_value own.overflow.items) own.words.items in
    let more =
    sym (length-map c.push_values.new.words.items (word_value c.push_values.new.overflow.items))
    ∙ ap length c.in-Ok.ensures.pushed
    ∙ length-append cells c.args.key.now
    ∙ ap (λ n. n + length c.args.key.now) (length-map own.words.items (word_value own.overflow.items)) in
    let before : own.len * own.width ≡ own.len * width =
    elim c.if-self-eq0.branch [ then-self-eq0 w ↦ no_cells own.width width own.len w.if-self-eq0.true | else-self-eq0 w ↦ ap (λ n. own.len * n) (sym w.width-is) ] in
    let wide : (own.len + 1) * width ≡ own.len * width + width = omega arith in
    let all : c.in-Some.len * width ≡ (own.len + 1) * width = ap (λ n. n * width) next in
    record {
      ordered = c.in-Ok.ensures.ordered;
      whole = omega (arith, more, long, before, wide, all, c.self.invariant.whole);
    }

pub returns-clause-pushed : goal.returns-clause-pushed
returns-clause-pushed c =
    let own = c.self.inside in
    let width = c.if-self-eq0.width in
    let next : c.in-Some.len ≡ own.len + 1 = search rules in
    let long : length c.args.key.now ≡ width = sym c.len.ensures ∙ c.if-len-width.true in
    let cells = map (word_value own.overflow.items) own.words.items in
    let all : length cells ≡ own.len * own.width = length-map own.words.items (word_value own.overflow.items) ∙ c.self.invariant.whole in
    let before : own.len * own.width ≡ own.len * width =
    elim c.if-self-eq0.branch [ then-self-eq0 w ↦ no_cells own.width width own.len w.if-self-eq0.true | else-self-eq0 w ↦ ap (λ n. own.len * n) (sym w.width-is) ] in
    let same : keys_in width own.len cells ≡ keys_in own.width own.len cells =
    elim c.if-self-eq0.branch [ then-self-eq0 w ↦ no_width width own.width own.len cells w.if-self-eq0.true | else-self-eq0 w ↦ ap (λ n. keys_in n own.len cells) w.width-is ] in
    ap (keys_in width c.in-Some.len) c.in-Ok.ensures.pushed
    ∙ keys_push width own.len c.in-Some.len cells c.args.key.now next (all ∙ before) long
    ∙ ap (λ l. l ++ c.args.key.now ∷ []) (same ∙ c.self.view_is)
