use Rattle.std.proofs.Common.{◌+◌, ◌-◌, ◌*◌, length, map, drop, arith, ap, ◌∙◌, refl}
use Rattle.std.proofs.lemmas.List.{take_all, length-drop, length-map}
use Rattle.sw_probe.proofs.WordLemmas.{word_there, one_word_more, last_word, short_words}
use Rattle.sw_probe.proofs.words.fold_byte_words.Goals as goal

pub returns-then-len-lt8 : goal.returns-then-len-lt8
returns-then-len-lt8 g c =
    let bytes = c.args.bytes.now in let image = g.M.ByteMap.image c.args.of.now in
    c.step.ensures ∙ ap (λ a. g.F.WordStep.next c.args.f.now a c.number_of.result) c.step-acc.ensures ∙ short_words (g.F.WordStep.next c.args.f.now) c.args.start _ (length bytes) (map image bytes) (length-map bytes image) c.if-len-lt8.true c.number_of.ensures

pub loop-i-init : goal.loop-i-init
loop-i-init g c = (
  omega arith,
  c.step-acc-2.ensures ∙ (λ i. g.F.WordStep.next c.args.f.now (c.step-acc.ensures i) (word_there (g.M.ByteMap.image c.args.of.now) c.args.bytes.now c.args.bytes.now 0 _ c.first_word.ensures refl i)),
)

pub loop-i-preserved : goal.loop-i-preserved
loop-i-preserved g c =
    let bytes = c.args.bytes.now in let at = 8 * c.loop-i.i in let image = g.M.ByteMap.image c.args.of.now in (
      omega arith,
      c.step-acc-in-loop-i.ensures
          ∙ one_word_more (g.F.WordStep.next c.args.f.now) _ _ _ c.loop-i.i (c.loop-i.i + 1) (map image bytes) (omega arith) c.loop-i.invariant.1
          (word_there image bytes _ at _ c.first_word-in-loop-i.ensures (take_all _ (drop at bytes) (omega (arith, length-drop at bytes)))),
    )

pub returns : goal.returns
returns g c =
    let bytes = c.args.bytes.now in let last = length bytes - 8 in let image = g.M.ByteMap.image c.args.of.now in
    c.step-2.ensures
    ∙ last_word (g.F.WordStep.next c.args.f.now) c.args.start _ _ c.loop-i.i (length bytes) (map image bytes) (length-map bytes image) c.if-len-lt8.false (omega arith) c.loop-i.invariant.1
    (word_there image bytes _ last _ c.first_word-2.ensures (take_all _ (drop last bytes) (omega (arith, length-drop last bytes))))
