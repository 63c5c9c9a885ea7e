use Rattle.std.proofs.Common.{◌≡◌, ◌*◌, ◌+◌, ◌∙◌, ap, arith, drop, get_or, rules, sym}
use Rattle.std.proofs.Math.Nat.{mul_assoc}
use Rattle.std.proofs.lemmas.List.{drop_all}
use Rattle.gq_query.specs.Frames.{product}
use Rattle.gq_query.proofs.FrameLemmas.{frame_next, no_frame}
use Rattle.gq_query.proofs.frames.product.Goals as goal

pub loop-frame-preserved : goal.loop-frame-preserved
loop-frame-preserved c =
    let frames = c.args.frames.now in
    let i = c.loop-frame.frame-index in
    let frame = get_or frames i no_frame in
    let rest = drop (i + 1) frames in
    let times : c.in_ok-product.product ≡ c.loop-frame.product * frame.codes = search rules in
    ap (λ n. n * product rest) times ∙ mul_assoc c.loop-frame.product frame.codes (product rest) ∙ ap (λ l. c.loop-frame.product * product l) (sym (frame_next frames i c.loop-frame-test.true)) ∙ c.loop-frame.invariant

pub returns : goal.returns
returns c =
    let frames = c.args.frames.now in
    let once : c.loop-frame.product ≡ c.loop-frame.product * 1 = omega arith in
    once ∙ ap (λ l. c.loop-frame.product * product l) (sym (drop_all c.loop-frame.frame-index frames c.loop-frame-test.false)) ∙ c.loop-frame.invariant
