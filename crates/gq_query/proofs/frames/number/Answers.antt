use Rattle.std.proofs.Common.{◌∙◌, ◌+◌, ap, drop, refl, subst, sym}
use Rattle.std.specs.Prelude.{◌^◌, ◌-◌, min}
use Rattle.std.proofs.lemmas.List.{drop_all}
use Rattle.gq_query.specs.GroupSpans.{key_at}
use Rattle.gq_query.specs.Frames.{IsNumber}
use Rattle.gq_query.proofs.FrameLemmas.{frame_next}
use Rattle.gq_query.proofs.frames.number.Goals as goal

pub loop-frame-preserved : goal.loop-frame-preserved
loop-frame-preserved c = λ number more.
    let frames = c.args.frames.now in
    let i = c.loop-frame.frame-index in
    let key = key_at c.args.cells.now c.args.group.now in
    let code = c.saturating_add.ensures ∙ ap (λ n. min (n + c.digit-digit.result.code) (2 ^ 64 - 1)) c.saturating_mul.ensures in
    c.loop-frame.invariant number
    (subst (λ l. IsNumber l key c.loop-frame.sum number) (sym (frame_next frames i c.loop-frame-test.true))
    (c.digit-digit.result, c.digit-digit.ensures, subst (λ n. IsNumber (drop (i + 1) frames) key (record { code = n; exact = c.digit-digit.result.exact }) number) code more))

pub returns : goal.returns
returns c =
    let frames = c.args.frames.now in
    let key = key_at c.args.cells.now c.args.group.now in
    c.loop-frame.invariant c.loop-frame.sum
    (subst (λ l. IsNumber l key c.loop-frame.sum c.loop-frame.sum) (sym (drop_all c.loop-frame.frame-index frames c.loop-frame-test.false)) refl)
