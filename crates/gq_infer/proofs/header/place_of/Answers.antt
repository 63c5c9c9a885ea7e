use Rattle.std.proofs.Common.{◌∙◌, bytes_eq, sym, ap, arith}
use Rattle.gq_infer.proofs.HeaderLemmas.{first_place}
use Rattle.gq_infer.proofs.header.place_of.Goals as goal

pub returns-then-eq : goal.returns-then-eq
returns-then-eq c =
    let name = c.args.name.now in
    first_place c.args.header.now name c.loop-i.i (omega (arith, c.loop-i-test.true, c.len-i-end.ensures)) c.loop-i.invariant
    (λ _. ap (λ f. bytes_eq f name) (sym c.field_of.ensures) ∙ ap (bytes_eq c.field_of.result.now) (sym (c.as_bytes.ensures.value ∙ c.as_str.ensures)) ∙ sym c.eq.ensures ∙ c.if-eq.true)

pub returns : goal.returns
returns c =
    first_place c.args.header.now c.args.name.now c.len.result (omega (arith, c.len.ensures))
    (λ k h. c.loop-i.invariant k (omega (arith, h, c.len.ensures, c.len-i-end.ensures, c.loop-i-test.false)))
    (λ h. absurd (omega (arith, h, c.len.ensures)))
