use Rattle.std.proofs.Common.{◌∙◌, length, sym, arith}
use Rattle.gq_infer.proofs.WordLemmas.{cut_by_parity, first_cut}
use Rattle.gq_infer.proofs.word.cut_of.Goals as goal

pub returns-then-cuts-clause-place : goal.returns-then-cuts-clause-place
returns-then-cuts-clause-place c =
    first_cut c.args.word.now c.loop-i.i (omega (arith, c.loop-i-test.true)) c.loop-i.invariant.before
    (λ _. cut_by_parity c.args.word.now c.loop-i.i c.loop-i.is_quoted c.loop-i.invariant.parity ∙ sym c.cuts.ensures ∙ c.if-cuts.true)

pub returns-clause-place : goal.returns-clause-place
returns-clause-place c =
    first_cut c.args.word.now (length c.args.word.now) (omega arith)
    (λ k h. c.loop-i.invariant.before k (omega (arith, h, c.loop-i-test.false)))
    (λ h. absurd (omega (arith, h)))
