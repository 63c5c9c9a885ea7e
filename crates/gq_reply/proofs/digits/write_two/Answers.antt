use Rattle.std.proofs.Common.{◌+◌, ◌++◌, ◌∙◌, take, ap, refl, arith}
use Rattle.std.proofs.lemmas.Grind.{take-set_at}
use Rattle.gq_reply.proofs.DigitLemmas.{one_digit, two_digits}
use Rattle.gq_reply.proofs.digits.write_two.Goals as goal

pub returns-then-n-lt10-clause-written : goal.returns-then-n-lt10-clause-written
returns-then-n-lt10-clause-written c =
    let before = c.args.buffer.now in
    take-set_at before c.args.at (c.args.at + 1) (48 + c.args.n) refl (omega (arith, c.requires.fits)) ∙ ap (λ l. take c.args.at before ++ l) (one_digit c.args.n c.if-n-lt10.true)

pub returns-clause-written : goal.returns-clause-written
returns-clause-written c =
    c.write_pair.ensures.written ∙ ap (λ l. take c.args.at c.args.buffer.now ++ l) (two_digits c.args.n c.if-n-lt10.false c.requires.low)
