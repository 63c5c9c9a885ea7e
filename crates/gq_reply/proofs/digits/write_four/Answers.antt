use Rattle.std.proofs.Common.{◌++◌, ◌/◌, ◌%◌, ◌∙◌, take, ap, arith, append_assoc}
use Rattle.std.specs.Fmt.{decimal}
use Rattle.gq_reply.proofs.DigitLemmas.{pair, two_more}
use Rattle.gq_reply.proofs.digits.write_four.Goals as goal

pub returns-clause-written : goal.returns-clause-written
returns-clause-written c =
    let n = c.args.n in
    let before = take c.args.at c.args.buffer.now in
    c.write_pair.ensures.written ∙ ap (λ l. l ++ pair (n % 100)) c.write_two-next.ensures.written
    ∙ append_assoc before (decimal (n / 100)) (pair (n % 100)) ∙ ap (λ l. before ++ l) (two_more n c.requires.low (omega arith))
