use Rattle.std.proofs.Common.{◌++◌, ◌/◌, ◌%◌, ◌∙◌, take, ap, arith, append_assoc}
use Rattle.std.specs.Fmt.{decimal}
use Rattle.gq_reply.proofs.DigitLemmas.{pair, four_more}
use Rattle.gq_reply.proofs.digits.write_eight.Goals as goal

pub returns-clause-written : goal.returns-clause-written
returns-clause-written c =
    let n = c.args.n in
    let before = take c.args.at c.args.buffer.now in
    let high = decimal (n / 10000) in
    let middle = pair (n % 10000 / 100) in
    let last = pair (n % 10000 % 100) in
    c.write_pair.ensures.written ∙ ap (λ l. l ++ last) (c.write_pair-next.ensures.written ∙ ap (λ l. l ++ middle) c.write_front-next.ensures.written ∙ append_assoc before high middle)
    ∙ append_assoc before (high ++ middle) last ∙ ap (λ l. before ++ l) (four_more n c.requires.low (omega arith))
