use Rattle.std.proofs.Common.{◌/◌, ◌%◌, ◌+◌, arith}
use Rattle.gq_reply.proofs.DigitLemmas.{pair_at, two_written}
use Rattle.gq_reply.proofs.digits.write_pair.Goals as goal

pub returns-clause-written : goal.returns-clause-written
returns-clause-written c =
    let digits = pair_at c.args.n c.requires.low in
    let n = c.args.n in
    rw (digits.0, digits.1) (two_written c.args.buffer.now c.args.at (48 + n / 10) (48 + n % 10) (omega (arith, c.requires.fits)))
