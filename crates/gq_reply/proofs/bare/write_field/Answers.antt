use Rattle.std.proofs.Common.{rules, arith}
use Rattle.gq_reply.proofs.BareLemmas.{number_is_plain}
use Rattle.gq_reply.proofs.bare.write_field.Goals as goal

pub returns-in-Int-clause-plain : goal.returns-in-Int-clause-plain
returns-in-Int-clause-plain c = search (rules, number_is_plain c.in-Int.n (omega arith))
