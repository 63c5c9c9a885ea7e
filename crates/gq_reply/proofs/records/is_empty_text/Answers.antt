use Rattle.std.proofs.Common.{sym, arith}
use Rattle.gq_reply.proofs.BareLemmas.{number_shown}
use Rattle.gq_reply.proofs.records.is_empty_text.Goals as goal

pub returns-in-Int : goal.returns-in-Int
returns-in-Int c = rw c.in-Int.is (sym (number_shown c.in-Int.n (omega arith)))
