use Rattle.std.proofs.Common.{take, drop}
use Rattle.gq_reply.specs.Bare.{records}
use Rattle.gq_reply.specs.Sending.{Passes}
use Rattle.gq_reply.proofs.records.push_block.Given as goal

abbrev pub invariant-loop-i : goal.invariant-loop-i
invariant-loop-i g l = Passes (g.W.Write.contents l.fn.writer) (g.W.Write.contents l.writer) l.fn.buffer l.buffer (records (drop l.start (take l.i l.rows)))
