use Rattle.std.proofs.Common.{take}
use Rattle.csv.specs.Writing.{default_writer, escaped}
use Rattle.gq_reply.specs.Sending.{Passes}
use Rattle.gq_reply.proofs.buffer.Buffer.push_escaped.Given as goal

abbrev pub invariant-loop-byte : goal.invariant-loop-byte
invariant-loop-byte g l = Passes (g.W.Write.contents l.fn.writer) (g.W.Write.contents l.writer) l.fn.self l.self (escaped default_writer (take l.byte-index l.field))
