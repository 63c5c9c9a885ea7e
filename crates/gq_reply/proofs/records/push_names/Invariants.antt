use Rattle.std.proofs.Common.{take}
use Rattle.csv.specs.Writing.{default_writer, row_body}
use Rattle.gq_reply.specs.Sending.{Passes}
use Rattle.gq_reply.proofs.records.push_names.Given as goal

abbrev pub invariant-loop-i : goal.invariant-loop-i
invariant-loop-i g l = Passes (g.W.Write.contents l.fn.writer) (g.W.Write.contents l.writer) l.fn.buffer l.buffer (row_body default_writer (take l.i l.names))
