use Rattle.std.proofs.Common.{map, take}
use Rattle.csv.specs.Writing.{default_writer, row_body}
use Rattle.gq_reply.specs.Replies.{cell_text}
use Rattle.gq_reply.specs.Sending.{Passes}
use Rattle.gq_reply.proofs.records.push_cells.Given as goal

abbrev pub invariant-loop-column : goal.invariant-loop-column
invariant-loop-column g l = Passes (g.W.Write.contents l.fn.writer) (g.W.Write.contents l.writer) l.fn.buffer l.buffer (row_body default_writer (take l.column (map cell_text l.row)))
