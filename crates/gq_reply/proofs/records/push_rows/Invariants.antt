use Rattle.std.proofs.Common.{◌≤◌, ◌-◌, length, take, drop}
use Rattle.gq_reply.specs.Bare.{records}
use Rattle.gq_reply.specs.Sending.{Passes}
use Rattle.gq_reply.proofs.records.push_rows.Given as goal

abbrev pub invariant-loop-at : goal.invariant-loop-at
invariant-loop-at g l = record {
  low : l.from ≤ l.at;
  high : l.at ≤ length l.rows;
  written : Passes (g.W.Write.contents l.fn.writer) (g.W.Write.contents l.writer) l.fn.buffer l.buffer (records (drop l.from (take l.at l.rows)));
}

abbrev pub decreases-loop-at : goal.decreases-loop-at
decreases-loop-at g l = length l.rows - l.at
