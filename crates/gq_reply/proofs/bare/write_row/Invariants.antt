use Rattle.std.proofs.Common.{◌≡◌, ◌≤◌, ◌+◌, ◌==◌, ◌++◌, ℕ, false, length, drop, take}
use Rattle.csv.specs.Writing.{default_writer, field_text}
use Rattle.gq_row.specs.Rows.{cell}
use Rattle.gq_reply.specs.declared.buffer.TheConstants.{CAPACITY}
use Rattle.gq_reply.specs.Replies.{cell_text}
use Rattle.gq_reply.proofs.BareLemmas.{fields_ended}
use Rattle.gq_reply.proofs.bare.write_row.Given as goal

abbrev pub invariant-loop-column : goal.invariant-loop-column
invariant-loop-column l = record {
  low : l.at + l.column ≤ l.next;
  high : l.next ≤ CAPACITY;
  kept : take l.at l.buffer ≡ take l.at l.fn.buffer;
  written : take l.next l.buffer ++ fields_ended (drop l.column l.row) ≡ take l.at l.fn.buffer ++ fields_ended l.row;
  shown : (i : ℕ) → l.column ≡ i + 1 → (length (field_text default_writer (cell_text (cell l.row i))) == 0) ≡ false;
}
