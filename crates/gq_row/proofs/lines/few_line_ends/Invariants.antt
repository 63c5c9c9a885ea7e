use Rattle.std.proofs.Common.{◌≡◌, ◌≤◌, take, eqb, count_by}
use Rattle.gq_row.proofs.lines.few_line_ends.Given as goal

abbrev pub invariant-loop-byte : goal.invariant-loop-byte
invariant-loop-byte l = record {
  few : l.count ≤ l.byte-index;
  total : l.count ≡ count_by (λ byte. eqb byte 10) (take l.byte-index l.bytes);
}
