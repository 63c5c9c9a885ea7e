use Rattle.std.proofs.Common.{◌≡◌, ◌≤◌, ◌+◌, ◌-◌, length, drop, eqb, count_by}
use Rattle.gq_row.proofs.lines.line_ends.Given as goal

abbrev pub invariant-loop-at : goal.invariant-loop-at
invariant-loop-at l = record {
  within : l.at ≤ length l.bytes;
  few : l.count ≤ l.at;
  total : l.count + count_by (λ byte. eqb byte 10) (drop l.at l.bytes) ≡ count_by (λ byte. eqb byte 10) l.bytes;
}

abbrev pub decreases-loop-at : goal.decreases-loop-at
decreases-loop-at l = length l.bytes - l.at
