use Rattle.std.proofs.Common.{◌≤◌, ◌-◌, length, take}
use Rattle.gq_script.specs.Payloads.{GoesOn, HasLines}
use Rattle.gq_script.proofs.payload.escaped_lines_len.Given as goal

abbrev pub invariant-loop-len : goal.invariant-loop-len
invariant-loop-len l = record {
  within : l.len ≤ length l.bytes;
  lines : GoesOn (take l.len l.bytes);
  count : HasLines l.count (take l.len l.bytes);
  few : l.count ≤ l.len;
}

abbrev pub decreases-loop-len : goal.decreases-loop-len
decreases-loop-len l = length l.bytes - l.len
