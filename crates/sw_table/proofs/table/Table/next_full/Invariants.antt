use Rattle.std.proofs.Common.{◌≡◌, ℕ, ◌+◌, ◌-◌, ◌*◌, ◌<◌, ◌≤◌, None, get_or}
use Rattle.sw_table.proofs.table.Table.next_full.Given as goal

abbrev pub invariant-loop-at : goal.invariant-loop-at
invariant-loop-at g l = record {
  lane : l.passed < 16;
  forward : l.from ≤ 16 * l.at + l.passed;
  passed : (k : ℕ) → l.from ≤ k → k < 16 * l.at + l.passed → get_or l.self-inside.slots k None ≡ None;
}

abbrev pub decreases-loop-at : goal.decreases-loop-at
decreases-loop-at g l = l.groups - l.at
