use Rattle.std.proofs.Common.{◌≡◌, ℕ, ◌-◌, ◌*◌, ◌<◌, ◌≤◌, ◌^◌}
use Rattle.sw_table.specs.Sizes.{IsCapacity, room_of}
use Rattle.sw_table.proofs.sizes.capacity_for.Given as goal

abbrev pub invariant-loop-n : goal.invariant-loop-n
invariant-loop-n l = record {
  size : (k : ℕ) × (k ≤ 24) × (l.capacity ≡ 16 * 2 ^ k);
  least : (d : ℕ) → IsCapacity d → d < l.capacity → room_of d < l.n;
  some : 0 < l.n;
}

abbrev pub decreases-loop-n : goal.decreases-loop-n
decreases-loop-n l = 2 ^ 28 - l.capacity
