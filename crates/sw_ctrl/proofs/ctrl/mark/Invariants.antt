use Rattle.std.proofs.Common.{length, ◌-◌, ◌≡◌, ◌%◌, ◌≤◌, ◌++◌, map, take, drop}
use Rattle.sw_ctrl.specs.Bytes.{marked}
use Rattle.sw_ctrl.proofs.ctrl.mark.Given as goal

abbrev pub invariant-loop-at : goal.invariant-loop-at
invariant-loop-at l = record {
  whole : l.at % 16 ≡ 0;
  within : l.at ≤ length l.fn.bytes;
  so_far : l.bytes ≡ map marked (take l.at l.fn.bytes) ++ drop l.at l.fn.bytes;
}

abbrev pub decreases-loop-at : goal.decreases-loop-at
decreases-loop-at l = length l.initial.bytes - l.at
