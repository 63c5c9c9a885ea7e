use Rattle.std.proofs.Common.{◌≡◌, ℕ, ◌<◌, length, slice_index}
use Rattle.sw_ctrl.specs.declared.control.TheConstants.{EMPTY}
use Rattle.sw_table.proofs.drops.blank.Given as goal

abbrev pub invariant-loop-i : goal.invariant-loop-i
invariant-loop-i l = record {
  size : length l.ctrl ≡ length l.fn.ctrl;
  done_with : (k : ℕ) → k < l.i → slice_index l.ctrl k ≡ EMPTY;
}
