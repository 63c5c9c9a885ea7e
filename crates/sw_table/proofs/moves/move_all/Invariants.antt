use Rattle.std.proofs.Common.{◌≡◌, ℕ, ◌<◌, ◌≤◌, length, get_or, slice_index, take, None}
use Rattle.sw_ctrl.specs.declared.control.TheConstants.{EMPTY}
use Rattle.sw_table.specs.LaidOut.{IsTable, full_count}
use Rattle.sw_table.proofs.MovedEntries.{Moved}
use Rattle.sw_table.proofs.moves.move_all.Given as goal

abbrev pub invariant-loop-i : goal.invariant-loop-i
invariant-loop-i g l = record {
  len : length l.from ≡ length l.bytes;
  kept : (k : ℕ) → l.i ≤ k → get_or l.from k None ≡ get_or l.fn.from k None;
  left : (k : ℕ) → k < l.i → get_or l.from k None ≡ None;
  size : length l.ctrl ≡ length l.fn.ctrl;
  table : IsTable g.K.Keyed.class (g.H.KeyHash.hash_of l.hasher) l.to l.ctrl (full_count (take l.i l.bytes)) (full_count (take l.i l.bytes));
  fresh : (k : ℕ) → k < length l.ctrl → 128 ≤ slice_index l.ctrl k → slice_index l.ctrl k ≡ EMPTY;
  moved : Moved g.K.Keyed.class l.fn.from l.i l.to;
}
