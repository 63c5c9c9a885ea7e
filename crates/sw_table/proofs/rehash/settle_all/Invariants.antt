use Rattle.std.proofs.Common.{◌≡◌, ◌≢◌, ℕ, ◌<◌, length, slice_index}
use Rattle.sw_ctrl.specs.declared.control.TheConstants.{DELETED}
use Rattle.sw_table.specs.Entries.{entries_in}
use Rattle.sw_table.specs.Settling.{IsSettling, deleted_count}
use Rattle.sw_table.specs.LaidOut.{used_count, full_count}
use Rattle.sw_table.proofs.rehash.settle_all.Given as goal

abbrev pub invariant-loop-i : goal.invariant-loop-i
invariant-loop-i g l = record {
  settling : IsSettling g.K.Keyed.class (g.H.KeyHash.hash_of l.hasher) l.slots l.ctrl;
  entries : entries_in g.K.Keyed.class l.slots ≡ entries_in g.K.Keyed.class l.fn.slots;
  size : length l.ctrl ≡ length l.fn.ctrl;
  used : used_count l.ctrl ≡ full_count l.fn.ctrl;
  done : (k : ℕ) → k < l.i → slice_index l.ctrl k ≢ DELETED;
}

abbrev pub invariant-slot : goal.invariant-slot
invariant-slot g l = record {
  settling : IsSettling g.K.Keyed.class (g.H.KeyHash.hash_of l.hasher) l.slots l.ctrl;
  entries : entries_in g.K.Keyed.class l.slots ≡ entries_in g.K.Keyed.class l.fn.slots;
  size : length l.ctrl ≡ length l.fn.ctrl;
  used : used_count l.ctrl ≡ full_count l.fn.ctrl;
  done : (k : ℕ) → k < l.i → slice_index l.ctrl k ≢ DELETED;
}

abbrev pub decreases-slot : goal.decreases-slot
decreases-slot g l = deleted_count l.ctrl
