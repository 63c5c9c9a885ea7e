-- When an insertion keeps the capacity, and what a failed one leaves.
use Rattle.std.specs.Prelude.{◌≡◌, ◌↔◌, ℕ, ◌^◌, ◌<◌, List, slice_index, Result, IsOk}
use Rattle.std.specs.FinMap.{len}
use Rattle.sw_ctrl.specs.declared.control.TheConstants.{DELETED}
use Rattle.sw_table.specs.declared.refused.Why.{Why}
use Rattle.sw_table.specs.declared.refused.Why.TheVariants.{Limit}
use Rattle.sw_table.specs.View.{View, slot_count}
use Rattle.sw_table.specs.Entries.{entries}
use Rattle.sw_table.specs.Sizes.{room_of, load_of}
use Rattle.sw_table.specs.LaidOut.{used_count}
use Rattle.sw_table.specs.Free.{IsFirstFree}

-- a key of this hash can be inserted without growth
pub data HasSpace {K V H : Type 0} (class : K → List ℕ) (t : View K V H) (hash : ℕ) : Type 0 where
  -- there are fewer entries than the room
  within_room : len (entries class t) < room_of (slot_count t) → HasSpace class t hash
  -- fewer bytes are full or deleted than the load
  within_load : used_count t.bytes < load_of (slot_count t) → HasSpace class t hash
  -- the first free slot on the probe sequence of the hash is a deleted one
  reuses : (i : ℕ) → IsFirstFree t.bytes hash i → slice_index t.bytes i ≡ DELETED → HasSpace class t hash

module _ {K V H : Type 0} where
  -- a call succeeded, and the number of slots is the same
  abbrev pub InPlace : {T E : Type 0} → Result T E → View K V H → View K V H → Type 0
  InPlace r old new = IsOk r × (slot_count new ≡ slot_count old)

  -- growth failed: the table is unchanged, and the reason is the limit exactly if the capacity is the largest
  pub record RefusesGrowth (old new : View K V H) (why : Why) : Type 0 where
    pub unchanged : new ≡ old
    pub limit : (why ≡ Limit) ↔ (slot_count old ≡ 2 ^ 28)
