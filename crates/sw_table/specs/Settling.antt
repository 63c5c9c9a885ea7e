-- A rehash in place, in progress.
use Rattle.std.specs.Prelude.{◌≡◌, ◌≢◌, ℕ, ◌<◌, ◌≤◌, false, List, length, slice_index, count_by, Option, Some, None, IsSome}
use Rattle.sw_ctrl.specs.declared.control.TheConstants.{EMPTY}
use Rattle.sw_ctrl.specs.Bytes.{IsControl, is_deleted, is_free}
use Rattle.sw_probe.specs.Order.{h2_of}
use Rattle.sw_slots.specs.Place.{place}
use Rattle.sw_table.specs.Sizes.{IsCapacity, load_of}
use Rattle.sw_table.specs.LaidOut.{used_count}
use Rattle.sw_table.specs.Free.{First}

module _ {K V : Type 0} where
  -- the layout during a rehash, in which a deleted byte marks an entry that is still to be placed
  pub record IsSettling (class : K → List ℕ) (hash : List ℕ → ℕ) (ps : List (Option (K × V))) (bs : List ℕ) : Type 0 where
    pub size : (length ps ≡ length bs) × IsCapacity (length bs)
    pub control : (i : ℕ) → i < length bs → IsControl (slice_index bs i)
    pub filled : (i : ℕ) → i < length bs → slice_index bs i ≢ EMPTY → IsSome (place ps i)
    pub vacant : (i : ℕ) → slice_index bs i ≡ EMPTY → place ps i ≡ None
    pub settled : (i : ℕ) (p : K × V) → place ps i ≡ Some p → is_free (slice_index bs i) ≡ false → (slice_index bs i ≡ h2_of (hash (class p.0))) × First bs (hash (class p.0)) i
    pub apart : (i j : ℕ) (p q : K × V) → place ps i ≡ Some p → place ps j ≡ Some q → class p.0 ≡ class q.0 → i ≡ j
    pub load : used_count bs ≤ load_of (length bs)

-- the number of entries that are still to be placed
abbrev pub deleted_count : List ℕ → ℕ
deleted_count bs = count_by is_deleted bs
