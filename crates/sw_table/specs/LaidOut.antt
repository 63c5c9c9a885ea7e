-- The layout of slots and bytes.
use Rattle.std.specs.Prelude.{◌≡◌, ◌≢◌, ℕ, ◌+◌, ◌*◌, ◌/◌, ◌<◌, ◌≤◌, List, length, slice_index, count_by, not, Option, Some, None, IsSome}
use Rattle.sw_ctrl.specs.declared.control.TheConstants.{EMPTY}
use Rattle.sw_ctrl.specs.Bytes.{IsControl, is_empty, is_full}
use Rattle.sw_probe.specs.Order.{group_number, h1_of, h2_of}
use Rattle.sw_slots.specs.Place.{place}
use Rattle.sw_table.specs.Sizes.{IsCapacity, load_of}

-- the number of full bytes
abbrev pub full_count : List ℕ → ℕ
full_count bs = count_by is_full bs

-- the number of full or deleted bytes
abbrev pub used_count : List ℕ → ℕ
used_count bs = count_by (λ b. not (is_empty b)) bs

-- group `g` has no empty byte
abbrev pub NoEmpty : List ℕ → ℕ → Type 0
NoEmpty bs g = (l : ℕ) → l < 16 → slice_index bs (16 * g + l) ≢ EMPTY

-- a probe of `groups` groups visits that of slot `i`, and before it only groups without an empty byte
abbrev pub ReachedIn : ℕ → List ℕ → ℕ → ℕ → Type 0
ReachedIn groups bs hash i =
    (j : ℕ) × (j < groups) × (i / 16 ≡ group_number (h1_of hash) groups j) ×
    ((m : ℕ) → m < j → NoEmpty bs (group_number (h1_of hash) groups m))

-- a look-up of the hash reaches slot `i` before it stops
abbrev pub Reached : List ℕ → ℕ → ℕ → Type 0
Reached bs hash i = ReachedIn (length bs / 16) bs hash i

module _ {K V : Type 0} where
  -- the layout of a table, by its slots, its control bytes and the hash of each class
  pub record IsLaidOut (class : K → List ℕ) (hash : List ℕ → ℕ) (ps : List (Option (K × V))) (bs : List ℕ) : Type 0 where
    -- there are as many slots as bytes, which is a capacity
    pub size : (length ps ≡ length bs) × IsCapacity (length bs)
    -- each byte is full, empty or deleted
    pub control : (i : ℕ) → i < length bs → IsControl (slice_index bs i)
    -- a slot with a full byte has an entry
    pub full : (i : ℕ) → i < length bs → slice_index bs i < 128 → IsSome (place ps i)
    -- any other slot has none
    pub vacant : (i : ℕ) → 128 ≤ slice_index bs i → place ps i ≡ None
    -- the byte of an entry is the seven low bits of its key's hash
    pub h2 : (i : ℕ) (p : K × V) → place ps i ≡ Some p → slice_index bs i ≡ h2_of (hash (class p.0))
    -- look-ups reach each entry
    pub chain : (i : ℕ) (p : K × V) → place ps i ≡ Some p → Reached bs (hash (class p.0)) i
    -- no two entries have keys of one class
    pub apart : (i j : ℕ) (p q : K × V) → place ps i ≡ Some p → place ps j ≡ Some q → class p.0 ≡ class q.0 → i ≡ j
    -- at most fourteen in sixteen bytes are full or deleted
    pub load : used_count bs ≤ load_of (length bs)

  -- a layout, with its numbers of full bytes, and of full or deleted ones
  pub record IsTable (class : K → List ℕ) (hash : List ℕ → ℕ) (ps : List (Option (K × V))) (bs : List ℕ) (len used : ℕ) : Type 0 where
    pub laid : IsLaidOut class hash ps bs
    pub full_is : len ≡ full_count bs
    pub used_is : used ≡ used_count bs
