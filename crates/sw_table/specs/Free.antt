-- Where an entry may be inserted.
use Rattle.std.specs.Prelude.{◌≡◌, ℕ, ◌+◌, ◌*◌, ◌/◌, ◌<◌, ◌≤◌, if◌then◌else◌, true, false, List, length, slice_index}
use Rattle.sw_ctrl.specs.declared.control.TheConstants.{EMPTY}
use Rattle.sw_ctrl.specs.Bytes.{is_empty, is_free}
use Rattle.sw_probe.specs.Order.{group_number, h1_of}
use Rattle.sw_table.specs.Sizes.{load_of}
use Rattle.sw_table.specs.LaidOut.{Reached, used_count}

-- slot `i` is free, and a look-up of the hash reaches it
abbrev pub IsFree : List ℕ → ℕ → ℕ → Type 0
IsFree bs hash i = (i < length bs) × (128 ≤ slice_index bs i) × Reached bs hash i

-- how many bytes are full or deleted once a slot with this byte is filled
abbrev pub used_then : ℕ → ℕ → ℕ
used_then used byte = if is_empty byte then used + 1 else used

-- filling slot `i` doesn't pass the load
abbrev pub KeepsLoad : List ℕ → ℕ → Type 0
KeepsLoad bs i = used_then (used_count bs) (slice_index bs i) ≤ load_of (length bs)

-- group `g` has no free slot
abbrev pub NoFree : List ℕ → ℕ → Type 0
NoFree bs g = (l : ℕ) → l < 16 → is_free (slice_index bs (16 * g + l)) ≡ false

-- a probe of `groups` groups visits that of slot `i`, and before it only groups without a free slot
abbrev pub FirstIn : ℕ → List ℕ → ℕ → ℕ → Type 0
FirstIn groups bs hash i =
    (j : ℕ) × (j < groups) × (i / 16 ≡ group_number (h1_of hash) groups j) ×
    ((m : ℕ) → m < j → NoFree bs (group_number (h1_of hash) groups m))

-- no group before that of slot `i` on the probe sequence of the hash has a free slot
abbrev pub First : List ℕ → ℕ → ℕ → Type 0
First bs hash i = FirstIn (length bs / 16) bs hash i

-- slot `i` is the first free one on the probe sequence of the hash
pub record IsFirstFree (bs : List ℕ) (hash i : ℕ) : Type 0 where
  pub within : i < length bs
  pub free : is_free (slice_index bs i) ≡ true
  -- no group before its own has a free slot
  pub group : First bs hash i
  -- nor is there one before it in its own group
  pub lane : (k : ℕ) → k / 16 ≡ i / 16 → k < i → is_free (slice_index bs k) ≡ false

-- the load is reached, and the first free slot on the probe sequence of the hash is empty
pub record IsAtLoad (bs : List ℕ) (hash : ℕ) : Type 0 where
  pub load : used_count bs ≡ load_of (length bs)
  pub empty : (i : ℕ) → IsFirstFree bs hash i → slice_index bs i ≡ EMPTY
