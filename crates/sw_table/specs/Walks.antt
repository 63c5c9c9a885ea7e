-- Walks over the full slots.
use Rattle.std.specs.Prelude.{◌≡◌, ℕ, ◌+◌, ◌-◌, ◌%◌, ◌<◌, ◌≤◌, true, false, List, [], ◌∷◌, length, slice_index, slice_index_or, Option, Some, None}
use Rattle.sw_table.specs.declared.walk.Walk.{Walk}
use Rattle.sw_table.specs.View.{View, entry_at}

-- the values in the full slots, in order
abbrev pub filled : {X : Type 0} → List (Option X) → List X
filled [] = []
filled (None ∷ s) = filled s
filled (Some x ∷ s) = x ∷ filled s

-- a walk is before slot `from` of these bytes, and its mask has the full ones from there on up to the group
-- that is read next
pub record IsWalking (bs : List ℕ) (w : Walk) : Type 0 where
  pub group : (w.next % 16 ≡ 0) × (w.next ≤ length bs)
  pub lanes : length w.rest ≡ 16
  pub passed : w.from ≤ w.next
  pub set : (l : ℕ) → slice_index_or w.rest l false ≡ true → (16 ≤ w.next) × (w.from + 16 ≤ w.next + l) × (slice_index bs (w.next - 16 + l) < 128)
  pub all : (i : ℕ) → w.from ≤ i → i < w.next → slice_index bs i < 128 → (w.next ≤ i + 16) × (slice_index_or w.rest (i + 16 - w.next) false ≡ true)

-- all entries before the walk are removed
pub record IsDraining {K V H : Type 0} (t : View K V H) (w : Walk) : Type 0 where
  pub walking : IsWalking t.bytes w
  pub taken : (i : ℕ) → i < w.from → entry_at t i ≡ None
