-- Fields that are written over bytes.
use Rattle.std.specs.Prelude.{◌≡◌, ◌≤◌, ℕ, List, ◌++◌, length, take}

-- a field was written at a position: it ends at `end`, and the bytes before it are unchanged
pub record IsPut (old : List ℕ) (at : ℕ) (field new : List ℕ) (end : ℕ) : Type 0 where
  pub within : end ≤ length new
  pub bytes : take end new ≡ take at old ++ field
