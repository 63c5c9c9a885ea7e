-- Merging maps.
use Rattle.std.specs.Prelude.{◌≡◌, ℕ, ◌+◌, List}
use Rattle.std.specs.Option.{option_or}
use Rattle.std.specs.FinMap.{get, len}
use Rattle.sw_table.specs.View.{View}
use Rattle.sw_table.specs.Entries.{entries}
use Rattle.sw_flat.specs.Maps.{lacked, shared}

module _ {K V H : Type 0} (class : K → List ℕ) where
  -- the number of keys that two maps have together
  abbrev pub union_size : View K V H → View K V H → ℕ
  union_size m n = len (entries class m) + len (lacked (entries class m) (entries class n))

  -- `m'` is `m` with the entries of `n` whose classes `m` lacks, and `n'` has the others
  pub record MovesLacked (m n m' n' : View K V H) : Type 0 where
    pub union : (c : List ℕ) → get (entries class m') c ≡ option_or (get (entries class m) c) (get (entries class n) c)
    pub left : entries class n' ≡ shared (entries class m) (entries class n)

-- both maps keep their hashers
pub record KeepsHashers {K V H : Type 0} (m n m' n' : View K V H) : Type 0 where
  pub first : m'.hasher ≡ m.hasher
  pub second : n'.hasher ≡ n.hasher
