-- The entries of a table, as a finite map.
use Rattle.std.specs.Prelude.{ℕ, List, [], ◌∷◌, Option, Some, None}
use Rattle.std.specs.Ordering.{nat_cmp}
use Rattle.std.specs.Cmp.Lexicographic.{slice_cmp}
use Rattle.std.specs.FinMap.{FinMap, empty, insert}
use Rattle.sw_table.specs.View.{View}

-- the finite maps from classes of keys to the stored key and its value
abbrev pub Entries : (K V : Type 0) → Type 0
Entries K V = FinMap (slice_cmp nat_cmp) (K × V)

module _ {K V : Type 0} where
  -- the entries in some slots
  abbrev pub entries_in : (K → List ℕ) → List (Option (K × V)) → Entries K V
  entries_in class [] = empty
  entries_in class (None ∷ ps) = entries_in class ps
  entries_in class (Some p ∷ ps) = insert (entries_in class ps) (class p.0) p

-- the entries of a table
abbrev pub entries : {K V H : Type 0} → (K → List ℕ) → View K V H → Entries K V
entries class t = entries_in class t.places
