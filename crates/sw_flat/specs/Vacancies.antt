-- What contracts say of the results of `entry`.
use Rattle.std.specs.Prelude.{◌≡◌, ℕ, List, None}
use Rattle.std.specs.FinMap.{get}
use Rattle.sw_table.specs.View.{View, entry_at, IsFull}
use Rattle.sw_table.specs.Entries.{entries}
use Rattle.sw_flat.specs.declared.entry.Entry.{Entry}
use Rattle.sw_flat.specs.declared.entry.Entry.TheVariants.{Occupied, Vacant}
use Rattle.sw_flat.specs.declared.entry.Vacancy.{Vacancy}

module _ {K V H : Type 0} where
  -- a vacancy: the class has no entry, and the hash is the class's
  pub record IsVacancy (class : K → List ℕ) (hash : List ℕ → ℕ) (m : View K V H) (c : List ℕ) (v : Vacancy) : Type 0 where
    pub absent : get (entries class m) c ≡ None
    pub hashed : v.hash ≡ hash c

  -- an occupied result is the slot of the class's entry
  abbrev pub IsOccupied : (class : K → List ℕ) (m : View K V H) (c : List ℕ) → Entry → Type 0
  IsOccupied class m c (Occupied s) = IsFull m s.index × (get (entries class m) c ≡ entry_at m s.index)
  IsOccupied class m c (Vacant v) = Unit {0}

  -- a vacant result is a vacancy of the class
  abbrev pub IsVacant : (class : K → List ℕ) (hash : List ℕ → ℕ) (m : View K V H) (c : List ℕ) → Entry → Type 0
  IsVacant class hash m c (Occupied s) = Unit {0}
  IsVacant class hash m c (Vacant v) = IsVacancy class hash m c v
