-- Which rows a map of groups has taken, and which of them are left.
use Rattle.std.specs.Prelude.{◌≡◌, ◌≤◌, ◌<◌, ℕ, Bool, not, List, [], ◌∷◌, ◌++◌, length, filter}
use Rattle.std.specs.FinMap.{contains_key, len}
use Rattle.gq_row.specs.declared.value.Value.{Value}
use Rattle.gq_row.specs.Classes.{class_of}
use Rattle.gq_row.specs.Rows.{key_of}
use Rattle.gq_group.specs.Entries.{Pair, Grouped, listed}
use Rattle.gq_group.specs.Groups.{Spec}
use Rattle.gq_group.specs.declared.resident_table.Offered.{Offered}
use Rattle.gq_group.specs.declared.resident_table.Offered.TheVariants.{Taken, Left}

-- whether the map has the group of a key
abbrev pub has_entry : List Pair → List Value → Bool
has_entry m key = contains_key (listed m) (class_of key)

-- the rows whose keys have their groups in the map
abbrev pub taken : Spec → List Pair → List (List Value) → List (List Value)
taken spec m rows = filter (λ row. has_entry m (key_of spec.by row)) rows

-- the other rows
abbrev pub left_over : Spec → List Pair → List (List Value) → List (List Value)
left_over spec m rows = filter (λ row. not (has_entry m (key_of spec.by row))) rows

-- The map has the groups of all rows of its keys: at most the budget's number, and that many if a row is left.
pub record Resident (spec : Spec) (budget : ℕ) (rows : List (List Value)) (m : List Pair) : Type 0 where
  pub grouped : Grouped spec (taken spec m rows) m
  pub within : len (listed m) ≤ budget
  pub full : 0 < length (left_over spec m rows) → len (listed m) ≡ budget

-- what is left of a row that was offered
abbrev pub left_row : Offered → List Value → List (List Value)
left_row Taken row = []
left_row (Left hash) row = row ∷ []

-- One row more was offered: it is in its group, or it is one more that is left.
pub record Offers (spec : Spec) (budget : ℕ) (rows : List (List Value)) (row : List Value) (old new : List Pair) (answer : Offered) : Type 0 where
  pub resident : Resident spec budget (rows ++ row ∷ []) new
  pub left : left_over spec new (rows ++ row ∷ []) ≡ left_over spec old rows ++ left_row answer row

-- a row that is left comes with this hash
abbrev pub HasHash : ℕ → Offered → Type 0
HasHash hash Taken = Unit {0}
HasHash hash (Left told) = told ≡ hash
