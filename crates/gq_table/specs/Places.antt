-- Where rows go among others: they replace the row with their key, or are appended.
use Rattle.std.specs.Prelude.{◌≡◌, ◌<◌, ℕ, Bool, false, true, not, List, [], length, map, filter, zip, slice_index_or, All}
use Rattle.std.specs.List.{AllZip}
use Rattle.sw_index.specs.declared.found.Found.{Found}
use Rattle.sw_index.specs.declared.found.Found.TheVariants.{At, Absent}
use Rattle.gq_row.specs.declared.value.Value.{Value}
use Rattle.gq_row.specs.Classes.{class_of}
use Rattle.gq_row.specs.Rows.{key_of}
use Rattle.gq_row.specs.Tables.{has_row}

module _ (key : List ℕ) (hash : List ℕ → ℕ) (rows : List (List Value)) where
  -- the result of a look-up of a row's key: the position of the row with that key; or no row has it, and the
  -- hash is the key's
  abbrev pub IsPlace : List Value → Found → Type 0
  IsPlace row (At number) = (number < length rows) × (key_of key (slice_index_or rows number []) ≡ key_of key row)
  IsPlace row (Absent absence) = (has_row key rows (key_of key row) ≡ false) × (absence.hash ≡ hash (class_of (key_of key row)))

  -- the results of look-ups of some rows' keys, one by one
  abbrev pub ArePlaces : List (List Value) → List Found → Type 0
  ArePlaces new places = AllZip IsPlace new places

-- a look-up found no row
abbrev pub is_absent : Found → Bool
is_absent (At number) = false
is_absent (Absent absence) = true

-- the rows whose keys are absent
abbrev pub without_place : List (List Value) → List Found → List (List Value)
without_place rows places = map (λ (placed : List Value × Found). placed.0) (filter (λ (placed : List Value × Found). is_absent placed.1) (zip rows places))

-- the rows whose keys were found
abbrev pub with_place : List (List Value) → List Found → List (List Value)
with_place rows places = map (λ (placed : List Value × Found). placed.0) (filter (λ (placed : List Value × Found). not (is_absent placed.1)) (zip rows places))

-- all rows of two lists have one length
abbrev pub AreEven : List (List Value) → List (List Value) → Type 0
AreEven rows more = (width : ℕ) × All (λ row. length row ≡ width) rows × All (λ row. length row ≡ width) more

-- each row is as long as before, and those whose keys were found are unchanged
abbrev pub AreStillThere : List (List Value) → List (List Value) → List Found → Type 0
AreStillThere now old places = (map length now ≡ map length old) × (with_place now places ≡ with_place old places)

module _ (key : List ℕ) (rows : List (List Value)) where
  -- if a row's key was found, the row at that position has it
  abbrev pub IsThere : List Value → Found → Type 0
  IsThere row (At number) = (number < length rows) × (key_of key (slice_index_or rows number []) ≡ key_of key row)
  IsThere row (Absent absence) = Unit {0}

  abbrev pub AreThere : List (List Value) → List Found → Type 0
  AreThere new places = AllZip IsThere new places
