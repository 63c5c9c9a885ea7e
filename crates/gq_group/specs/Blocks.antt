-- Rows that are read ahead of their places.
use Rattle.std.specs.Prelude.{◌≡◌, ◌+◌, ◌≤◌, ◌++◌, ℕ, Bool, false, IsTrue, List, [], length, map, take, drop, Option, Some, None, Result, IfOk, OnOk, IfErr}
use Rattle.std.specs.List.{AllByRecursion, slice_get}
use Rattle.std.specs.Option.{option_map}
use Rattle.gq_row.specs.declared.value.Value.{Value}
use Rattle.gq_row.specs.Classes.{class_of}
use Rattle.gq_row.specs.Rows.{key_of}
use Rattle.gq_spill.specs.Handing.{Gave, taken}
use Rattle.gq_spill.specs.Runs.{Runs}
use Rattle.gq_group.specs.Access.{RunSet, LeavesOthers, HasCause}
use Rattle.gq_group.specs.Groups.{Spec, fits_spec}
use Rattle.gq_group.specs.declared.refusal.Refusal.{Refusal}
use Rattle.gq_group.specs.declared.row_block.Ahead.{Ahead}

-- a row can be grouped, and comes with the hash of its key
pub record IsHashed (spec : Spec) (hash : List ℕ → ℕ) (ahead : Ahead) : Type 0 where
  pub fits : IsTrue (fits_spec spec ahead.row)
  pub hashed : ahead.hash ≡ hash (class_of (key_of spec.by ahead.row))

abbrev pub AreHashed : Spec → (List ℕ → ℕ) → List Ahead → Type 0
AreHashed spec hash rows = AllByRecursion (IsHashed spec hash) rows

-- the first `count` rows without the first `done`
abbrev pub left_of : ℕ → ℕ → List Ahead → List Ahead
left_of done count rows = drop done (take count rows)

-- the values of rows that were read ahead
abbrev pub values_of : List Ahead → List (List Value)
values_of rows = map (λ a. a.row) rows

-- these rows come first, and then rows that `gives` is true of
abbrev pub Then : List Ahead → (List (List Value) → Type 0) → List (List Value) → Type 0
Then first gives rows = (rest : List (List Value)) × (rows ≡ values_of first ++ rest) × gives rest

-- the row at a place in a block, if there is one
abbrev pub row_at : List Ahead → Option ℕ → Option (List Value)
row_at rows None = None
row_at rows (Some place) = option_map (λ a. a.row) (slice_get rows place)

-- The first of the rows that were to come was read, or there was none, or the call was refused.
pub record Comes {T : Type 0} (row_of : T → Option (List Value)) (gives later : List (List Value) → Type 0) (had has : RunSet) (most left : ℕ) (is_ready : Type 0) (makes : Bool) (old new : Runs) (result : Result T Refusal) : Type 0 where
  pub rows : IsTrue old.honest → IfOk result (λ t. (rows : List (List Value)) → gives rows → Gave (row_of t) rows later)
  pub bound : IfOk result (λ t. taken (row_of t) + left ≤ most)
  pub ready : OnOk result is_ready
  pub others : LeavesOthers had has old new
  pub owned : makes ≡ false → (run : ℕ) → IsTrue (has run) → IsTrue (had run)
  pub made : makes ≡ false → new.made ≡ old.made
  pub cause : IfErr result (λ e. HasCause e old new)

-- The first of the rows that were to come were read, with the hashes of their keys.
pub record Came (spec : Spec) (hash : List ℕ → ℕ) (rows : List Ahead) (gives later : List (List Value) → Type 0) (most left : ℕ) (is_ready : Type 0) (honest : Bool) : Type 0 where
  pub rest : IsTrue honest → (all : List (List Value)) → gives all → Then rows later all
  pub hashed : AreHashed spec hash rows
  pub bound : length rows + left ≤ most
  pub ready : is_ready

-- Some rows were read ahead, and none only if there was none, or the call was refused.
pub record ReadAhead (spec : Spec) (hash : List ℕ → ℕ) (rows : List Ahead) (gives later : List (List Value) → Type 0) (had has : RunSet) (most left : ℕ) (is_ready : Type 0) (makes : Bool) (old new : Runs) (result : Result ℕ Refusal) : Type 0 where
  pub came : IfOk result (λ count. Came spec hash (take count rows) gives later most left is_ready old.honest)
  pub none : IfOk result (λ count. count ≡ 0 → IsTrue old.honest → (all : List (List Value)) → gives all → all ≡ [])
  pub others : LeavesOthers had has old new
  pub owned : makes ≡ false → (run : ℕ) → IsTrue (has run) → IsTrue (had run)
  pub made : makes ≡ false → new.made ≡ old.made
  pub cause : IfErr result (λ e. HasCause e old new)
