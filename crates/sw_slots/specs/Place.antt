-- A list of places, each vacant or with a value.
use Rattle.std.specs.Prelude.{ℕ, List, Option, None, slice_index_or}

-- the content of place `i`: past the end there is none
abbrev pub place : {X : Type 0} → List (Option X) → ℕ → Option X
place s i = slice_index_or s i None
