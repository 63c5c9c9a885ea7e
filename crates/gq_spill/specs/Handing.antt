-- A row that is read from those that are left.
use Rattle.std.specs.Prelude.{◌≡◌, ℕ, Bool, false, true, List, [], ◌∷◌, Option, Some, None}
use Rattle.gq_row.specs.declared.value.Value.{Value}

-- the first of the rows was read, or there was none, and `gives` is true of the rows that are left
abbrev pub Gave : Option (List Value) → List (List Value) → (List (List Value) → Type 0) → Type 0
Gave None rows gives = (rows ≡ []) × gives []
Gave (Some row) rows gives = (rest : List (List Value)) × (rows ≡ row ∷ rest) × gives rest

-- the row that was read, if there was one
abbrev pub came : Bool → List Value → Option (List Value)
came false row = None
came true row = Some row

-- how many rows were read
abbrev pub taken : Option (List Value) → ℕ
taken None = 0
taken (Some row) = 1
