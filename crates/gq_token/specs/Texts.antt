-- Texts.
use Rattle.std.specs.Prelude.{ℕ, Bool, true, false, List, [], ◌∷◌}

-- a text or a name by its bytes
abbrev pub Bytes : Type 0
Bytes = List ℕ

-- whether a list has an item
abbrev pub some : {A : Type 0} → List A → Bool
some [] = false
some (x ∷ xs) = true
