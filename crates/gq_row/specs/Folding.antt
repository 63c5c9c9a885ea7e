-- The fold of a text: its bytes with A to Z as a to z.
use Rattle.std.specs.Prelude.{ℕ, Bool, true, false, List, map}
use Rattle.std.specs.Char.{to_ascii_lowercase}
use Rattle.gq_row.specs.declared.value.Value.{Value}
use Rattle.gq_row.specs.declared.value.Value.TheVariants.{Null, Int, Text, NoCase}

-- the fold of a text: each byte from A to Z as its letter from a to z, and each other byte unchanged
abbrev pub fold_case : List ℕ → List ℕ
fold_case text = map to_ascii_lowercase text

-- a value has case: each but a text without case
abbrev pub has_case : Value → Bool
has_case Null = true
has_case (Int n) = true
has_case (Text t) = true
has_case (NoCase t) = false

-- a text as a text without case, and each other value unchanged
abbrev pub without_case : Value → Value
without_case Null = Null
without_case (Int n) = Int n
without_case (Text t) = NoCase t
without_case (NoCase t) = NoCase t

-- the fold of a value: of a text without case its fold, and each other value unchanged
abbrev pub folded : Value → Value
folded Null = Null
folded (Int n) = Int n
folded (Text t) = Text t
folded (NoCase t) = NoCase (fold_case t)
