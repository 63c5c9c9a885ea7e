-- Which values are stored inline, and what an overwrite leaves if memory is refused.
use Rattle.std.specs.Prelude.{ℕ, ◌≤◌, Bool, List, length, [], if◌then◌else◌}
use Rattle.gq_row.specs.declared.value.Value.{Value}
use Rattle.gq_row.specs.declared.value.Value.TheVariants.{Null, Int, Text, NoCase}

-- a value that allocates nothing: each but a text longer than 22 bytes
abbrev pub IsInPlace : Value → Type 0
IsInPlace Null = Unit {0}
IsInPlace (Int n) = Unit {0}
IsInPlace (Text t) = length t ≤ 22
IsInPlace (NoCase t) = length t ≤ 22

-- what a failed overwrite leaves: of a text under a text of its kind an empty one, and else the old value
abbrev pub left_by : Value → Value → Value
left_by Null new = Null
left_by (Int n) new = Int n
left_by (Text old) (Text new) = Text []
left_by (Text old) new = Text old
left_by (NoCase old) (NoCase new) = NoCase []
left_by (NoCase old) new = NoCase old

-- a text, with case or without
abbrev pub text_of : Bool → List ℕ → Value
text_of without_case text = if without_case then NoCase text else Text text
