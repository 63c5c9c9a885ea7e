-- The distinct keys of rows, as groups without aggregates.
use Rattle.std.specs.Prelude.{ℕ, List, [], map, IsPermutation}
use Rattle.gq_row.specs.declared.value.Value.{Value}
use Rattle.gq_row.specs.Tables.{keys}
use Rattle.gq_group.specs.Groups.{Group}

-- the distinct keys of rows, by their folds, each with an empty list of values
abbrev pub bare_keys : List ℕ → List (List Value) → List Group
bare_keys columns rows = map (λ key. (key, [])) (keys columns rows)

-- the distinct keys of rows were pushed to a sink, in some order
abbrev pub PushesKeys : List ℕ → List (List Value) → (List Group → Type 0) → Type 0
PushesKeys columns rows holds = (out : List Group) × IsPermutation (bare_keys columns rows) out × holds out
