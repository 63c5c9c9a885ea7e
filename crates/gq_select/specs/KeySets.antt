-- Sets of the keys of rows.
use Rattle.std.specs.Prelude.{◌≡◌, ℕ, Bool, List}
use Rattle.std.specs.List.{list_any}
use Rattle.gq_row.specs.declared.value.Value.{Value}
use Rattle.gq_row.specs.Order.{same_key}
use Rattle.gq_select.specs.Matches.{is_key_among}
use Rattle.gq_select.specs.declared.join.KeySet.{KeySet}

-- a set has a key: one of its keys is the same
abbrev pub has : {H : Type 0} → KeySet H → List Value → Bool
has set key = list_any (same_key key) set.index.keys

-- a set has the keys of these rows in some columns, but for those with null
abbrev pub AreKeysOf : {H : Type 0} → List ℕ → List (List Value) → KeySet H → Type 0
AreKeysOf columns rows set = (key : List Value) → has set key ≡ is_key_among columns rows key
