-- Rows with an index of their keys.
use Rattle.std.specs.Prelude.{◌≡◌, ℕ, Bool, List, map}
use Rattle.gq_row.specs.declared.value.Value.{Value}
use Rattle.gq_row.specs.Order.{same_key}
use Rattle.gq_row.specs.Repeats.{no_repeats}
use Rattle.gq_row.specs.Rows.{key_of}
use Rattle.gq_table.specs.declared.keyed.KeyedRows.{KeyedRows}

-- the keys of the index are those of the rows, in the same order
abbrev pub OwnKeys : {H : Type 0} → List ℕ → KeyedRows H → Type 0
OwnKeys key m = m.index.keys ≡ map (key_of key) m.rows

-- no two rows have the same key
abbrev pub AreApart : List ℕ → List (List Value) → Bool
AreApart key rows = no_repeats same_key (map (key_of key) rows)
