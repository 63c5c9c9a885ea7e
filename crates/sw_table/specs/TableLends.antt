-- What a table holds once a mutable reference to one of its values ends.
use Rattle.std.specs.Prelude.{ℕ}
use Rattle.std.specs.Borrow.{Fml, RattleType, MutBor, Lends}
use Rattle.sw_probe.specs.declared.keyed.Keyed as Keyed
use Rattle.sw_probe.specs.declared.keyed.KeyHash as KeyHash
use Rattle.sw_table.specs.View.{View, with_value}
use Rattle.sw_table.specs.contracts.table.Table.{the_row}

-- the value in slot `i` is borrowed, and when the borrow ends the slot has what was written last
abbrev pub lends_value : (K V H : RattleType) (g : Keyed.Ghosts K.Denot) (g' : KeyHash.Ghosts H.Denot K.Denot) → MutBor (View K.Denot V.Denot H.Denot) → ℕ → MutBor V.Denot → Fml
lends_value K V H g g' t i r = Lends (the_row K V H g g') V t r (λ w. with_value t.now i w)
