-- What a map holds once a mutable reference to one of its values ends.
use Rattle.std.specs.Prelude.{◌≡◌, ℕ, List, Option, OnSome}
use Rattle.std.specs.Borrow.{Fml, RattleType, MutBor, Lends, LendsSo}
use Rattle.sw_probe.specs.declared.keyed.Keyed as Keyed
use Rattle.sw_probe.specs.declared.keyed.KeyHash as KeyHash
use Rattle.sw_table.specs.View.{View, with_value}
use Rattle.sw_table.specs.Entries.{entries}
use Rattle.sw_flat.specs.Maps.{assigned}
use Rattle.sw_flat.specs.contracts.map.FlatMap.{the_row}

-- the value of a class was written, and nothing else changed
pub record IsWritten {K V H : Type 0} (class : K → List ℕ) (old new : View K V H) (c : List ℕ) (w : V) : Type 0 where
  pub entries : entries class new ≡ assigned (entries class old) c w
  pub bytes : new.bytes ≡ old.bytes
  pub hasher : new.hasher ≡ old.hasher

-- the value of a class, if it has one, is borrowed, and when the borrow ends it is what was written last
abbrev pub lends_value : (K V H : RattleType) (g : Keyed.Ghosts K.Denot) (g' : KeyHash.Ghosts H.Denot K.Denot) → MutBor (View K.Denot V.Denot H.Denot) → List ℕ → Option (MutBor V.Denot) → Fml
lends_value K V H g g' m c r = LendsSo (the_row K V H g g') V m r (λ n w. OnSome r (IsWritten g.class m.now n c w)) (λ n. n ≡ m.now)

-- the value in slot `i` is borrowed, and when the borrow ends the slot has what was written last
abbrev pub lends_slot : (K V H : RattleType) (g : Keyed.Ghosts K.Denot) (g' : KeyHash.Ghosts H.Denot K.Denot) → MutBor (View K.Denot V.Denot H.Denot) → ℕ → MutBor V.Denot → Fml
lends_slot K V H g g' m i r = Lends (the_row K V H g g') V m r (λ w. with_value m.now i w)
