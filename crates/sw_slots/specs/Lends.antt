-- What a block holds once a mutable reference to one of its values ends.
use Rattle.std.specs.Prelude.{ℕ, List, slice_set, Option, Some}
use Rattle.std.specs.Borrow.{Fml, RattleType, MutBor, Lends}
use Rattle.sw_slots.specs.declared.block.Block.{Block}
use Rattle.sw_slots.specs.contracts.block.Block.{the_row}

-- a block with other places
abbrev pub with_places : {X : Type 0} → Block X → List (Option X) → Block X
with_places b s = record { start = b.start; places = s }

-- the value of place `i` of a block is borrowed, and when the borrow ends the place has what was written last
abbrev pub lends_place_of : (R : RattleType) → MutBor (Block R.Denot) → ℕ → MutBor R.Denot → Fml
lends_place_of R b i r = Lends (the_row R) R b r (λ x. with_places b.now (slice_set b.now.places i (Some x)))
