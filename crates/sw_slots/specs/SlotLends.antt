-- What slots hold once a mutable reference to one of their values ends.
use Rattle.std.specs.Prelude.{ℕ, List, slice_set, Option, Some}
use Rattle.std.specs.Borrow.{Fml, RattleType, MutBor, Lends}
use Rattle.sw_slots.specs.contracts.slots.Slots.{the_row}

-- the value of place `i` is borrowed, and when the borrow ends the place has what was written last, and all
-- others are unchanged
abbrev pub lends_place : (R : RattleType) → MutBor (List (Option R.Denot)) → ℕ → MutBor R.Denot → Fml
lends_place R s i r = Lends (the_row R) R s r (λ x. slice_set s.now i (Some x))
