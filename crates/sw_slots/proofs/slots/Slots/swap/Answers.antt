use Rattle.std.proofs.Common.{rules}
use Rattle.sw_slots.proofs.Swaps.{exchanged}
use Rattle.sw_slots.proofs.slots.Slots.swap.Goals as goal

pub returns : goal.returns
returns g c = rw (c.put-2.ensures, c.put.ensures, c.take-y.ensures.places, c.take-x.ensures.places)
    (exchanged _ _ _ _ _ (search rules) c.take-x.ensures.value (rw (← c.take-x.ensures.places) c.take-y.ensures.value))
