-- The invariant of the fields of slots.
use Rattle.std.specs.Prelude.{◌≡◌, length}
use Rattle.sw_slots.specs.declared.slots.Slots.TheInside.{Inside}
use Rattle.sw_slots.specs.Granted.{IsGrantOf}

-- the slots have the block of their places, and the grant to deallocate it
abbrev pub IsWhole : {X : Type 0} → Inside X → Type 0
IsWhole s = (length s.block.places ≡ s.len) × IsGrantOf s.grant s.block s.alloc s.len
