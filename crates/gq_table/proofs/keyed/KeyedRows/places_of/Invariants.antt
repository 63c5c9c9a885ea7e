use Rattle.std.proofs.Common.{take}
use Rattle.gq_table.specs.Places.{ArePlaces}
use Rattle.gq_table.proofs.keyed.KeyedRows.places_of.Given as goal

abbrev pub invariant-loop-i : goal.invariant-loop-i
invariant-loop-i g l = ArePlaces l.positions (g.H.KeyHash.hash_of l.self.index.hasher) l.self.rows (take l.i l.staged.rows) l.places.items
