use Rattle.std.proofs.Common.{length, drop}
use Rattle.sw_table.specs.Walks.{IsWalking, filled}
use Rattle.sw_flat.proofs.Merged.{KeepsLayout}
use Rattle.sw_flat.proofs.Retained.{IsRetaining}
use Rattle.sw_flat.proofs.map.FlatMap.retain.Given as goal

abbrev pub invariant-entries : goal.invariant-entries
invariant-entries g l =
    goal.F-IsAlwaysCallable g l.keep
    × IsWalking l.self-inside.table.bytes l.walk
    × KeepsLayout l.fn.self l.self-inside.table
    × IsRetaining g.F.FnMut l.fn.keep (filled l.fn.self.places) l.keep l.self-inside.table.places l.walk.from

abbrev pub decreases-entries : goal.decreases-entries
decreases-entries g l = length (filled (drop l.walk.from l.self-inside.table.places))
