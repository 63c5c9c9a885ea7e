use Rattle.std.proofs.Common.{length, ap, arith}
use Rattle.sw_table.proofs.Capacities.{whole}
use Rattle.sw_table.proofs.table.Table.make_space.Goals as goal

pub returns-then-len-room-clause-load : goal.returns-then-len-room-clause-load
returns-then-len-room-clause-load g c =
    omega (arith, c.rehash.ensures.load, c.rehash.ensures.slots, c.len.ensures, c.room.ensures, c.if-len-room.true, whole (length c.self.inside.ctrl) c.self.invariant.laid.size.1, ap (λ v. length v.bytes) c.self.view_is)
