use Rattle.std.proofs.Common.{length, ap, arith}
use Rattle.std.proofs.lemmas.Grind.{common_steps}
use Rattle.sw_table.proofs.MovedEntries.{full-le-used}
use Rattle.sw_table.proofs.Capacities.{more_groups}
use Rattle.sw_table.proofs.table.Table.resize.Goals as goal

pub returns-clause-load : goal.returns-clause-load
returns-clause-load g c =
    let t = c.self.inside in let i = c.self.invariant in
    omega (arith, c.move_all.ensures.laid.used_is, full-le-used t.ctrl, i.laid.load, more_groups (length t.ctrl) c.args.capacity i.laid.size.1 c.requires.0 (omega (arith, ap (λ v. length v.bytes) c.self.view_is, c.requires.1)))

pub move_all-requires-clause-vacant : goal.move_all-requires-clause-vacant
move_all-requires-clause-vacant g c = grind (arith, common_steps)

pub returns-clause-slots : goal.returns-clause-slots
returns-clause-slots g c = grind (arith, common_steps)

pub move_all-requires-clause-size : goal.move_all-requires-clause-size
move_all-requires-clause-size g c = grind (arith, common_steps)

pub invariant_of-self : goal.invariant_of-self
invariant_of-self g c = grind (arith, common_steps)
