use Rattle.std.proofs.Common.{subst, sym}
use Rattle.gq_table.specs.Changes.{IsPut}
use Rattle.gq_engine.proofs.payloads.put_row.Goals as goal

pub returns-then-is_power_of_two-clause-put : goal.returns-then-is_power_of_two-clause-put
returns-then-is_power_of_two-clause-put g c = subst (IsPut c.args.staged.now c.args.row.now) (sym c.make_room.ensures) c.in_ok-put.ensures.ok
