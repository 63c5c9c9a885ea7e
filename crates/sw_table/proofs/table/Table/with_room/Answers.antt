use Rattle.std.proofs.Common.{arith}
use Rattle.std.proofs.lemmas.Grind.{common_steps}
use Rattle.sw_table.proofs.Refusals.{made_for, memory_case, ok_case}
use Rattle.sw_table.proofs.table.Table.with_room.Goals as goal

pub returns-in_default-new_blocks-clause-limit : goal.returns-in_default-new_blocks-clause-limit
returns-in_default-new_blocks-clause-limit g c = memory_case c.in-Some.capacity c.args.n c.in-Some.ensures.capacity.0 c.in-Some.ensures.capacity.1

pub returns-clause-made : goal.returns-clause-made
returns-clause-made g c = made_for g.K.Keyed.class c.args.hasher c.args.n c.in-Some.capacity _ _ c.in-Ok.ensures.slots c.in-Ok.ensures.bytes c.in-Some.ensures.capacity.1 c.in-Some.ensures.least

pub returns-clause-limit : goal.returns-clause-limit
returns-clause-limit g c = ok_case _ c.in-Some.capacity c.args.n c.in-Some.ensures.capacity.0 c.in-Some.ensures.capacity.1

pub invariant_of-result : goal.invariant_of-result
invariant_of-result g c = grind (arith, common_steps)
