use Rattle.std.proofs.Common.{length, ap, arith, rules}
use Rattle.std.proofs.lemmas.Grind.{common_steps}
use Rattle.sw_table.proofs.Refusals.{memory_case, ok_case}
use Rattle.sw_table.proofs.table.Table.reserve.Goals as goal

pub returns-then-n-room-clause-refused : goal.returns-then-n-room-clause-refused
returns-then-n-room-clause-refused g c = record {
  enough = search rules;
  unchanged = search rules;
  limit = ok_case _ (length c.self.inside.ctrl) c.args.n c.self.invariant.laid.size.1 (omega (arith, c.if-n-room.true, c.room.ensures, ap (λ v. length v.bytes) c.self.view_is));
}

pub returns-in-Ok-clause-refused : goal.returns-in-Ok-clause-refused
returns-in-Ok-clause-refused g c = record {
  enough = search rules;
  unchanged = search rules;
  limit = ok_case _ c.in-Some.capacity c.args.n c.in-Some.ensures.capacity.0 c.in-Some.ensures.capacity.1;
}

pub returns-in-Err-clause-refused : goal.returns-in-Err-clause-refused
returns-in-Err-clause-refused g c = record {
  enough = search rules;
  unchanged = search rules;
  limit = memory_case c.in-Some.capacity c.args.n c.in-Some.ensures.capacity.0 c.in-Some.ensures.capacity.1;
}

pub returns-in-Ok-clause-grows : goal.returns-in-Ok-clause-grows
returns-in-Ok-clause-grows g c = grind (arith, common_steps)
