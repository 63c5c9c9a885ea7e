use Rattle.std.proofs.Common.{◌≡◌, ◌++◌, drop}
use Rattle.gq_plan.proofs.header.push_copies.Given as goal

abbrev pub invariant-loop-name : goal.invariant-loop-name
invariant-loop-name l = l.names.items ++ drop l.name-index l.more ≡ l.initial.names.items ++ l.more
