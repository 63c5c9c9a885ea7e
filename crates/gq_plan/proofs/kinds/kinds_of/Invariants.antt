use Rattle.std.proofs.Common.{◌≡◌, ◌++◌, drop}
use Rattle.gq_plan.specs.Kinds.{kinds_of}
use Rattle.gq_plan.proofs.kinds.kinds_of.Given as goal

abbrev pub invariant-loop-column : goal.invariant-loop-column
invariant-loop-column l = l.kinds.items ++ kinds_of (drop l.column-index l.columns) ≡ kinds_of l.columns
