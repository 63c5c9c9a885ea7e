use Rattle.std.proofs.Common.{◌≡◌, ◌++◌, drop, map}
use Rattle.gq_plan.specs.Kinds.{result_kinds, shown_kind}
use Rattle.gq_plan.proofs.kinds.result_kinds.Given as goal

abbrev pub invariant-loop-asked : goal.invariant-loop-asked
invariant-loop-asked l = l.kinds.items ++ map (shown_kind l.columns) (drop l.asked-index l.shown) ≡ result_kinds l.columns l.by l.shown
