use Rattle.std.proofs.Common.{◌≡◌, ◌++◌, drop, map}
use Rattle.gq_select.specs.Asking.{kind_at}
use Rattle.gq_plan.proofs.kinds.key_kinds.Given as goal

abbrev pub invariant-loop-position : goal.invariant-loop-position
invariant-loop-position l = l.kinds.items ++ map (kind_at l.columns) (drop l.position-index l.by) ≡ map (kind_at l.columns) l.by
