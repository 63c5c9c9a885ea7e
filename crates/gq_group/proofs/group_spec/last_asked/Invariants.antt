use Rattle.std.proofs.Common.{◌≡◌, ◌&&◌, List, drop, length}
use Rattle.gq_row.specs.declared.value.Value.{Value}
use Rattle.gq_group.specs.Fitting.{has_all_asked, reaches}
use Rattle.gq_group.proofs.group_spec.last_asked.Given as goal

abbrev pub invariant-loop-agg : goal.invariant-loop-agg
invariant-loop-agg l = (row : List Value) → (reaches l.last (length row) && has_all_asked (drop l.agg-index l.aggs) row) ≡ (reaches l.fn.before (length row) && has_all_asked l.aggs row)
