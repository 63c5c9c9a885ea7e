use Rattle.std.proofs.Common.{◌≡◌, ◌&&◌, List, drop, length}
use Rattle.gq_row.specs.declared.value.Value.{Value}
use Rattle.gq_group.specs.Fitting.{reaches}
use Rattle.gq_group.specs.Groups.{has_columns}
use Rattle.gq_group.proofs.group_spec.last_of.Given as goal

abbrev pub invariant-loop-column : goal.invariant-loop-column
invariant-loop-column l = (row : List Value) → (reaches l.last (length row) && has_columns (drop l.column-index l.columns) row) ≡ has_columns l.columns row
