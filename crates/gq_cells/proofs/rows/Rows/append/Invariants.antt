use Rattle.std.proofs.Common.{◌≡◌, ◌++◌, map, take, drop}
use Rattle.gq_cells.specs.Lists.{moved}
use Rattle.gq_cells.proofs.rows.Rows.append.Given as goal

abbrev pub invariant-loop-i : goal.invariant-loop-i
invariant-loop-i l = l.spans.items ≡ map (moved l.start) (take l.i l.initial.spans.items) ++ drop l.i l.initial.spans.items
