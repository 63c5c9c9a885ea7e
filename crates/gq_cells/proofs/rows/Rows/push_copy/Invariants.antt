use Rattle.std.proofs.Common.{◌≡◌, ◌++◌, take}
use Rattle.gq_cells.proofs.rows.Rows.push_copy.Given as goal

abbrev pub invariant-loop-value : goal.invariant-loop-value
invariant-loop-value l = (l.self-inside.cells ≡ l.initial.self-inside.cells ++ take l.value-index l.fn.row) × (l.self-inside.spans ≡ l.initial.self-inside.spans)
