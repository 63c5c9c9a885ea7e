use Rattle.std.proofs.Common.{◌≡◌, [], replicate}
use Rattle.gq_table.proofs.column_store.no_cells.Given as goal

abbrev pub invariant-loop : goal.invariant-loop
invariant-loop l = l.made.items ≡ replicate l.counter []
