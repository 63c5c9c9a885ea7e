use Rattle.std.proofs.Common.{◌≡◌, ◌++◌, length}
use Rattle.gq_query.proofs.showing.rows_of.Given as goal

abbrev pub invariant-rows : goal.invariant-rows
invariant-rows g l = l.copies ++ l.rows.rest ≡ l.table.rows

abbrev pub decreases-rows : goal.decreases-rows
decreases-rows g l = length l.rows.rest
