use Rattle.gq_load.proofs.Left.{Joined}
use Rattle.gq_load.proofs.payload.rows_of.Given as goal

abbrev pub invariant-loop : goal.invariant-loop
invariant-loop l = Joined l.rows.items l.reader.rows l.fn.reader.rows
