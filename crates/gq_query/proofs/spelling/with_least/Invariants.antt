use Rattle.std.proofs.Common.{◌≡◌, ◌++◌, drop}
use Rattle.gq_query.specs.Spelling.{least_shown}
use Rattle.gq_query.proofs.spelling.with_least.Given as goal

abbrev pub invariant-loop-column : goal.invariant-loop-column
invariant-loop-column l = l.all.items ++ least_shown (drop l.column-index l.by) ≡ least_shown l.by
