use Rattle.gq_select.specs.Truths.{keeps}
use Rattle.gq_query.proofs.HavingLemmas.{AreKept}
use Rattle.gq_query.proofs.grouping.rows_having.Given as goal

abbrev pub invariant-loop-i : goal.invariant-loop-i
invariant-loop-i l = AreKept (keeps l.condition.tests) l.fn.rows l.rows l.i l.kept
