use Rattle.std.proofs.Common.{◌≡◌, take}
use Rattle.gq_query.specs.Joining.{joined}
use Rattle.gq_query.proofs.grouping.join_counts.Given as goal

abbrev pub invariant-loop-i : goal.invariant-loop-i
invariant-loop-i l = l.all ≡ joined l.place (take l.i l.groups) (take l.i l.counts)
