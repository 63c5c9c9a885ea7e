use Rattle.std.proofs.Common.{◌≡◌, ◌++◌, ◌∷◌, [], take}
use Rattle.gq_group.specs.Entries.{tallies}
use Rattle.gq_group.proofs.aggs.append_each.Given as goal

abbrev pub invariant-loop-agg : goal.invariant-loop-agg
invariant-loop-agg l = l.running.items ≡ l.fn.running.items ++ tallies (take l.agg-index l.asked) (l.row ∷ [])
