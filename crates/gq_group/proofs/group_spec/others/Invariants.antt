use Rattle.std.proofs.Common.{◌≡◌, take}
use Rattle.gq_group.specs.KeptAggs.{others}
use Rattle.gq_group.proofs.group_spec.others.Given as goal

abbrev pub invariant-loop-agg : goal.invariant-loop-agg
invariant-loop-agg l = l.aggs.items ≡ others (take l.agg-index l.asked)
