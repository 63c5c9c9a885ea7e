use Rattle.std.proofs.Common.{◌≡◌, map, take}
use Rattle.gq_query.specs.declared.group_list.GroupSpan.{GroupSpan}
use Rattle.gq_query.specs.GroupSpans.{end_of, middle_of}
use Rattle.gq_query.proofs.group_list.GroupList.into_values.Given as goal

abbrev pub invariant-loop-group : goal.invariant-loop-group
invariant-loop-group l = l.spans.items ≡ map (λ (s : GroupSpan). record { start = middle_of s; end = end_of s }) (take l.group-index l.group-items)
