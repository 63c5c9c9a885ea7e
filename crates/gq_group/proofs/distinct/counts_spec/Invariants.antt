use Rattle.std.proofs.Common.{◌≡◌}
use Rattle.std.specs.List.{range_with_len}
use Rattle.gq_group.proofs.distinct.counts_spec.Given as goal

abbrev pub invariant-columns : goal.invariant-columns
invariant-columns l = l.by.items ≡ range_with_len 0 l.column
