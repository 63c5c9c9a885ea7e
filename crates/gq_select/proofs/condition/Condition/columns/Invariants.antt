use Rattle.std.proofs.Common.{◌≡◌, ◌++◌, drop}
use Rattle.gq_select.specs.Truths.{columns_of}
use Rattle.gq_select.proofs.condition.Condition.columns.Given as goal

abbrev pub invariant-loop-test : goal.invariant-loop-test
invariant-loop-test l = l.columns.items ++ columns_of (drop l.test-index l.test-items) ≡ columns_of l.test-items
