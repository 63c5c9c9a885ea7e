use Rattle.std.proofs.Common.{◌≡◌, false, drop}
use Rattle.gq_select.specs.Laws.{both}
use Rattle.gq_select.specs.Truths.{is_false, truth}
use Rattle.gq_select.proofs.condition.holds.Given as goal

-- the truth so far is not false, and joined with that of the tests that are left it is that of all
abbrev pub invariant-loop-test : goal.invariant-loop-test
invariant-loop-test l = (is_false l.truth ≡ false) × (both l.truth (truth (drop l.test-index l.condition.tests) l.row) ≡ truth l.condition.tests l.row)
