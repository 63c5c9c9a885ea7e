use Rattle.std.proofs.Common.{◌≡◌, ◌++◌, drop}
use Rattle.std.specs.Prelude.{option_map}
use Rattle.gq_plan.specs.Places.{all_placed}
use Rattle.gq_plan.specs.Scopes.{place_in}
use Rattle.gq_plan.proofs.places.place_tests.Given as goal

abbrev pub invariant-loop-test : goal.invariant-loop-test
invariant-loop-test l =
    option_map (λ rest. l.all.items ++ rest) (all_placed (place_in l.scope) (drop l.test-index l.tests)) ≡ all_placed (place_in l.scope) l.tests
