use Rattle.std.proofs.Common.{◌≡◌, ◌++◌, drop}
use Rattle.std.specs.Prelude.{option_map}
use Rattle.gq_plan.specs.Places.{all_shown}
use Rattle.gq_plan.proofs.shown.find_shown.Given as goal

abbrev pub invariant-loop-aggregate : goal.invariant-loop-aggregate
invariant-loop-aggregate l =
    option_map (λ rest. l.all.items ++ rest) (all_shown l.schema.columns (drop l.aggregate-index l.aggregates)) ≡ all_shown l.schema.columns l.aggregates
