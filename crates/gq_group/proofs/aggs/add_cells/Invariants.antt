use Rattle.std.proofs.Common.{◌≡◌, ◌++◌, ◌∷◌, [], List, take, drop}
use Rattle.gq_row.specs.declared.value.Value.{Value as Cell}
use Rattle.gq_group.specs.Entries.{tallies}
use Rattle.gq_group.proofs.aggs.add_cells.Given as goal

abbrev pub invariant-aggs : goal.invariant-aggs
invariant-aggs l = (rows : List (List Cell)) → l.fn.aggs ≡ tallies l.asked rows → l.aggs ≡ take l.i (tallies l.asked (rows ++ l.row ∷ [])) ++ drop l.i (tallies l.asked rows)
