use Rattle.sw_table.specs.Walks.{IsDraining}
use Rattle.sw_map_tests.proofs.walks.take.Given as goal

abbrev pub invariant-entries : goal.invariant-entries
invariant-entries g l = IsDraining l.map l.walk
