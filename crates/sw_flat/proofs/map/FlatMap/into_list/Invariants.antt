use Rattle.std.proofs.Common.{length, vec_len, vec_capacity}
use Rattle.sw_table.specs.Walks.{IsDraining, filled}
use Rattle.sw_flat.proofs.Drained.{IsCollecting}
use Rattle.sw_flat.proofs.map.FlatMap.into_list.Given as goal

abbrev pub invariant-entries : goal.invariant-entries
invariant-entries g l = IsCollecting l.fn.self.places l.table.places l.list.items (vec_len l.list) (vec_capacity l.list) × IsDraining l.table l.walk

abbrev pub decreases-entries : goal.decreases-entries
decreases-entries g l = length (filled l.table.places)
