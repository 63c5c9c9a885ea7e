use Rattle.std.proofs.Common.{◌≡◌, ◌+◌, ◌≤◌, ◌^◌, length}
use Rattle.sw_table.specs.Entries.{entries}
use Rattle.sw_table.specs.Walks.{filled}
use Rattle.sw_flat.proofs.Merged.{lacked_count}
use Rattle.sw_flat.proofs.map.FlatMap.count_lacked.Given as goal

abbrev pub invariant-entries : goal.invariant-entries
invariant-entries g l =
    (l.count + lacked_count g.K.Keyed.class (entries g.K.Keyed.class l.fn.self) l.rest ≡ lacked_count g.K.Keyed.class (entries g.K.Keyed.class l.fn.self) (filled l.fn.other.places))
    × (lacked_count g.K.Keyed.class (entries g.K.Keyed.class l.fn.self) (filled l.fn.other.places) ≤ 2 ^ 28)

abbrev pub decreases-entries : goal.decreases-entries
decreases-entries g l = length l.rest
