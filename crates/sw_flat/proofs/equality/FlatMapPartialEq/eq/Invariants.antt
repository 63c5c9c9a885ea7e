use Rattle.std.proofs.Common.{◌≡◌, true, length}
use Rattle.std.specs.List.{list_all}
use Rattle.sw_table.specs.Entries.{entries}
use Rattle.sw_table.specs.Walks.{filled}
use Rattle.sw_flat.proofs.Equal.{Held, agrees}
use Rattle.sw_flat.proofs.equality.FlatMapPartialEq.eq.Given as goal

abbrev pub invariant-entries : goal.invariant-entries
invariant-entries g l =
    Held g.K.Keyed.class (entries g.K.Keyed.class l.fn.self) l.rest
    × (list_all (agrees g.K.Keyed.class g.V.PartialEq.eq (entries g.K.Keyed.class l.fn.other)) l.rest ≡ true
    → list_all (agrees g.K.Keyed.class g.V.PartialEq.eq (entries g.K.Keyed.class l.fn.other)) (filled l.fn.self.places) ≡ true)

abbrev pub decreases-entries : goal.decreases-entries
decreases-entries g l = length l.rest
