use Rattle.std.proofs.Common.{◌≡◌, false, length, List}
use Rattle.gq_group.specs.Entries.{listed}
use Rattle.sw_flat.specs.Maps.{ListsAll}
use Rattle.gq_row.specs.Classes.{class_of}
use Rattle.gq_group.specs.Access.{LeavesOthers}
use Rattle.gq_group.specs.Entries.{Pair, Sent}
use Rattle.gq_group.proofs.grouping.push_all.Given as goal

abbrev pub invariant-groups : goal.invariant-groups
invariant-groups g l =
    let runs = g.S.RunStore.runs in
    record {
      ready : g.K.GroupSink.is_ready l.sink (runs l.store);
      sent : (all : List Pair) × ListsAll class_of all (listed l.fn.all.pairs) × Sent l.spec (runs l.fn.store).honest (g.K.GroupSink.holds l.fn.sink (runs l.fn.store)) (g.K.GroupSink.holds l.sink (runs l.store)) all l.left.pairs;
      asked : l.left.asked ≡ l.spec.aggs;
      others : LeavesOthers (g.K.GroupSink.owns l.fn.sink) (g.K.GroupSink.owns l.sink) (runs l.fn.store) (runs l.store);
      made : g.K.GroupSink.makes_runs ≡ false → (runs l.store).made ≡ (runs l.fn.store).made;
    }

abbrev pub decreases-groups : goal.decreases-groups
decreases-groups g l = length l.left.pairs
