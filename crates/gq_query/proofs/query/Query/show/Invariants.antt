use Rattle.std.proofs.Common.{IsTrue}
use Rattle.gq_group.specs.Access.{LeavesOthers}
use Rattle.gq_query.specs.Sources.{no_runs}
use Rattle.gq_query.specs.Joining.{AreShown, so_far}
use Rattle.gq_query.specs.Keeping.{kept_rows}
use Rattle.gq_query.proofs.query.Query.show.Given as goal

abbrev pub invariant-shown : goal.invariant-shown
invariant-shown g l =
    let runs = g.S.RunStore.runs in
    record {
      groups : IsTrue (runs l.fn.store).honest → AreShown l.self.by.now (so_far l.place l.shown) (kept_rows l.self) l.groups;
      others : LeavesOthers no_runs no_runs (runs l.fn.store) (runs l.store);
    }
