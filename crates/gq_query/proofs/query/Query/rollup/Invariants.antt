use Rattle.std.proofs.Common.{IsTrue}
use Rattle.gq_group.specs.Access.{LeavesOthers}
use Rattle.gq_query.specs.Keeping.{kept_rows}
use Rattle.gq_query.specs.Sources.{no_runs}
use Rattle.gq_query.proofs.RollupLemmas.{Risen, SoFar}
use Rattle.gq_query.proofs.query.Query.rollup.Given as goal

abbrev pub invariant-levels : goal.invariant-levels
invariant-levels g l =
    let runs = g.S.RunStore.runs in
    record {
      rows : IsTrue (runs l.fn.store).honest → SoFar l.self.by.now l.shown l.condition.tests (kept_rows l.self) l.fewer l.rows;
      risen : Risen (runs l.fn.store).honest l.self.budget.entries l.self.by.now (kept_rows l.self) l.fn.spent l.fewer l.total;
      others : LeavesOthers no_runs no_runs (runs l.fn.store) (runs l.store);
    }
