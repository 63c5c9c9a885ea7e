use Rattle.gq_group.proofs.StackLemmas.{work_left}
use Rattle.gq_group.proofs.StackingLemmas.{SoFar}
use Rattle.gq_group.proofs.stack.run_passes.Given as goal

abbrev pub invariant-runs : goal.invariant-runs
invariant-runs g l =
    let old = g.S.RunStore.runs l.fn.store in
    let new = g.S.RunStore.runs l.store in
    SoFar l.spec l.context.budget.entries (g.R.RowSource.bound l.fn.source) l.first.columns (g.R.RowSource.gives l.fn.source old) (g.K.GroupSink.holds l.fn.sink old) (g.K.GroupSink.holds l.sink new)
    (g.R.RowSource.owns l.fn.source) (g.R.RowSource.owns l.source) (g.K.GroupSink.owns l.fn.sink) (g.K.GroupSink.owns l.sink) (g.R.RowSource.is_ready l.source new) (g.K.GroupSink.is_ready l.sink new)
    g.R.RowSource.makes_runs g.K.GroupSink.makes_runs old new l.stack.items (record { rows_read = l.first.rows_read; rows_written = l.rows_written; groups = l.groups; runs = l.runs })

abbrev pub decreases-runs : goal.decreases-runs
decreases-runs g l = work_left l.stack.items
