use Rattle.std.proofs.Common.{ap, subst, sym}
use Rattle.gq_group.specs.Access.{either}
use Rattle.gq_group.specs.Groups.{Spec}
use Rattle.gq_group.specs.Partitioning.{partition_by}
use Rattle.gq_group.specs.Maps.{MapView}
use Rattle.gq_group.specs.Passes.{AreRows}
use Rattle.gq_group.specs.Partitions.{among}
use Rattle.gq_group.specs.declared.budget.Budget.{Budget}
use Rattle.gq_group.proofs.AccessLemmas.{keeps-apart}
use Rattle.gq_group.proofs.PassLemmas.{partition_less, rows_of_kept}
use Rattle.gq_group.proofs.PassResultLemmas.{pass-none, pass-stopped, pass-full, pass-done}
use Rattle.gq_group.proofs.pass.run_pass.Goals as goal

pub read_rows-requires-clause-rows : goal.read_rows-requires-clause-rows
read_rows-requires-clause-rows g c = λ h.
    let known = c.requires.rows h in
    (known.0, known.1, subst (λ (s : Spec). AreRows s known.0) (sym c.in-Ok.ensures) (rows_of_kept c.args.pass.now.spec.now known.0 known.2))

pub push_all-requires-clause-sink : goal.push_all-requires-clause-sink
push_all-requires-clause-sink g c =
    let r = g.S.RunStore.runs c.args.store.now in
    let s = g.S.RunStore.runs c.read_rows.new.store in
    let k = g.K.GroupSink.owns c.args.sink.now in
    let live = g.met.K.GroupSink.own_live c.args.sink.now r c.requires.sink in
    g.met.K.GroupSink.stays_ready c.args.sink.now r s (keeps-apart (g.R.RowSource.owns c.args.source.now) (either (g.R.RowSource.owns c.read_rows.new.source) (among c.read_rows.new.partitions.items)) k r s c.in_ok-taken.ensures.read.others c.requires.apart live) c.requires.sink

pub returns-in_default-start_pass : goal.returns-in_default-start_pass
returns-in_default-start_pass g c =
    pass-none c.args.pass.now.spec.now c.args.pass.now.context.budget.entries _ _ _ _ _ _ _ _ (g.R.RowSource.owns c.args.source.now) (g.K.GroupSink.owns c.args.sink.now) (g.S.RunStore.runs c.args.store.now) c.start_pass.new.partitions.items
    c.start_pass.ensures.few c.start_pass.ensures.empty c.requires.apart

pub returns-in_err-taken : goal.returns-in_err-taken
returns-in_err-taken g c =
    let r = g.S.RunStore.runs c.args.store.now in
    let s = g.S.RunStore.runs c.read_rows.new.store in
    let told = c.in_err-taken.ensures.read in
    pass-stopped c.args.pass.now.spec.now c.args.pass.now.context.budget.entries _ _ _ (g.K.GroupSink.holds c.args.sink.now s) (g.R.RowSource.is_ready c.read_rows.new.source s) (g.K.GroupSink.is_ready c.args.sink.now s) _ _
    (g.R.RowSource.owns c.args.source.now) (g.R.RowSource.owns c.read_rows.new.source) (g.K.GroupSink.owns c.args.sink.now) r s c.read_rows.new.partitions.items c.args.pass.now.depth
    c.requires.apart (g.met.K.GroupSink.own_live c.args.sink.now r c.requires.sink) told.places told.ours told.apart told.others told.grows told.owned
    c.from_residual.result c.in_err-taken.field-0.0 c.from_residual.ensures.1 told.cause

pub returns-in_err-groups : goal.returns-in_err-groups
returns-in_err-groups g c =
    let r = g.S.RunStore.runs c.args.store.now in
    let s = g.S.RunStore.runs c.read_rows.new.store in
    let t = g.S.RunStore.runs c.push_all.new.store in
    let told = rw c.in-Ok.ensures at c.in_ok-taken.ensures.read in
    let n = c.in_ok-taken.taken in
    pass-full c.args.pass.now.spec.now c.args.pass.now.context.budget.entries _ _ _ (g.K.GroupSink.holds c.push_all.new.sink t) (g.R.RowSource.is_ready c.read_rows.new.source t) (g.K.GroupSink.is_ready c.push_all.new.sink t) _ _
    (g.R.RowSource.owns c.args.source.now) (g.R.RowSource.owns c.read_rows.new.source) (g.K.GroupSink.owns c.args.sink.now) (g.K.GroupSink.owns c.push_all.new.sink)
    r s t c.read_rows.new.partitions.items c.args.pass.now.depth
    c.requires.apart (g.met.K.GroupSink.own_live c.args.sink.now r c.requires.sink) told.places told.ours told.apart told.others told.grows told.owned c.in_err-groups.ensures.others
    (partition_by (g.H.KeyHash.hash_of c.in-Ok-start_pass.table.groups.hasher) c.args.pass.now.depth) c.in-Ok-start_pass.table.budget.entries n.rows_read n.rows_written n.runs n.columns c.read_rows.new.table.groups.pairs c.into_groups.result.pairs told.read
    (ap (λ (b : Budget). b.entries) c.in-Ok-start_pass.ensures.budget) (ap (λ (x : MapView _). x.pairs) c.into_groups.ensures) (g.met.R.RowSource.own_live c.read_rows.new.source s told.source)
    c.from_residual-in_err-groups.result c.in_err-groups.field-0.0 c.from_residual-in_err-groups.ensures.1 c.in_err-groups.ensures.overflow c.in_err-groups.ensures.cause

pub returns : goal.returns
returns g c =
    let r = g.S.RunStore.runs c.args.store.now in
    let s = g.S.RunStore.runs c.read_rows.new.store in
    let t = g.S.RunStore.runs c.push_all.new.store in
    let told = rw c.in-Ok.ensures at c.in_ok-taken.ensures.read in
    let pushed = c.in_ok-groups.ensures in
    let n = c.in_ok-taken.taken in
    let hash = g.H.KeyHash.hash_of c.in-Ok-start_pass.table.groups.hasher in
    pass-done c.args.pass.now.spec.now c.args.pass.now.context.budget.entries _ _ _ (g.K.GroupSink.holds c.push_all.new.sink t) (g.R.RowSource.is_ready c.read_rows.new.source t) (g.K.GroupSink.is_ready c.push_all.new.sink t) _ _
    (g.R.RowSource.owns c.args.source.now) (g.R.RowSource.owns c.read_rows.new.source) (g.K.GroupSink.owns c.args.sink.now) (g.K.GroupSink.owns c.push_all.new.sink)
    r s t c.read_rows.new.partitions.items c.args.pass.now.depth
    c.requires.apart (g.met.K.GroupSink.own_live c.args.sink.now r c.requires.sink) told.places told.ours told.apart told.others told.grows told.owned pushed.others
    (partition_by hash c.args.pass.now.depth) c.in-Ok-start_pass.table.budget.entries n.rows_read n.rows_written n.runs n.columns c.read_rows.new.table.groups.pairs c.into_groups.result.pairs told.read
    (ap (λ (b : Budget). b.entries) c.in-Ok-start_pass.ensures.budget) (ap (λ (x : MapView _). x.pairs) c.into_groups.ensures) (g.met.R.RowSource.own_live c.read_rows.new.source s told.source)
    c.in_ok-groups.groups (g.K.GroupSink.holds c.args.sink.now s) (partition_less hash c.args.pass.now.depth) c.args.pass.now.context.budget.some told.bound told.less_runs
    (λ kept. g.met.K.GroupSink.keeps_groups c.args.sink.now r s kept c.requires.sink) pushed.sent pushed.count pushed.entries
    (λ kept. g.met.R.RowSource.stays_ready c.read_rows.new.source s t kept told.source) pushed.sink told.made pushed.made
