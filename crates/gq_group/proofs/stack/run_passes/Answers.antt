use Rattle.std.proofs.Common.{◌++◌, ◌∷◌, [], sym, ◌∙◌, arith}
use Rattle.std.proofs.lemmas.List.{nil_from_length}
use Rattle.gq_group.proofs.Results.{appended}
use Rattle.gq_group.proofs.StackLemmas.{on_top, popped-from, top-apart, top-few, top-live, work-read, work-skip}
use Rattle.gq_group.proofs.StackingLemmas.{passes-done, passes-first, passes-full, passes-stopped, room, shrunk, so_far-first, so_far-read, so_far-skip}
use Rattle.gq_group.proofs.stack.run_passes.Goals as goal

pub run_pass-requires-clause-source : goal.run_pass-requires-clause-source
run_pass-requires-clause-source g c = c.requires.source

pub run_pass-requires-clause-sink : goal.run_pass-requires-clause-sink
run_pass-requires-clause-sink g c = c.requires.sink

pub run_pass-requires-clause-apart : goal.run_pass-requires-clause-apart
run_pass-requires-clause-apart g c = c.requires.apart

pub run_pass-requires-clause-few : goal.run_pass-requires-clause-few
run_pass-requires-clause-few g c = c.requires.few

pub run_pass-requires-clause-rows : goal.run_pass-requires-clause-rows
run_pass-requires-clause-rows g c = c.requires.rows

pub run_pass-requires-clause-none : goal.run_pass-requires-clause-none
run_pass-requires-clause-none g c = c.requires.none

pub runs-init : goal.runs-init
runs-init g c =
    so_far-first c.args.spec.now c.args.context.budget.entries (g.R.RowSource.bound c.args.source.now) _ _ _ _ _ _ _ (g.S.RunStore.runs c.args.store.now) _ _ _ _ (g.S.RunStore.runs c.run_pass.new.store) c.run_pass.new.partitions.items c.in_ok-first.first
    c.requires.few c.args.context.budget.some c.args.context.budget.few c.in_ok-first.ensures

pub returns-in_err-first : goal.returns-in_err-first
returns-in_err-first g c =
    passes-first c.args.spec.now c.args.context.budget.entries (g.R.RowSource.bound c.args.source.now) _ _ _ _ _ _ _ (g.S.RunStore.runs c.args.store.now) _ _ _ _ (g.S.RunStore.runs c.run_pass.new.store) c.run_pass.new.partitions.items
    c.from_residual.result c.in_err-first.field-0.0 c.from_residual.ensures.1 c.in_err-first.ensures

pub returns-in_default : goal.returns-in_default
returns-in_default g c =
    passes-full c.args.spec.now c.args.context.budget.entries _ _ _ _ _ _ _ _ _ _ _ _ _ _ c.in_ok-first.first.columns c.runs.stack.items _ c.runs.invariant c.reserve.new.self.items c.reserve.ensures.items

pub returns : goal.returns
returns g c =
    let was = nil_from_length c.reserve.new.self.items (omega (arith, c.in_default-pop.ensures.cases)) in
    passes-done c.args.spec.now c.args.context.budget.entries _ _ _ _ _ _ _ _ _ _ _ _ _ _ c.in_ok-first.first.columns c.runs.stack.items _ c.runs.invariant c.pop.new.self.items
    (popped-from c.runs.stack.items c.reserve.new.self.items [] c.reserve.ensures.items was) (nil_from_length c.pop.new.self.items (omega (arith, c.in_default-pop.ensures.cases)))

pub read_run-outcome-requires-clause-live : goal.read_run-outcome-requires-clause-live
read_run-outcome-requires-clause-live g c =
    top-live c.runs.stack.items c.pop.new.self.items c.in-Some.partition c.in-Some-writer.writer (g.S.RunStore.runs c.runs.store) (popped-from c.runs.stack.items c.reserve.new.self.items (c.pop.new.self.items ++ c.in-Some.partition ∷ []) c.reserve.ensures.items c.in-Some.ensures.items) c.in-Some-writer.is c.runs.invariant.on.ours

pub read_run-outcome-requires-clause-few : goal.read_run-outcome-requires-clause-few
read_run-outcome-requires-clause-few g c =
    top-few c.runs.stack.items c.pop.new.self.items c.in-Some.partition c.in-Some-writer.writer (popped-from c.runs.stack.items c.reserve.new.self.items (c.pop.new.self.items ++ c.in-Some.partition ∷ []) c.reserve.ensures.items c.in-Some.ensures.items) c.in-Some-writer.is c.runs.invariant.counts.few

pub read_run-outcome-requires-clause-sink : goal.read_run-outcome-requires-clause-sink
read_run-outcome-requires-clause-sink g c = c.runs.invariant.sink

pub read_run-outcome-requires-clause-apart : goal.read_run-outcome-requires-clause-apart
read_run-outcome-requires-clause-apart g c =
    top-apart c.runs.stack.items c.pop.new.self.items c.in-Some.partition c.in-Some-writer.writer (g.R.RowSource.owns c.run_pass.new.source) (g.K.GroupSink.owns c.runs.sink)
    (popped-from c.runs.stack.items c.reserve.new.self.items (c.pop.new.self.items ++ c.in-Some.partition ∷ []) c.reserve.ensures.items c.in-Some.ensures.items) c.in-Some-writer.is c.runs.invariant.on.apart

pub read_run-outcome-requires-clause-rows : goal.read_run-outcome-requires-clause-rows
read_run-outcome-requires-clause-rows g c = λ h.
    let before = sym c.runs.invariant.on.others.same_honest ∙ h in
    let known = c.requires.rows before in
    let top = on_top c.args.spec.now c.args.context.budget.entries known.0 c.in_ok-first.first.columns c.runs.stack.items c.pop.new.self.items c.in-Some.partition c.in-Some-writer.writer
    (g.S.RunStore.runs c.runs.store) _ _ (popped-from c.runs.stack.items c.reserve.new.self.items (c.pop.new.self.items ++ c.in-Some.partition ∷ []) c.reserve.ensures.items c.in-Some.ensures.items) c.in-Some-writer.is (c.runs.invariant.waits before known.0 known.1 known.2) in
    (top.part, top.has, top.fit)

pub read_run-outcome-requires-clause-none : goal.read_run-outcome-requires-clause-none
read_run-outcome-requires-clause-none g c = c.new-partitions.ensures.items

pub runs-preserved : goal.runs-preserved
runs-preserved g c =
    so_far-skip c.args.spec.now c.args.context.budget.entries _ _ _ _ _ _ _ _ _ _ _ _ _ _ c.in_ok-first.first.columns c.runs.stack.items _ c.runs.invariant c.pop.new.self.items c.in-Some.partition
    (popped-from c.runs.stack.items c.reserve.new.self.items (c.pop.new.self.items ++ c.in-Some.partition ∷ []) c.reserve.ensures.items c.in-Some.ensures.items) c.in_default-writer.is

pub runs-preserved-in-Some-writer : goal.runs-preserved-in-Some-writer
runs-preserved-in-Some-writer g c =
    let t = g.S.RunStore.runs c.read_run-outcome.new.store in
    let sink = c.read_run-outcome.new.sink in
    let s = g.S.RunStore.runs c.runs.store in
    let told = c.read_run-outcome.ensures in
    let front = c.pop.new.self.items in
    let partitions = c.read_run-outcome.new.partitions.items in
    let source = c.run_pass.new.source in
    let fits = c.append.ensures.succeeds (omega (arith, c.in-Ok.ensures.ok, c.pop.ensures.capacity, c.pop.ensures.len, told.places)) in
    so_far-read c.args.spec.now c.args.context.budget.entries _ _ _ _ _ _ _ _ _ _ _ _ _ s c.in_ok-first.first.columns c.runs.stack.items _ c.runs.invariant front partitions c.in-Some.partition c.in-Some-writer.writer
    (popped-from c.runs.stack.items c.reserve.new.self.items (c.pop.new.self.items ++ c.in-Some.partition ∷ []) c.reserve.ensures.items c.in-Some.ensures.items) c.in-Some-writer.is (g.K.GroupSink.holds sink t) (g.K.GroupSink.owns sink) (g.K.GroupSink.is_ready sink t) t c.read_run-outcome.result told
    c.append.new.self.items (appended c.append.result _ front partitions fits c.append.ensures.items) (g.met.R.RowSource.own_live source s c.runs.invariant.source)
    (g.R.RowSource.is_ready source t) c.in_ok-done.done c.args.context.budget.some c.args.context.budget.few c.in_ok-done.was (λ kept. g.met.R.RowSource.stays_ready source s t kept c.runs.invariant.source)

pub runs-smaller : goal.runs-smaller
runs-smaller g c = work-skip c.runs.stack.items c.pop.new.self.items c.in-Some.partition (popped-from c.runs.stack.items c.reserve.new.self.items (c.pop.new.self.items ++ c.in-Some.partition ∷ []) c.reserve.ensures.items c.in-Some.ensures.items) c.in_default-writer.is

pub runs-smaller-in-Some-writer : goal.runs-smaller-in-Some-writer
runs-smaller-in-Some-writer g c =
    let t = g.S.RunStore.runs c.read_run-outcome.new.store in
    let sink = c.read_run-outcome.new.sink in
    let told = c.read_run-outcome.ensures in
    let front = c.pop.new.self.items in
    let partitions = c.read_run-outcome.new.partitions.items in
    let fits = c.append.ensures.succeeds (omega (arith, c.in-Ok.ensures.ok, c.pop.ensures.capacity, c.pop.ensures.len, told.places)) in
    work-read c.runs.stack.items c.append.new.self.items c.in_ok-done.done
    (shrunk c.args.spec.now c.args.context.budget.entries _ _ _ _ _ _ _ _ _ _ _ _ _ _ c.in_ok-first.first.columns c.runs.stack.items _ c.runs.invariant front partitions c.in-Some.partition c.in-Some-writer.writer
    (popped-from c.runs.stack.items c.reserve.new.self.items (c.pop.new.self.items ++ c.in-Some.partition ∷ []) c.reserve.ensures.items c.in-Some.ensures.items) c.in-Some-writer.is (g.K.GroupSink.holds sink t) (g.K.GroupSink.owns sink) (g.K.GroupSink.is_ready sink t) t c.read_run-outcome.result told
    c.append.new.self.items (appended c.append.result _ front partitions fits c.append.ensures.items) c.in_ok-done.done c.in_ok-done.was)

pub returns-in_err-done : goal.returns-in_err-done
returns-in_err-done g c =
    let t = g.S.RunStore.runs c.read_run-outcome.new.store in
    let sink = c.read_run-outcome.new.sink in
    let s = g.S.RunStore.runs c.runs.store in
    let told = c.read_run-outcome.ensures in
    let front = c.pop.new.self.items in
    let partitions = c.read_run-outcome.new.partitions.items in
    let source = c.run_pass.new.source in
    let fits = c.append.ensures.succeeds (omega (arith, c.in-Ok.ensures.ok, c.pop.ensures.capacity, c.pop.ensures.len, told.places)) in
    passes-stopped c.args.spec.now c.args.context.budget.entries _ _ _ _ _ _ _ _ _ _ _ _ _ s c.in_ok-first.first.columns c.runs.stack.items _ c.runs.invariant front partitions c.in-Some.partition c.in-Some-writer.writer
    (popped-from c.runs.stack.items c.reserve.new.self.items (c.pop.new.self.items ++ c.in-Some.partition ∷ []) c.reserve.ensures.items c.in-Some.ensures.items) c.in-Some-writer.is (g.K.GroupSink.holds sink t) (g.K.GroupSink.owns sink) (g.K.GroupSink.is_ready sink t) t c.read_run-outcome.result told
    c.append.new.self.items (appended c.append.result _ front partitions fits c.append.ensures.items) (g.met.R.RowSource.own_live source s c.runs.invariant.source)
    (g.R.RowSource.is_ready source t) c.from_residual-in_err-done.result c.in_err-done.field-0.0 c.from_residual-in_err-done.ensures.1 c.in_err-done.was

pub overflow_add-rows_written : goal.overflow_add-rows_written
overflow_add-rows_written g c =
    let t = g.S.RunStore.runs c.read_run-outcome.new.store in
    let sink = c.read_run-outcome.new.sink in
    let all = room c.args.spec.now c.args.context.budget.entries _ _ _ _ _ _ _ _ _ _ _ _ _ _ c.in_ok-first.first.columns c.runs.stack.items _ c.runs.invariant c.pop.new.self.items c.read_run-outcome.new.partitions.items c.in-Some.partition c.in-Some-writer.writer
    (popped-from c.runs.stack.items c.reserve.new.self.items (c.pop.new.self.items ++ c.in-Some.partition ∷ []) c.reserve.ensures.items c.in-Some.ensures.items) c.in-Some-writer.is (g.K.GroupSink.holds sink t) (g.K.GroupSink.owns sink) (g.K.GroupSink.is_ready sink t) t c.read_run-outcome.result c.read_run-outcome.ensures c.in_ok-done.done c.args.context.budget.few c.in_ok-done.was in
    all.for_rows

pub overflow_add-groups : goal.overflow_add-groups
overflow_add-groups g c =
    let t = g.S.RunStore.runs c.read_run-outcome.new.store in
    let sink = c.read_run-outcome.new.sink in
    let all = room c.args.spec.now c.args.context.budget.entries _ _ _ _ _ _ _ _ _ _ _ _ _ _ c.in_ok-first.first.columns c.runs.stack.items _ c.runs.invariant c.pop.new.self.items c.read_run-outcome.new.partitions.items c.in-Some.partition c.in-Some-writer.writer
    (popped-from c.runs.stack.items c.reserve.new.self.items (c.pop.new.self.items ++ c.in-Some.partition ∷ []) c.reserve.ensures.items c.in-Some.ensures.items) c.in-Some-writer.is (g.K.GroupSink.holds sink t) (g.K.GroupSink.owns sink) (g.K.GroupSink.is_ready sink t) t c.read_run-outcome.result c.read_run-outcome.ensures c.in_ok-done.done c.args.context.budget.few c.in_ok-done.was in
    all.for_groups

pub overflow_add-runs : goal.overflow_add-runs
overflow_add-runs g c =
    let t = g.S.RunStore.runs c.read_run-outcome.new.store in
    let sink = c.read_run-outcome.new.sink in
    let all = room c.args.spec.now c.args.context.budget.entries _ _ _ _ _ _ _ _ _ _ _ _ _ _ c.in_ok-first.first.columns c.runs.stack.items _ c.runs.invariant c.pop.new.self.items c.read_run-outcome.new.partitions.items c.in-Some.partition c.in-Some-writer.writer
    (popped-from c.runs.stack.items c.reserve.new.self.items (c.pop.new.self.items ++ c.in-Some.partition ∷ []) c.reserve.ensures.items c.in-Some.ensures.items) c.in-Some-writer.is (g.K.GroupSink.holds sink t) (g.K.GroupSink.owns sink) (g.K.GroupSink.is_ready sink t) t c.read_run-outcome.result c.read_run-outcome.ensures c.in_ok-done.done c.args.context.budget.few c.in_ok-done.was in
    all.for_runs
