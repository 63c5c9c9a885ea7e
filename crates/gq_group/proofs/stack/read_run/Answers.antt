use Rattle.std.proofs.Common.{◌≡◌, sym, ap, subst, ◌∙◌}
use Rattle.gq_spill.specs.Reading.{Left, opened}
use Rattle.gq_spill.specs.declared.run_mark.RunMark.{RunMark}
use Rattle.gq_group.specs.RunSources.{IsReady}
use Rattle.gq_group.proofs.OpenLemmas.{left-open, rows-fit, ready-open}
use Rattle.gq_group.proofs.StackingLemmas.{run-read}
use Rattle.gq_group.proofs.stack.read_run.Goals as goal

pub run_pass-outcome-requires-clause-source : goal.run_pass-outcome-requires-clause-source
run_pass-outcome-requires-clause-source g c =
    let runs = g.S.RunStore.runs c.args.store.now in
    let w = c.args.writer in
    let is : c.open.result ≡ opened w.mark c.args.columns = c.open.ensures ∙ ap (λ (m : RunMark). opened m c.args.columns) c.finish-mark.ensures in
    subst (λ r. IsReady r runs) (sym is) (ready-open c.args.pass.now.spec.now w c.args.columns runs c.requires.live c.requires.rows)

pub run_pass-outcome-requires-clause-rows : goal.run_pass-outcome-requires-clause-rows
run_pass-outcome-requires-clause-rows g c = λ h.
    let runs = g.S.RunStore.runs c.args.store.now in
    let w = c.args.writer in
    let is : c.open.result ≡ opened w.mark c.args.columns = c.open.ensures ∙ ap (λ (m : RunMark). opened m c.args.columns) c.finish-mark.ensures in
    let k = c.requires.rows h in
    (k.0, subst (λ r. Left r runs k.0) (sym is) (left-open c.args.pass.now.spec.now w c.args.columns runs k.0 h k.1 k.2), rows-fit c.args.pass.now.spec.now c.args.columns k.0 k.2)

pub returns : goal.returns
returns g c =
    let s = g.S.RunStore.runs c.run_pass-outcome.new.store in
    let t = g.S.RunStore.runs c.discard.new.self in
    let sink = c.run_pass-outcome.new.sink in
    run-read c.args.pass.now.spec.now c.args.pass.now.context.budget.entries c.args.columns c.args.writer _ (g.K.GroupSink.holds sink s) (g.K.GroupSink.holds sink t) (g.K.GroupSink.owns c.args.sink.now) (g.K.GroupSink.owns sink)
    (g.K.GroupSink.is_ready sink s) (g.K.GroupSink.is_ready sink t) g.K.GroupSink.makes_runs (g.S.RunStore.runs c.args.store.now) s t c.run_pass-outcome.new.partitions.items c.run_pass-outcome.result
    c.finish-mark.result c.open.result c.run_pass-outcome.new.source.reader c.finish-mark.ensures c.open.ensures c.run_pass-outcome.ensures c.discard.ensures
    (λ kept. g.met.K.GroupSink.stays_ready sink s t kept) (λ kept ready. g.met.K.GroupSink.keeps_groups sink s t kept ready)
