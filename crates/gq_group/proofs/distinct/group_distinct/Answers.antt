use Rattle.std.proofs.Common.{◌++◌, sym, subst, ◌∙◌, arith}
use Rattle.std.proofs.lemmas.Grind.{common_steps}
use Rattle.gq_spill.specs.declared.store.RunId.{RunId}
use Rattle.gq_group.specs.Access.{KeepsOwn}
use Rattle.gq_group.specs.RunSources.{only, same_number}
use Rattle.gq_group.specs.Partitions.{Gone}
use Rattle.gq_group.proofs.AccessLemmas.{keeps-apart}
use Rattle.gq_group.proofs.GoneLemmas.{gone-one, gone-keeps}
use Rattle.gq_group.proofs.MapGroups.{on_ok, if_ok}
use Rattle.gq_group.proofs.PhaseLemmas.{none_apart, apart-one, apart-other, keeps-back, on_ok_both}
use Rattle.gq_group.proofs.distinct.group_distinct.Goals as goal

pub count_in_run-outcome-requires-clause-rows : goal.count_in_run-outcome-requires-clause-rows
count_in_run-outcome-requires-clause-rows g c = λ honest rows given.
    let runs = g.S.RunStore.runs in
    let r = runs c.args.store.now in
    let s = runs c.begin.new.store in
    let step = c.in_ok-keys.ensures.others in
    let h = sym step.same_honest ∙ honest in
    let a = g.R.RowSource.owns c.args.source.now in
    let kept : KeepsOwn a r s = keeps-apart _ _ a r s step (none_apart a) (g.met.R.RowSource.own_live c.args.source.now r c.requires.source) in
    let ready = g.met.R.RowSource.stays_ready c.args.source.now r s kept c.requires.source in
    c.requires.rows h rows (g.met.R.RowSource.keeps_rows c.args.source.now s r (keeps-back a r s kept) ready honest rows given)

pub count_in_run-outcome-requires-clause-widths : goal.count_in_run-outcome-requires-clause-widths
count_in_run-outcome-requires-clause-widths g c = λ honest rows given.
    let runs = g.S.RunStore.runs in
    let r = runs c.args.store.now in
    let s = runs c.begin.new.store in
    let step = c.in_ok-keys.ensures.others in
    let h = sym step.same_honest ∙ honest in
    let a = g.R.RowSource.owns c.args.source.now in
    let kept : KeepsOwn a r s = keeps-apart _ _ a r s step (none_apart a) (g.met.R.RowSource.own_live c.args.source.now r c.requires.source) in
    let ready = g.met.R.RowSource.stays_ready c.args.source.now r s kept c.requires.source in
    c.requires.widths h rows (g.met.R.RowSource.keeps_rows c.args.source.now s r (keeps-back a r s kept) ready honest rows given)

pub returns-clause-groups : goal.returns-clause-groups
returns-clause-groups g c = λ h.
    let runs = g.S.RunStore.runs in
    let r = runs c.args.store.now in
    let s = runs c.begin.new.store in
    let t = runs c.count_in_run-outcome.new.store in
    let u = runs c.discard.new.self in
    let n = c.in_ok-keys.keys.writer.mark.id.number in
    let step = c.in_ok-keys.ensures.others in
    let phases = c.count_in_run-outcome.ensures in
    let a = g.R.RowSource.owns c.args.source.now in
    let k = g.K.GroupSink.owns c.args.sink.now in
    let b = g.R.RowSource.owns c.count_in_run-outcome.new.source in
    let l = g.K.GroupSink.owns c.count_in_run-outcome.new.sink in
    let kept_source : KeepsOwn a r s = keeps-apart _ _ a r s step (none_apart a) (g.met.R.RowSource.own_live c.args.source.now r c.requires.source) in
    let kept_sink : KeepsOwn k r s = keeps-apart _ _ k r s step (none_apart k) (g.met.K.GroupSink.own_live c.args.sink.now r c.requires.sink) in
    let gone : Gone (only n) t u = subst (λ (id : RunId). Gone (only id.number) t u) c.run-run.ensures (gone-one c.run-run.result.number t u c.discard.ensures) in
    let kept : KeepsOwn l t u = gone-keeps l n t u gone (apart-other (only n) b l phases.apart n (same_number n)) in
    let now = step.same_honest ∙ h in
    on_ok_both _ _ _ c.count_in_run-outcome.result (phases.groups now) phases.sink (λ told ready rows given before held.
    let given' = g.met.R.RowSource.keeps_rows c.args.source.now r s kept_source c.requires.source h rows given in
    let held' = g.met.K.GroupSink.keeps_groups c.args.sink.now r s kept_sink c.requires.sink h before held in
    let it = told rows given' before held' in
    (it.0, it.1, g.met.K.GroupSink.keeps_groups c.count_in_run-outcome.new.sink t u kept ready (phases.others.same_honest ∙ now) (before ++ it.0) it.2))

pub returns-clause-others : goal.returns-clause-others
returns-clause-others g c = grind (arith, common_steps)

pub count_in_run-outcome-requires-clause-source : goal.count_in_run-outcome-requires-clause-source
count_in_run-outcome-requires-clause-source g c =
    let runs = g.S.RunStore.runs in
    let r = runs c.args.store.now in
    let s = runs c.begin.new.store in
    let step = c.in_ok-keys.ensures.others in
    let a = g.R.RowSource.owns c.args.source.now in
    let kept : KeepsOwn a r s = keeps-apart _ _ a r s step (none_apart a) (g.met.R.RowSource.own_live c.args.source.now r c.requires.source) in
    g.met.R.RowSource.stays_ready c.args.source.now r s kept c.requires.source

pub count_in_run-outcome-requires-clause-sink : goal.count_in_run-outcome-requires-clause-sink
count_in_run-outcome-requires-clause-sink g c =
    let runs = g.S.RunStore.runs in
    let r = runs c.args.store.now in
    let s = runs c.begin.new.store in
    let step = c.in_ok-keys.ensures.others in
    let k = g.K.GroupSink.owns c.args.sink.now in
    let kept : KeepsOwn k r s = keeps-apart _ _ k r s step (none_apart k) (g.met.K.GroupSink.own_live c.args.sink.now r c.requires.sink) in
    g.met.K.GroupSink.stays_ready c.args.sink.now r s kept c.requires.sink

pub returns-clause-source : goal.returns-clause-source
returns-clause-source g c =
    let runs = g.S.RunStore.runs in
    let t = runs c.count_in_run-outcome.new.store in
    let u = runs c.discard.new.self in
    let n = c.in_ok-keys.keys.writer.mark.id.number in
    let phases = c.count_in_run-outcome.ensures in
    let b = g.R.RowSource.owns c.count_in_run-outcome.new.source in
    let l = g.K.GroupSink.owns c.count_in_run-outcome.new.sink in
    let gone : Gone (only n) t u = subst (λ (id : RunId). Gone (only id.number) t u) c.run-run.ensures (gone-one c.run-run.result.number t u c.discard.ensures) in
    let kept : KeepsOwn b t u = gone-keeps b n t u gone (apart-one (only n) b l phases.apart n (same_number n)) in
    on_ok _ _ c.count_in_run-outcome.result (g.met.R.RowSource.stays_ready c.count_in_run-outcome.new.source t u kept) phases.source

pub returns-clause-sink : goal.returns-clause-sink
returns-clause-sink g c =
    let runs = g.S.RunStore.runs in
    let t = runs c.count_in_run-outcome.new.store in
    let u = runs c.discard.new.self in
    let n = c.in_ok-keys.keys.writer.mark.id.number in
    let phases = c.count_in_run-outcome.ensures in
    let b = g.R.RowSource.owns c.count_in_run-outcome.new.source in
    let l = g.K.GroupSink.owns c.count_in_run-outcome.new.sink in
    let gone : Gone (only n) t u = subst (λ (id : RunId). Gone (only id.number) t u) c.run-run.ensures (gone-one c.run-run.result.number t u c.discard.ensures) in
    let kept : KeepsOwn l t u = gone-keeps l n t u gone (apart-other (only n) b l phases.apart n (same_number n)) in
    on_ok _ _ c.count_in_run-outcome.result (g.met.K.GroupSink.stays_ready c.count_in_run-outcome.new.sink t u kept) phases.sink

pub returns-clause-counts : goal.returns-clause-counts
returns-clause-counts g c =
    let runs = g.S.RunStore.runs in
    let r = runs c.args.store.now in
    let s = runs c.begin.new.store in
    let step = c.in_ok-keys.ensures.others in
    let a = g.R.RowSource.owns c.args.source.now in
    let kept : KeepsOwn a r s = keeps-apart _ _ a r s step (none_apart a) (g.met.R.RowSource.own_live c.args.source.now r c.requires.source) in
    λ h. if_ok _ _ c.count_in_run-outcome.result (λ spent told rows given. told rows (g.met.R.RowSource.keeps_rows c.args.source.now r s kept c.requires.source h rows given)) (c.count_in_run-outcome.ensures.counts (step.same_honest ∙ h))
