use Rattle.std.proofs.Common.{◌++◌, ◌∙◌, sym}
use Rattle.std.specs.List.{list_any}
use Rattle.std.proofs.lemmas.List.{length-map}
use Rattle.std.proofs.lemmas.List.Sorted.{list_any-IsPermutation}
use Rattle.gq_group.specs.Access.{KeepsOwn}
use Rattle.gq_group.specs.Groups.{groups, group_of, keys_of, is_none}
use Rattle.gq_group.specs.Passes.{AreRows}
use Rattle.gq_group.specs.Partitions.{among, Gone}
use Rattle.gq_group.proofs.AccessLemmas.{or_left, or_right}
use Rattle.gq_group.proofs.GoneLemmas.{leaves-gone}
use Rattle.gq_group.proofs.MapGroups.{on_ok, if_ok}
use Rattle.gq_group.proofs.PileLemmas.{piled-groups, piled-count, piled-spills}
use Rattle.gq_group.proofs.Results.{if_err, on_ok_from}
use Rattle.gq_group.proofs.Sending.{none_out}
use Rattle.gq_group.proofs.StackLemmas.{waits-end, gone-kept, gone-cause}
use Rattle.gq_group.proofs.grouping.group.Goals as goal

pub run_passes-outcome-requires-clause-rows : goal.run_passes-outcome-requires-clause-rows
run_passes-outcome-requires-clause-rows g c = λ h.
    let known = g.met.R.RowSource.has_rows c.args.source.now (g.S.RunStore.runs c.args.store.now) c.requires.source h in
    (known.0, known.1, (c.requires.rows h known.0 known.1, c.requires.widths h known.0 known.1))

pub returns-clause-groups : goal.returns-clause-groups
returns-clause-groups g c = λ h.
    let r = g.S.RunStore.runs c.args.store.now in
    let s = g.S.RunStore.runs c.run_passes-outcome.new.store in
    let t = g.S.RunStore.runs c.discard_all.new.store in
    let stack = c.run_passes-outcome.new.stack.items in
    let told = c.run_passes-outcome.ensures in
    let gone : Gone (among stack) s t = c.discard_all.ensures.gone in
    let a' = g.R.RowSource.owns c.run_passes-outcome.new.source in
    let k' = g.K.GroupSink.owns c.run_passes-outcome.new.sink in
    let spec = c.args.spec.now in
    let budget = c.args.budget.entries in
    let kept : KeepsOwn k' s t = gone-kept k' (among stack) s t gone (λ run i. or_right (a' run) (k' run) (told.stack.apart run i)) in
    on_ok_from _ _ _ c.run_passes-outcome.result told.sink
    (λ spent ready w rows b before held.
    let are : AreRows spec rows = (c.requires.rows h rows b, c.requires.widths h rows b) in
    let waits = w.1 rows b are in (
      waits.out,
      piled-groups spec budget rows waits.out spent.rows_written spent.runs (waits-end spec budget rows w.0 s spent _ waits),
      g.met.K.GroupSink.keeps_groups c.run_passes-outcome.new.sink s t kept ready (told.stack.others.same_honest ∙ h) (before ++ waits.out) (waits.pushed before held),
    ))
    (told.waits h)

pub returns-clause-counts : goal.returns-clause-counts
returns-clause-counts g c = λ h.
    let r = g.S.RunStore.runs c.args.store.now in
    let s = g.S.RunStore.runs c.run_passes-outcome.new.store in
    let t = g.S.RunStore.runs c.discard_all.new.store in
    let stack = c.run_passes-outcome.new.stack.items in
    let told = c.run_passes-outcome.ensures in
    let gone : Gone (among stack) s t = c.discard_all.ensures.gone in
    let spec = c.args.spec.now in
    let budget = c.args.budget.entries in
    if_ok _ _ c.run_passes-outcome.result
    (λ spent w rows b.
    let are : AreRows spec rows = (c.requires.rows h rows b, c.requires.widths h rows b) in
    let waits = w.1 rows b are in
    let count = piled-count spec budget rows waits.out spent.rows_written spent.runs (waits-end spec budget rows w.0 s spent _ waits) in
    (waits.read, waits.sent ∙ sym count ∙ length-map (keys_of spec.by rows) (group_of spec rows)))
    (told.waits h)

pub returns-clause-spills : goal.returns-clause-spills
returns-clause-spills g c = λ h.
    let r = g.S.RunStore.runs c.args.store.now in
    let s = g.S.RunStore.runs c.run_passes-outcome.new.store in
    let t = g.S.RunStore.runs c.discard_all.new.store in
    let stack = c.run_passes-outcome.new.stack.items in
    let told = c.run_passes-outcome.ensures in
    let gone : Gone (among stack) s t = c.discard_all.ensures.gone in
    let spec = c.args.spec.now in
    let budget = c.args.budget.entries in
    let known = g.met.R.RowSource.has_rows c.args.source.now r c.requires.source h in
    let are : AreRows spec known.0 = (c.requires.rows h known.0 known.1, c.requires.widths h known.0 known.1) in
    if_ok _ _ c.run_passes-outcome.result
    (λ spent w.
    let waits = w.1 known.0 known.1 are in
    piled-spills spec budget known.0 waits.out spent c.args.budget.some (waits-end spec budget known.0 w.0 s spent _ waits) waits.read waits.sent)
    (told.waits h)

pub returns-clause-no_overflow : goal.returns-clause-no_overflow
returns-clause-no_overflow g c = λ h.
    let r = g.S.RunStore.runs c.args.store.now in
    let s = g.S.RunStore.runs c.run_passes-outcome.new.store in
    let t = g.S.RunStore.runs c.discard_all.new.store in
    let stack = c.run_passes-outcome.new.stack.items in
    let told = c.run_passes-outcome.ensures in
    let gone : Gone (among stack) s t = c.discard_all.ensures.gone in
    let spec = c.args.spec.now in
    let budget = c.args.budget.entries in
    on_ok_from _ _ _ c.run_passes-outcome.result told.sink
    (λ spent ready w rows b.
    let are : AreRows spec rows = (c.requires.rows h rows b, c.requires.widths h rows b) in
    let waits = w.1 rows b are in
    list_any-IsPermutation (λ x. list_any is_none x.1) (groups spec rows) _ (piled-groups spec budget rows waits.out spent.rows_written spent.runs (waits-end spec budget rows w.0 s spent _ waits)) ∙ none_out waits.out)
    (told.waits h)

pub returns-clause-overflow : goal.returns-clause-overflow
returns-clause-overflow g c = λ h e rows b.
    c.run_passes-outcome.ensures.overflow e h rows b (c.requires.rows h rows b, c.requires.widths h rows b)

pub returns-clause-made : goal.returns-clause-made
returns-clause-made g c = λ none no.
    if_ok _ _ c.run_passes-outcome.result (λ spent made. c.discard_all.ensures.gone.same_made ∙ made) (c.run_passes-outcome.ensures.made none no)

pub returns-clause-others : goal.returns-clause-others
returns-clause-others g c =
    let r = g.S.RunStore.runs c.args.store.now in
    let s = g.S.RunStore.runs c.run_passes-outcome.new.store in
    let t = g.S.RunStore.runs c.discard_all.new.store in
    let stack = c.run_passes-outcome.new.stack.items in
    let told = c.run_passes-outcome.ensures in
    let gone : Gone (among stack) s t = c.discard_all.ensures.gone in
    leaves-gone _ _ (among stack) r s t told.stack.others told.stack.grows told.stack.apart gone

pub returns-clause-source : goal.returns-clause-source
returns-clause-source g c =
    let r = g.S.RunStore.runs c.args.store.now in
    let s = g.S.RunStore.runs c.run_passes-outcome.new.store in
    let t = g.S.RunStore.runs c.discard_all.new.store in
    let stack = c.run_passes-outcome.new.stack.items in
    let told = c.run_passes-outcome.ensures in
    let gone : Gone (among stack) s t = c.discard_all.ensures.gone in
    let a' = g.R.RowSource.owns c.run_passes-outcome.new.source in
    let k' = g.K.GroupSink.owns c.run_passes-outcome.new.sink in
    on_ok _ _ c.run_passes-outcome.result (λ ready. g.met.R.RowSource.stays_ready c.run_passes-outcome.new.source s t (gone-kept a' (among stack) s t gone (λ run i. or_left (a' run) (k' run) (told.stack.apart run i))) ready) told.source

pub returns-clause-sink : goal.returns-clause-sink
returns-clause-sink g c =
    let r = g.S.RunStore.runs c.args.store.now in
    let s = g.S.RunStore.runs c.run_passes-outcome.new.store in
    let t = g.S.RunStore.runs c.discard_all.new.store in
    let stack = c.run_passes-outcome.new.stack.items in
    let told = c.run_passes-outcome.ensures in
    let gone : Gone (among stack) s t = c.discard_all.ensures.gone in
    let a' = g.R.RowSource.owns c.run_passes-outcome.new.source in
    let k' = g.K.GroupSink.owns c.run_passes-outcome.new.sink in
    on_ok _ _ c.run_passes-outcome.result (λ ready. g.met.K.GroupSink.stays_ready c.run_passes-outcome.new.sink s t (gone-kept k' (among stack) s t gone (λ run i. or_right (a' run) (k' run) (told.stack.apart run i))) ready) told.sink

pub returns-clause-cause : goal.returns-clause-cause
returns-clause-cause g c =
    let r = g.S.RunStore.runs c.args.store.now in
    let s = g.S.RunStore.runs c.run_passes-outcome.new.store in
    let t = g.S.RunStore.runs c.discard_all.new.store in
    let stack = c.run_passes-outcome.new.stack.items in
    let told = c.run_passes-outcome.ensures in
    let gone : Gone (among stack) s t = c.discard_all.ensures.gone in
    if_err _ _ c.run_passes-outcome.result (λ e why. gone-cause e (among stack) r s t gone why) told.cause
