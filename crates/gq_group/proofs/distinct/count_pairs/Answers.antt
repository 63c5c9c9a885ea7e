use Rattle.std.proofs.Common.{◌≡◌, ◌++◌, ◌+◌, List, length, Err, true, true≢false, sym, ap, subst, ◌∙◌, refl}
use Rattle.gq_group.specs.RunSources.{same_number}
use Rattle.gq_group.proofs.AccessLemmas.{leaves-refl}
use Rattle.std.specs.Prelude.{All, IsTrue}
use Rattle.std.proofs.lemmas.List.Elements.{recursion_from_All}
use Rattle.gq_row.specs.declared.value.Value.{Value}
use Rattle.gq_spill.specs.Reading.{Reading, Left}
use Rattle.gq_group.specs.Access.{HasCause}
use Rattle.gq_group.specs.Groups.{Spec, Group, Pushes, all_fit, out_of_range, keys_of}
use Rattle.gq_group.specs.declared.refusal.Refusal.{Refusal}
use Rattle.gq_group.proofs.OpenLemmas.{one_width}
use Rattle.gq_group.proofs.PairLemmas.{counts_fit, counts_range}
use Rattle.gq_group.proofs.PhaseLemmas.{cause-damaged, leaves-one, apart-run}
use Rattle.gq_group.proofs.distinct.count_pairs.Goals as goal

pub group-requires-clause-rows : goal.group-requires-clause-rows
group-requires-clause-rows g c = λ h rows left.
    let wide = subst (λ (r : Reading). All (λ (row : List Value). length row ≡ r.columns) rows) c.open.ensures left.widths in
    subst (λ (s : Spec). IsTrue (all_fit s rows)) (sym c.in-Ok.ensures) (counts_fit c.args.columns rows wide)

pub group-requires-clause-widths : goal.group-requires-clause-widths
group-requires-clause-widths g c = λ h rows left.
    one_width (c.args.columns + 1) rows (recursion_from_All (λ (row : List Value). length row ≡ c.args.columns + 1) rows (subst (λ (r : Reading). All (λ (row : List Value). length row ≡ r.columns) rows) c.open.ensures left.widths))

pub returns-in-Ok-group-clause-groups : goal.returns-in-Ok-group-clause-groups
returns-in-Ok-group-clause-groups g c = λ h pairs left before held.
    let runs = g.S.RunStore.runs in
    let given = subst (λ (r : Reading). Left r (runs c.args.store.now) pairs) (sym c.open.ensures) left in
    subst (λ (s : Spec). Pushes s pairs (λ (out : List Group). g.K.GroupSink.holds c.group.new.sink (runs c.group.new.store) (before ++ out))) c.in-Ok.ensures
    (c.in-Ok-group.ensures.groups h pairs given before held)

pub returns-clause-cause : goal.returns-clause-cause
returns-clause-cause g c =
    let runs = g.S.RunStore.runs in
    let r = runs c.args.store.now in
    let s = runs c.group.new.store in
    subst (λ (e : Refusal). HasCause e r s) (sym c.as_damaged.ensures)
    (cause-damaged c.in-Err.refusal r s c.in-Err.ensures.cause (λ is h.
    let known = c.requires.pairs h in
    let given = subst (λ (it : Reading). Left it r known.0) (sym c.open.ensures) known.1 in
    let over : out_of_range c.in-Ok.spec known.0 ≡ true = c.in-Err.ensures.overflow h (ap Err is) known.0 given in
    true≢false (sym over ∙ ap (λ (it : Spec). out_of_range it known.0) c.in-Ok.ensures ∙ counts_range c.args.columns known.0)))

pub returns-clause-others : goal.returns-clause-others
returns-clause-others g c =
    let was = c.open.result.tail.id.number in
    let new = c.group.new.source.reader.tail.id.number in
    leaves-one was new c.args.mark.id.number (g.K.GroupSink.owns c.args.sink.now) (g.K.GroupSink.owns c.group.new.sink) (g.S.RunStore.runs c.args.store.now) (g.S.RunStore.runs c.group.new.store) (ap (λ (x : Reading). x.tail.id.number) c.open.ensures) (c.in-Err.ensures.grows_source was (same_number was)) c.in-Err.ensures.others

pub returns-in-Ok-group-clause-count : goal.returns-in-Ok-group-clause-count
returns-in-Ok-group-clause-count g c = λ h pairs left.
    let given = subst (λ (r : Reading). Left r (g.S.RunStore.runs c.args.store.now) pairs) (sym c.open.ensures) left in
    let told = c.in-Ok-group.ensures.counts h pairs given in
    (told.0, told.1 ∙ ap (λ (it : Spec). length (keys_of it.by pairs)) c.in-Ok.ensures)

pub returns-in-Ok-group-clause-others : goal.returns-in-Ok-group-clause-others
returns-in-Ok-group-clause-others g c =
    let was = c.open.result.tail.id.number in
    let new = c.group.new.source.reader.tail.id.number in
    leaves-one was new c.args.mark.id.number (g.K.GroupSink.owns c.args.sink.now) (g.K.GroupSink.owns c.group.new.sink) (g.S.RunStore.runs c.args.store.now) (g.S.RunStore.runs c.group.new.store) (ap (λ (x : Reading). x.tail.id.number) c.open.ensures) (c.in-Ok-group.ensures.grows_source was (same_number was)) c.in-Ok-group.ensures.others

pub returns-in_default-clause-others : goal.returns-in_default-clause-others
returns-in_default-clause-others g c = leaves-refl _ _

pub returns-in_default-clause-apart : goal.returns-in_default-clause-apart
returns-in_default-clause-apart g c = c.requires.apart

pub returns-in_default-clause-grows : goal.returns-in_default-clause-grows
returns-in_default-clause-grows g c = λ run h. h

pub group-requires-clause-sink : goal.group-requires-clause-sink
group-requires-clause-sink g c = c.requires.sink

pub returns-in-Ok-group-clause-spills : goal.returns-in-Ok-group-clause-spills
returns-in-Ok-group-clause-spills g c = c.in-Ok-group.ensures.spills

pub returns-in-Ok-group-clause-made : goal.returns-in-Ok-group-clause-made
returns-in-Ok-group-clause-made g c = λ no. c.in-Ok-group.ensures.made refl no

pub returns-in-Ok-group-clause-grows : goal.returns-in-Ok-group-clause-grows
returns-in-Ok-group-clause-grows g c = c.in-Ok-group.ensures.grows_sink

pub returns-in-Ok-group-clause-sink : goal.returns-in-Ok-group-clause-sink
returns-in-Ok-group-clause-sink g c = c.in-Ok-group.ensures.sink

pub returns-clause-grows : goal.returns-clause-grows
returns-clause-grows g c = c.in-Err.ensures.grows_sink

pub returns-in-Ok-group-clause-apart : goal.returns-in-Ok-group-clause-apart
returns-in-Ok-group-clause-apart g c =
    let was = c.open.result.tail.id.number in
    let new = c.group.new.source.reader.tail.id.number in
    apart-run was new c.args.mark.id.number (g.K.GroupSink.owns c.group.new.sink) (ap (λ (x : Reading). x.tail.id.number) c.open.ensures) (c.in-Ok-group.ensures.grows_source was (same_number was)) c.in-Ok-group.ensures.apart

pub returns-clause-apart : goal.returns-clause-apart
returns-clause-apart g c =
    let was = c.open.result.tail.id.number in
    let new = c.group.new.source.reader.tail.id.number in
    apart-run was new c.args.mark.id.number (g.K.GroupSink.owns c.group.new.sink) (ap (λ (x : Reading). x.tail.id.number) c.open.ensures) (c.in-Err.ensures.grows_source was (same_number was)) c.in-Err.ensures.apart
