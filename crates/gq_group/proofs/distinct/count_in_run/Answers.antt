use Rattle.std.proofs.Common.{◌≡◌, ◌++◌, [], List, length, Err, true, true≢false, arith, sym, ap, subst, ◌∙◌, refl}
use Rattle.std.specs.Prelude.{IsTrue}
use Rattle.std.proofs.lemmas.Grind.{common_steps}
use Rattle.gq_spill.specs.declared.run_mark.RunMark.{RunMark}
use Rattle.gq_group.specs.Access.{either, Apart, HasCause}
use Rattle.gq_group.specs.Groups.{Spec, Group, all_fit, keys_of, out_of_range}
use Rattle.gq_group.specs.RunSources.{only}
use Rattle.gq_group.specs.declared.refusal.Refusal.{Refusal}
use Rattle.gq_group.specs.declared.refusal.Refusal.TheVariants.{Memory, Damaged}
use Rattle.gq_group.proofs.AccessLemmas.{apart-later, keeps-apart, leaves-refl}
use Rattle.gq_group.proofs.FirstLemmas.{Pairing}
use Rattle.gq_group.proofs.PairLemmas.{pairs_fit, pairs_range, between, left_between, few_between, as_many_keys, both_pushed, both_counted}
use Rattle.gq_group.proofs.PhaseLemmas.{counted-refused, cause-damaged, cause-later, cause-memory, leaves-phases, apart-both, apart-either, apart-grown, apart-one, either-grows, made_twice, ok_anyway, if_ok_both, same_run, taken_twice}
use Rattle.gq_group.proofs.ReadLemmas.{apart-flip}
use Rattle.gq_group.proofs.distinct.count_in_run.Goals as goal

pub returns-in_default : goal.returns-in_default
returns-in_default g c =
    let r = g.S.RunStore.runs c.args.store.now in
    let a = g.R.RowSource.owns c.args.source.now in
    let k = g.K.GroupSink.owns c.args.sink.now in
    let n = c.args.keys.writer.mark.id.number in
    counted-refused c.args.asked.now.by.now c.args.asked.now.column c.args.context.budget.entries n _ _ _ a a k k _ _ _ _ r r _ Memory refl
    (leaves-refl _ _) (apart-either (only n) a k (apart-flip a (only n) c.requires.apart_source) c.requires.apart_sink) (λ run h. h) tt

pub returns-in-Err : goal.returns-in-Err
returns-in-Err g c =
    let r = g.S.RunStore.runs c.args.store.now in
    let s = g.S.RunStore.runs c.group.new.store in
    let a = g.R.RowSource.owns c.args.source.now in
    let b = g.R.RowSource.owns c.group.new.source in
    let k = g.K.GroupSink.owns c.args.sink.now in
    let n = c.args.keys.writer.mark.id.number in
    let m = c.group.new.sink.writer.mark.id.number in
    let told = c.in-Err.ensures in
    counted-refused c.args.asked.now.by.now c.args.asked.now.column c.args.context.budget.entries n _ _ _ a b k k _ _ _ _ r s _ c.as_damaged.result refl
    (leaves-phases n m m a b k k r s s told.grows_sink refl told.others (leaves-refl (either (only m) k) s))
    (apart-grown (only n) (only m) b k told.apart told.grows_sink c.requires.apart_sink) (either-grows a b k k told.grows_source (λ run h. h))
    (subst (λ (e : Refusal). HasCause e r s) (sym c.as_damaged.ensures)
    (cause-damaged c.in-Err.refusal r s told.cause (λ is h.
    let known = g.met.R.RowSource.has_rows c.args.source.now r c.requires.source h in
    let over : out_of_range c.in-Ok.spec known.0 ≡ true = told.overflow h (ap Err is) known.0 known.1 in
    true≢false (sym over ∙ ap (λ (it : Spec). out_of_range it known.0) c.in-Ok.ensures ∙ pairs_range c.args.asked.now.by.now c.args.asked.now.column known.0))))

pub returns-then-mark-first : goal.returns-then-mark-first
returns-then-mark-first g c =
    let r = g.S.RunStore.runs c.args.store.now in
    let s = g.S.RunStore.runs c.group.new.store in
    let a = g.R.RowSource.owns c.args.source.now in
    let b = g.R.RowSource.owns c.group.new.source in
    let k = g.K.GroupSink.owns c.args.sink.now in
    let n = c.args.keys.writer.mark.id.number in
    let m = c.group.new.sink.writer.mark.id.number in
    let told = c.in-Ok-group.ensures in
    counted-refused c.args.asked.now.by.now c.args.asked.now.column c.args.context.budget.entries n _ _ _ a b k k _ _ _ _ r s _ Damaged refl
    (leaves-phases n m m a b k k r s s told.grows_sink refl told.others (leaves-refl (either (only m) k) s))
    (apart-grown (only n) (only m) b k told.apart told.grows_sink c.requires.apart_sink) (either-grows a b k k told.grows_source (λ run h. h))
    (λ h.
    let p : Pairing = record { by = c.args.asked.now.by.now; column = c.args.asked.now.column } in
    let w = c.group.new.sink.writer in
    let known = g.met.R.RowSource.has_rows c.args.source.now r c.requires.source h in
    let it = between p known.0 w s c.in-Ok.spec c.in-Ok.ensures (told.groups h known.0 known.1 [] (c.requires.empty h)) in
    let few = few_between p known.0 w s c.finish-mark.result c.finish-mark.ensures it in
    let read = (told.counts h known.0 known.1).0 in
    omega (arith, few, read, c.if-mark-first.true))

pub returns-in_err-second : goal.returns-in_err-second
returns-in_err-second g c =
    let r = g.S.RunStore.runs c.args.store.now in
    let s = g.S.RunStore.runs c.group.new.store in
    let t = g.S.RunStore.runs c.count_pairs.new.store in
    let a = g.R.RowSource.owns c.args.source.now in
    let b = g.R.RowSource.owns c.group.new.source in
    let k = g.K.GroupSink.owns c.args.sink.now in
    let l = g.K.GroupSink.owns c.count_pairs.new.sink in
    let n = c.args.keys.writer.mark.id.number in
    let m = c.group.new.sink.writer.mark.id.number in
    let told = c.in-Ok-group.ensures in
    let later = subst (λ (x : RunMark). Apart (only x.id.number) l) c.finish-mark.ensures c.count_pairs.ensures.apart in
    let e = c.in_err-second.field-0.0 in
    counted-refused c.args.asked.now.by.now c.args.asked.now.column c.args.context.budget.entries n _ _ _ a b k l _ _ _ _ r t c.from_residual.result e c.from_residual.ensures.1
    (leaves-phases n m c.finish-mark.result.id.number a b k l r s t told.grows_sink (ap (λ (x : RunMark). x.id.number) c.finish-mark.ensures) told.others c.count_pairs.ensures.others)
    (apart-grown (only n) (only m) b l told.apart told.grows_sink (λ run h. later run (told.grows_sink run h))) (either-grows a b k l told.grows_source c.count_pairs.ensures.grows)
    (cause-later e (either a (only n)) (either b (only m)) r s t told.others c.in_err-second.ensures.cause)

pub returns : goal.returns
returns g c =
    let r = g.S.RunStore.runs c.args.store.now in
    let s = g.S.RunStore.runs c.group.new.store in
    let t = g.S.RunStore.runs c.count_pairs.new.store in
    let a = g.R.RowSource.owns c.args.source.now in
    let b = g.R.RowSource.owns c.group.new.source in
    let k = g.K.GroupSink.owns c.args.sink.now in
    let l = g.K.GroupSink.owns c.count_pairs.new.sink in
    let n = c.args.keys.writer.mark.id.number in
    let m = c.group.new.sink.writer.mark.id.number in
    let told = c.in-Ok-group.ensures in
    let later = subst (λ (x : RunMark). Apart (only x.id.number) l) c.finish-mark.ensures c.count_pairs.ensures.apart in
    let then = c.in_ok-second.ensures in
    let p : Pairing = record { by = c.args.asked.now.by.now; column = c.args.asked.now.column } in
    let w = c.group.new.sink.writer in
    let live = g.met.K.GroupSink.own_live c.args.sink.now r c.requires.sink in
    let out : Apart (either a (only n)) k = apart-both a (only n) k c.requires.apart c.requires.apart_sink in
    let kept = keeps-apart (either a (only n)) (either b (only m)) k r s told.others out live in
    record {
      groups = λ h. ok_anyway _ c.in_all.result (λ rows given before held.
          let it = between p rows w s c.in-Ok.spec c.in-Ok.ensures (told.groups h rows given [] (c.requires.empty h)) in
          let left = left_between p rows w s c.finish-mark.result c.finish-mark.ensures it in
          let now = g.met.K.GroupSink.keeps_groups c.args.sink.now r s kept c.requires.sink h before held in
          both_pushed p rows it.out (λ (out : List Group). g.K.GroupSink.holds c.count_pairs.new.sink t (before ++ out)) it.are (then.groups (told.others.same_honest ∙ h) _ left before now));
      counts = λ h. if_ok_both _ _ _ c.in_all.result c.in_all.ensures.read c.in_all.ensures.groups (λ spent read groups rows given.
          let it = between p rows w s c.in-Ok.spec c.in-Ok.ensures (told.groups h rows given [] (c.requires.empty h)) in
          let left = left_between p rows w s c.finish-mark.result c.finish-mark.ensures it in
          (read ∙ (told.counts h rows given).0, groups ∙ (then.count (told.others.same_honest ∙ h) _ left).1 ∙ both_counted p rows it.out it.are));
      spills = λ h.
          let known = g.met.R.RowSource.has_rows c.args.source.now r c.requires.source h in
          let it = between p known.0 w s c.in-Ok.spec c.in-Ok.ensures (told.groups h known.0 known.1 [] (c.requires.empty h)) in
          let left = left_between p known.0 w s c.finish-mark.result c.finish-mark.ensures it in
          let read = (then.count (told.others.same_honest ∙ h) _ left).0 in
          let count = (told.counts h known.0 known.1).1 ∙ ap (λ (it : Spec). length (keys_of it.by known.0)) c.in-Ok.ensures in
          taken_twice c.args.context.budget.entries c.in-Ok-group.first c.in_ok-second.second c.in_all.result (told.spills h) (then.spills (told.others.same_honest ∙ h))
          (read ∙ as_many_keys p known.0 it.out it.are ∙ sym count) c.in_all.ensures.read c.in_all.ensures.written c.in_all.ensures.groups c.in_all.ensures.runs;
      made = λ none no. made_twice r.made s.made t.made c.in-Ok-group.first.runs c.in_ok-second.second.runs c.in_all.result (told.made none refl) (then.made no) c.in_all.ensures.runs;
      others = leaves-phases n m c.finish-mark.result.id.number a b k l r s t told.grows_sink (ap (λ (x : RunMark). x.id.number) c.finish-mark.ensures) told.others c.count_pairs.ensures.others;
      apart = apart-grown (only n) (only m) b l told.apart told.grows_sink (λ run h. later run (told.grows_sink run h));
      grows = either-grows a b k l told.grows_source c.count_pairs.ensures.grows;
      source = (
          let sink : Apart k (either b (only m)) = apart-later (either a (only n)) (either b (only m)) k r s told.others out live in
          let run : Apart (only c.finish-mark.result.id.number) b = subst (λ (x : RunMark). Apart (only x.id.number) b) (sym c.finish-mark.ensures) (apart-flip b (only m) told.apart) in
          let left = keeps-apart (either (only c.finish-mark.result.id.number) k) (either (only c.finish-mark.result.id.number) l) b s t c.count_pairs.ensures.others
          (apart-both (only c.finish-mark.result.id.number) k b run (apart-one k b (only m) sink)) (g.met.R.RowSource.own_live c.group.new.source s told.source) in
          ok_anyway _ c.in_all.result (g.met.R.RowSource.stays_ready c.group.new.source s t left told.source));
      sink = ok_anyway _ c.in_all.result then.sink;
      cause = cause-memory c.in_all.result r t c.in_all.ensures.cause;
    }

pub count_pairs-requires-clause-sink : goal.count_pairs-requires-clause-sink
count_pairs-requires-clause-sink g c =
    let runs = g.S.RunStore.runs in
    let r = runs c.args.store.now in
    let s = runs c.group.new.store in
    let k = g.K.GroupSink.owns c.args.sink.now in
    let kept = keeps-apart (either (g.R.RowSource.owns c.args.source.now) (only c.args.keys.writer.mark.id.number)) (either (g.R.RowSource.owns c.group.new.source) (only c.group.new.sink.writer.mark.id.number)) k r s c.in-Ok-group.ensures.others (apart-both (g.R.RowSource.owns c.args.source.now) (only c.args.keys.writer.mark.id.number) k c.requires.apart c.requires.apart_sink) (g.met.K.GroupSink.own_live c.args.sink.now r c.requires.sink) in
    g.met.K.GroupSink.stays_ready c.args.sink.now r s kept c.requires.sink

pub count_pairs-requires-clause-pairs : goal.count_pairs-requires-clause-pairs
count_pairs-requires-clause-pairs g c = λ honest.
    let runs = g.S.RunStore.runs in
    let r = runs c.args.store.now in
    let s = runs c.group.new.store in
    let p : Pairing = record { by = c.args.asked.now.by.now; column = c.args.asked.now.column } in
    let w = c.group.new.sink.writer in
    let h = sym c.in-Ok-group.ensures.others.same_honest ∙ honest in
    let known = g.met.R.RowSource.has_rows c.args.source.now r c.requires.source h in
    let it = between p known.0 w s c.in-Ok.spec c.in-Ok.ensures (c.in-Ok-group.ensures.groups h known.0 known.1 [] (c.requires.empty h)) in
    (_, left_between p known.0 w s c.finish-mark.result c.finish-mark.ensures it)

pub count_pairs-requires-clause-apart : goal.count_pairs-requires-clause-apart
count_pairs-requires-clause-apart g c =
    let one = same_run c.group.new.sink.writer.mark.id.number c.args.keys.writer.mark.id.number c.in-Ok-group.ensures.grows_sink in
    subst (λ m. Apart (only m) (g.K.GroupSink.owns c.args.sink.now)) (sym (ap (λ (m : RunMark). m.id.number) c.finish-mark.ensures ∙ one)) c.requires.apart_sink

pub group-requires-clause-source : goal.group-requires-clause-source
group-requires-clause-source g c = c.requires.source

pub group-requires-clause-sink : goal.group-requires-clause-sink
group-requires-clause-sink g c = c.requires.keys

pub group-requires-clause-apart : goal.group-requires-clause-apart
group-requires-clause-apart g c = c.requires.apart_source

pub group-requires-clause-few : goal.group-requires-clause-few
group-requires-clause-few g c = c.requires.few

pub group-requires-clause-widths : goal.group-requires-clause-widths
group-requires-clause-widths g c = c.requires.widths

pub group-requires-clause-rows : goal.group-requires-clause-rows
group-requires-clause-rows g c = λ h rows given.
    subst (λ (it : Spec). IsTrue (all_fit it rows)) (sym c.in-Ok.ensures) (pairs_fit (record { by = c.args.asked.now.by.now; column = c.args.asked.now.column }) rows (c.requires.rows h rows given))

pub count_pairs-requires-clause-live : goal.count_pairs-requires-clause-live
count_pairs-requires-clause-live g c =
    let s = g.S.RunStore.runs c.group.new.store in
    subst (λ (m : RunMark). IsTrue (s.live m.id.number)) (sym c.finish-mark.ensures) c.in-Ok-group.ensures.sink.live

pub count_pairs-requires-clause-few : goal.count_pairs-requires-clause-few
count_pairs-requires-clause-few g c = omega (arith, c.if-mark-first.false, c.in-Ok-group.ensures.read, c.requires.few)

pub count_pairs-requires-clause-short : goal.count_pairs-requires-clause-short
count_pairs-requires-clause-short g c = grind (arith, common_steps)
