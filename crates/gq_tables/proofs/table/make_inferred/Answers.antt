use Rattle.std.proofs.Common.{Bool, ap, subst, take}
use Rattle.std.proofs.lemmas.Result.{IfOk-at_ok}
use Rattle.gq_row.specs.declared.limits.Bounds.{Bounds}
use Rattle.gq_engine.specs.Engines.{database, setting_of}
use Rattle.gq_tables.specs.Made.{IsTableOf, of_name}
use Rattle.gq_tables.specs.Steps.{IsWith, MadeOrSame}
use Rattle.gq_tables.proofs.TableLemmas.{if_ok, none_same, with_same}
use Rattle.gq_tables.specs.Reasons.{IsFaultAt}
use Rattle.gq_tables.specs.declared.fault.TableFault.{TableFault}
use Rattle.std.specs.Fn.{FnReturnsAt}
use Rattle.std.specs.Prelude.{IfErr}
use Rattle.gq_tables.proofs.table.make_inferred.Goals as goal

pub returns-then-branch-clause-made : goal.returns-then-branch-clause-made
returns-then-branch-clause-made g c = λ contents first knows none.
    let old = database c.args.engine.now in
    let new = database c.make_guessed.new.engine in
    let limits = (setting_of g.S.RunStore.runs c.args.engine.now).limits in
    let asked = of_name first.name (take c.args.end c.args.files.now.words.now) in
    let P : Bool → Type 0 = λ b. MadeOrSame b (IsWith old first.name (IsTableOf contents c.args.files.now.short limits asked) new) old new in
    subst P c.if-branch.true (c.in_ok-make_guessed.ensures.made contents first knows none)

pub returns-clause-made : goal.returns-clause-made
returns-clause-made g c =
    if_ok c.make_by_all.result _
    (λ x e contents first knows none.
    let old = database c.args.engine.now in
    let mid = database c.make_guessed.new.engine in
    let limits = (setting_of g.S.RunStore.runs c.args.engine.now).limits in
    let asked = of_name first.name (take c.args.end c.args.files.now.words.now) in
    let P : Bool → Type 0 = λ b. MadeOrSame b (IsWith old first.name (IsTableOf contents c.args.files.now.short limits asked) mid) old mid in
    let same = subst P c.if-branch.false (c.in_ok-make_guessed.ensures.made contents first knows none) in
    let made = IfOk-at_ok _ e c.make_by_all.ensures.made contents first knows (none_same old mid first.name same none) in
    with_same old mid (database c.make_by_all.new.engine) first.name (IsTableOf contents c.args.files.now.short limits asked) same
    (subst (λ (b : Bounds). IsWith mid first.name (IsTableOf contents c.args.files.now.short b asked) (database c.make_by_all.new.engine)) (ap (λ s. s.limits) c.make_guessed.ensures.setting) made))

pub returns-clause-refused : goal.returns-clause-refused
returns-clause-refused g c =
    subst (λ (limits : Bounds). IfErr c.make_by_all.result (λ (fault : TableFault). IsFaultAt g.R.Read.remaining (λ name opened. FnReturnsAt g.F.Fn c.args.files.now.opener.now name opened) c.args.files.now limits fault.word fault.why)) (ap (λ s. s.limits) c.make_guessed.ensures.setting) c.make_by_all.ensures.refused
