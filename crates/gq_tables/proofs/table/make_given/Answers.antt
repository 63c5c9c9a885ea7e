use Rattle.std.proofs.Common.{◌∙◌, ap, subst, take, arith}
use Rattle.std.proofs.lemmas.Result.{IfOk-at_ok}
use Rattle.gq_row.specs.declared.limits.Bounds.{Bounds}
use Rattle.gq_engine.specs.Engines.{database, setting_of}
use Rattle.gq_infer.specs.declared.word.TableWord.{TableWord}
use Rattle.gq_tables.specs.Made.{of_name}
use Rattle.gq_tables.specs.Steps.{IsEmpty, IsFilled, IsWith}
use Rattle.gq_tables.proofs.TableLemmas.{first_here, given_made, if_ok, match_at_ok}
use Rattle.gq_tables.specs.Reasons.{IsFaultAt}
use Rattle.gq_tables.specs.declared.fault.TableFault.{TableFault}
use Rattle.std.specs.Fn.{FnReturnsAt}
use Rattle.std.specs.Prelude.{IfErr}
use Rattle.gq_tables.proofs.table.make_given.Goals as goal

pub returns-clause-made : goal.returns-clause-made
returns-clause-made g c =
    if_ok c.load_files.result _
    (λ x e contents first knows none.
    let old = database c.args.engine.now in
    let words = c.args.files.now.words.now in
    let short = c.args.files.now.short in
    let limits = (setting_of g.S.RunStore.runs c.args.engine.now).limits in
    let columns = c.into_parts-columns.result.0 in
    let key = c.into_parts-columns.result.1 in
    let at = c.args.at in
    let this = first_here words at c.index-files-at.result first (omega (arith, c.requires.at, c.requires.end, c.requires.sources)) knows.here in
    let copy = IfOk-at_ok _ c.in_ok-at_word.ensures.ok c.copy_given.ensures.copied in
    let empty = IfOk-at_ok _ c.in_ok-at_word-2.ensures.ok c.create.ensures.created in
    let start = subst (λ (w : TableWord). IsWith old w.name (IsEmpty columns key) (database c.create.new.engine)) this empty in
    let loaded = match_at_ok c.load_files.result x _ _ e (c.load_files.ensures.filled contents first old columns key knows none start) in
    let filled = subst (λ (b : Bounds). IsWith old first.name (IsFilled contents short b columns key (of_name first.name (take c.args.end words))) (database c.load_files.new.engine)) (ap (λ s. s.limits) c.create.ensures.setting) loaded in
    given_made contents short limits words at c.args.end first c.requires.at (omega (arith, c.requires.end, c.requires.sources)) knows.earliest knows.here c.args.given.now columns key old (database c.load_files.new.engine) (c.requires.given first)
    (c.into_parts-columns.ensures.columns ∙ ap (λ g. g.columns) copy) (c.into_parts-columns.ensures.key ∙ ap (λ g. g.key) copy) filled)

pub returns-clause-refused : goal.returns-clause-refused
returns-clause-refused g c =
    subst (λ (limits : Bounds). IfErr c.load_files.result (λ (fault : TableFault). IsFaultAt g.R.Read.remaining (λ name opened. FnReturnsAt g.F.Fn c.args.files.now.opener.now name opened) c.args.files.now limits fault.word fault.why)) (ap (λ s. s.limits) c.create.ensures.setting) c.load_files.ensures.refused
