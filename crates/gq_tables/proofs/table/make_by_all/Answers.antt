use Rattle.std.proofs.Common.{◌<◌, ◌≡◌, ◌∙◌, ◌+◌, ℕ, List, [], true, ap, drop, take, subst, sym, arith, Option}
use Rattle.std.proofs.lemmas.Result.{IfOk-at_ok}
use Rattle.gq_row.specs.declared.limits.Bounds.{Bounds}
use Rattle.gq_engine.specs.Engines.{database, setting_of}
use Rattle.gq_infer.specs.declared.word.TableWord.{TableWord}
use Rattle.gq_tables.specs.Steps.{IsEmpty, IsFilled, IsWith}
use Rattle.gq_command.specs.Commands.{is_command}
use Rattle.gq_command.specs.declared.command.Command.TheVariants.{Create}
use Rattle.gq_infer.specs.Files.{table_columns}
use Rattle.gq_tables.specs.Made.{files_of, of_name}
use Rattle.gq_tables.proofs.TableLemmas.{first_here, inferred_made}
use Rattle.gq_tables.proofs.ReasonLemmas.{passed}
use Rattle.gq_tables.specs.Reasons.{IsFaultAt}
use Rattle.gq_tables.specs.declared.fault.TableFault.{TableFault}
use Rattle.gq_tables.specs.declared.fault.Why.{Why}
use Rattle.std.specs.Fn.{FnReturnsAt}
use Rattle.std.specs.Prelude.{IfSome}
use Rattle.gq_tables.proofs.table.make_by_all.Goals as goal

pub create-requires : goal.create-requires
create-requires g c = λ table.
    subst (λ (key : List (List ℕ)). is_command (Create table c.in_ok-inferred.inferred.columns key) ≡ true) (sym (c.new-key.ensures ∙ c.new.ensures.items)) (c.in_ok-inferred.ensures.table table)

pub returns-in-None-clause-made : goal.returns-in-None-clause-made
returns-in-None-clause-made g c = λ contents first knows none.
    let old = database c.args.engine.now in
    let words = c.args.files.now.words.now in
    let short = c.args.files.now.short in
    let limits = (setting_of g.S.RunStore.runs c.args.engine.now).limits in
    let columns = c.in_ok-inferred.inferred.columns in
    let at = c.args.at in
    let no_key : c.new-key.result ≡ [] = c.new-key.ensures ∙ c.new.ensures.items in
    let whole = c.in_ok-inferred.ensures.end.2 c.in-None.is in
    let this = first_here words at c.index-files-at.result first (omega (arith, c.requires.at, c.requires.end, c.requires.sources)) knows.here in
    let empty = IfOk-at_ok _ c.in_ok-at_word.ensures.ok c.create.ensures.created in
    let named = subst (λ (w : TableWord). IsWith old w.name (IsEmpty columns c.new-key.result) (database c.create.new.engine)) this empty in
    let start = subst (λ (key : List (List ℕ)). IsWith old first.name (IsEmpty columns key) (database c.create.new.engine)) no_key named in
    let filled = subst (λ (b : Bounds). IsWith old first.name (IsFilled contents short b columns [] (of_name first.name (take c.in_ok-inferred.inferred.end words))) (database c.load_files.new.engine)) (ap (λ s. s.limits) c.create.ensures.setting)
    (c.in_ok-load_files.ensures.filled contents first old columns [] knows none start) in
    inferred_made contents short limits words at c.args.end first c.requires.at (omega (arith, c.requires.end, c.requires.sources)) knows.earliest knows.here columns old (database c.load_files.new.engine) (c.requires.inferred first)
    (c.in_ok-inferred.ensures.columns contents first knows ∙ ap (λ (n : ℕ). table_columns (contents first.file.now) (files_of contents (of_name first.name (drop (at + 1) (take n words))))) whole)
    (subst (λ (n : ℕ). IsWith old first.name (IsFilled contents short limits columns [] (of_name first.name (take n words))) (database c.load_files.new.engine)) whole filled)

pub returns-in_err-inferred-clause-refused : goal.returns-in_err-inferred-clause-refused
returns-in_err-inferred-clause-refused g c =
    let limits = (setting_of g.S.RunStore.runs c.args.engine.now).limits in
    passed c.from_residual.result c.in_err-inferred.field-0.0 (λ (fault : TableFault). IsFaultAt g.R.Read.remaining (λ name opened. FnReturnsAt g.F.Fn c.args.files.now.opener.now name opened) c.args.files.now limits fault.word fault.why) c.from_residual.ensures.1
    (c.in_err-inferred.ensures.refused limits)

pub returns-in_err-load_files-clause-refused : goal.returns-in_err-load_files-clause-refused
returns-in_err-load_files-clause-refused g c =
    let P : Bounds → TableFault → Type 0 = λ limits fault. IsFaultAt g.R.Read.remaining (λ name opened. FnReturnsAt g.F.Fn c.args.files.now.opener.now name opened) c.args.files.now limits fault.word fault.why in
    let fault = c.in_err-load_files.field-0.0 in
    passed c.from_residual-in_err-load_files.result fault (P (setting_of g.S.RunStore.runs c.args.engine.now).limits) c.from_residual-in_err-load_files.ensures.1
    (subst (λ (limits : Bounds). P limits fault) (ap (λ s. s.limits) c.create.ensures.setting) c.in_err-load_files.ensures.refused)

pub returns-in-Some-clause-refused : goal.returns-in-Some-clause-refused
returns-in-Some-clause-refused g c =
    let limits = (setting_of g.S.RunStore.runs c.args.engine.now).limits in
    subst (λ (o : Option Why). IfSome o (λ why. (limits : Bounds) → IsFaultAt g.R.Read.remaining (λ name opened. FnReturnsAt g.F.Fn c.args.files.now.opener.now name opened) c.args.files.now limits c.in_ok-inferred.inferred.end why)) c.in-Some.is c.in_ok-inferred.ensures.ended limits

pub returns-in-Some-clause-within : goal.returns-in-Some-clause-within
returns-in-Some-clause-within g c =
    let before = subst (λ (o : Option Why). IfSome o (λ why. c.in_ok-inferred.inferred.end < c.args.end)) c.in-Some.is c.in_ok-inferred.ensures.before in
    omega (arith, before, c.requires.end, c.requires.sources)
