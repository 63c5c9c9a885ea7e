use Rattle.std.proofs.Common.{◌≡◌, ◌∙◌, ℕ, List, Option, subst, sym, ap, arith}
use Rattle.std.specs.Prelude.{IfSome, Ok, slice_index_or, is_some, Err}
use Rattle.std.specs.Fn.{FnReturnsAt}
use Rattle.std.proofs.lemmas.List.{get_or_default}
use Rattle.gq_command.specs.declared.command.Payload.TheVariants as payload
use Rattle.gq_engine.specs.Engines.{database, setting_of}
use Rattle.gq_engine.specs.Staging.{HasLoaded}
use Rattle.gq_engine.specs.Steps.{load_table}
use Rattle.gq_engine.proofs.OrderLemmas.{same_tables}
use Rattle.gq_infer.specs.declared.word.TableWord.{TableWord}
use Rattle.gq_tables.specs.Steps.{HasLoadedFile}
use Rattle.gq_tables.proofs.LoadLemmas.{on_err}
use Rattle.gq_tables.proofs.WordLemmas.{bytes_here}
use Rattle.gq_tables.proofs.ReasonLemmas.{load_refused}
use Rattle.gq_tables.specs.Reasons.{GivesAgain}
use Rattle.gq_tables.proofs.table.load_file.Goals as goal

pub returns-then-is_some-clause-kept : goal.returns-then-is_some-clause-kept
returns-then-is_some-clause-kept g c = same_tables (database c.args.engine.now)

pub returns-in_err-file-clause-kept : goal.returns-in_err-file-clause-kept
returns-in_err-file-clause-kept g c = on_err c.from_residual.result _ (same_tables (database c.args.engine.now))

pub returns-in-Ok-clause-loaded : goal.returns-in-Ok-clause-loaded
returns-in-Ok-clause-loaded g c = λ d e bytes has.
    let old = database c.args.engine.now in
    let new = database c.load_csv.new.self in
    let limits = (setting_of g.S.RunStore.runs c.args.engine.now).limits in
    let short = c.args.files.now.short in
    let known = c.in_ok-file.ensures.opened bytes
    (bytes_here g.R.Read.remaining (λ name opened. FnReturnsAt g.F.Fn c.args.files.now.opener.now name opened) c.args.files.now.words.now c.args.files.now.sources.now c.args.word c.index-files-word.result d c.index-files-word-2.result e bytes
    c.requires.word c.requires.sources has) in
    let done = subst (λ (o : Option (List ℕ)). IfSome o (λ bytes. HasLoaded (load_table short limits old c.as_str.result.now (payload.Bytes bytes)) (Ok c.in-Ok._count) old new)) known c.in-Ok.ensures.loaded in
    let name : c.as_str.result.now ≡ (slice_index_or c.args.files.now.words.now c.args.word d).name =
    c.as_str.ensures ∙ ap (λ (w : TableWord). w.name) (get_or_default c.args.files.now.words.now c.args.word c.index-files-word.result d (omega (arith, c.requires.word, c.requires.sources))) in
    subst (λ (n : List ℕ). HasLoadedFile short limits old n bytes new) name (record { count = c.in-Ok._count; done = done })

pub returns-then-is_some-clause-refused : goal.returns-then-is_some-clause-refused
returns-then-is_some-clause-refused g c = λ d e bytes has.
    let this = get_or_default c.args.files.now.words.now c.args.word c.index-files-word.result d (omega (arith, c.requires.word, c.requires.sources)) in
    GivesAgain (ap (λ (w : TableWord). is_some w.columns) (sym this) ∙ sym c.is_some.ensures ∙ c.if-is_some.true) c.from.ensures

pub returns-in-Err-clause-refused : goal.returns-in-Err-clause-refused
returns-in-Err-clause-refused g c = λ d e bytes has.
    let old = database c.args.engine.now in
    let new = database c.load_csv.new.self in
    let limits = (setting_of g.S.RunStore.runs c.args.engine.now).limits in
    let short = c.args.files.now.short in
    let known = c.in_ok-file.ensures.opened bytes
    (bytes_here g.R.Read.remaining (λ name opened. FnReturnsAt g.F.Fn c.args.files.now.opener.now name opened) c.args.files.now.words.now c.args.files.now.sources.now c.args.word c.index-files-word.result d c.index-files-word-2.result e bytes
    c.requires.word c.requires.sources has) in
    let done = subst (λ (o : Option (List ℕ)). IfSome o (λ bytes. HasLoaded (load_table short limits old c.as_str.result.now (payload.Bytes bytes)) (Err c.in-Err.fault) old new)) known c.in-Err.ensures.loaded in
    let name : c.as_str.result.now ≡ (slice_index_or c.args.files.now.words.now c.args.word d).name =
    c.as_str.ensures ∙ ap (λ (w : TableWord). w.name) (get_or_default c.args.files.now.words.now c.args.word c.index-files-word.result d (omega (arith, c.requires.word, c.requires.sources))) in
    load_refused short limits (slice_index_or c.args.files.now.words.now c.args.word d) bytes old new c.in-Err.fault _ c.of_load.ensures.read c.of_load.ensures.refused
    (subst (λ (n : List ℕ). HasLoaded (load_table short limits old n (payload.Bytes bytes)) (Err c.in-Err.fault) old new) name done)
