use Rattle.std.proofs.Common.{◌≡◌, ◌∙◌, ◌++◌, ◌∷◌, ℕ, List, [], None, true, ap, subst, sym, take, arith}
use Rattle.std.proofs.lemmas.Result.{IfOk-at_ok}
use Rattle.std.specs.Prelude.{slice_index_or}
use Rattle.std.specs.Fn.{FnReturnsAt}
use Rattle.gq_row.specs.declared.limits.Bounds.{Bounds}
use Rattle.gq_row.specs.Tables.{PlainTable}
use Rattle.gq_engine.specs.Databases.{Database, table_at}
use Rattle.gq_engine.specs.Engines.{database, setting_of}
use Rattle.gq_engine.specs.Runs.{SameTables}
use Rattle.gq_engine.proofs.OrderLemmas.{same_tables}
use Rattle.gq_infer.specs.Guesses.{AreRightIfLoaded}
use Rattle.gq_tables.specs.declared.source.Source.TheVariants.{Path}
use Rattle.gq_tables.specs.Made.{of_name}
use Rattle.gq_infer.specs.declared.word.TableWord.{TableWord}
use Rattle.gq_tables.specs.Steps.{IsEmpty, IsFilled, IsWith}
use Rattle.gq_command.specs.Commands.{is_command}
use Rattle.gq_command.specs.declared.command.Command.TheVariants.{Create}
use Rattle.gq_tables.proofs.TableLemmas.{first_here, guessed_made}
use Rattle.gq_tables.proofs.WordLemmas.{bytes_at}
use Rattle.gq_tables.specs.Reasons.{IsFaultAt}
use Rattle.gq_tables.proofs.table.make_guessed.Goals as goal

pub create-requires : goal.create-requires
create-requires g c = λ table.
    subst (λ (key : List (List ℕ)). is_command (Create table c.in-Some.columns key) ≡ true) (sym (c.new-key.ensures ∙ c.new.ensures.items)) (c.in-Some.ensures.table table)

pub returns-in_default-clause-made : goal.returns-in_default-clause-made
returns-in_default-clause-made g c = λ contents first knows none. same_tables (database c.args.engine.now)

pub returns-in-Ok-clause-made : goal.returns-in-Ok-clause-made
returns-in-Ok-clause-made g c = λ contents first knows none.
    let old = database c.args.engine.now in
    let words = c.args.files.now.words.now in
    let short = c.args.files.now.short in
    let limits = (setting_of g.S.RunStore.runs c.args.engine.now).limits in
    let at = c.args.at in
    let columns = c.in-Some.columns in
    let no_key : c.new-key.result ≡ [] = c.new-key.ensures ∙ c.new.ensures.items in
    let this = first_here words at c.index-files-at.result first (omega (arith, c.requires.at, c.requires.end, c.requires.sources)) knows.here in
    let empty = IfOk-at_ok _ c.in_ok-at_word.ensures.ok c.create.ensures.created in
    let named = subst (λ (w : TableWord). IsWith old w.name (IsEmpty columns c.new-key.result) (database c.create.new.engine)) this empty in
    let start = subst (λ (key : List (List ℕ)). IsWith old first.name (IsEmpty columns key) (database c.create.new.engine)) no_key named in
    let filled = subst (λ (b : Bounds). IsWith old first.name (IsFilled contents short b columns [] (of_name first.name (take c.args.end words))) (database c.load_files.new.engine)) (ap (λ s. s.limits) c.create.ensures.setting)
    (c.in-Ok.ensures.filled contents first old columns [] knows none start) in
    let right = subst (λ (w : TableWord). AreRightIfLoaded columns (contents w.file.now)) knows.here
    (c.in-Some.ensures.right first Path (contents (slice_index_or words at first).file.now)
    (bytes_at g.R.Read.remaining (λ name opened. FnReturnsAt g.F.Fn c.args.files.now.opener.now name opened) contents words c.args.files.now.sources.now at first Path knows.bytes (omega (arith, c.requires.at, c.requires.end)))) in
    guessed_made contents short limits words at c.args.end first c.requires.at (omega (arith, c.requires.end, c.requires.sources)) knows.earliest knows.here columns old (database c.load_files.new.engine) (c.requires.inferred first) right filled

pub returns-in_ok-at_word-in-Err-clause-made : goal.returns-in_ok-at_word-in-Err-clause-made
returns-in_ok-at_word-in-Err-clause-made g c = λ contents first knows none.
    let old = database c.args.engine.now in
    let words = c.args.files.now.words.now in
    let at = c.args.at in
    let columns = c.in-Some.columns in
    let no_key : c.new-key.result ≡ [] = c.new-key.ensures ∙ c.new.ensures.items in
    let this = first_here words at c.index-files-at.result first (omega (arith, c.requires.at, c.requires.end, c.requires.sources)) knows.here in
    let empty = IfOk-at_ok _ c.in_ok-at_word.ensures.ok c.create.ensures.created in
    let named = subst (λ (w : TableWord). IsWith old w.name (IsEmpty columns c.new-key.result) (database c.create.new.engine)) this empty in
    let start = subst (λ (key : List (List ℕ)). IsWith old first.name (IsEmpty columns key) (database c.create.new.engine)) no_key named in
    let left = c.in-Err.ensures.filled contents first old columns [] knows none start in
    let that = first_here words at c.index-files-at-in-Err.result first (omega (arith, c.requires.at, c.requires.end, c.requires.sources)) knows.here in
    let dropped = subst (λ (w : TableWord). (before : Database) (table : PlainTable) → table_at before w.name ≡ None → SameTables (before ++ (w.name, table) ∷ []) (database c.load_files.new.engine) → SameTables before (database c.drop_table.new.engine)) that
    (IfOk-at_ok _ c.in_ok-at_word-in-Err.ensures.ok c.drop_table.ensures.dropped) in
    dropped old left.table none left.same

pub returns-in-Err-2-clause-refused : goal.returns-in-Err-2-clause-refused
returns-in-Err-2-clause-refused g c =
    let fault = c.in-Err.fault in
    subst (λ (limits : Bounds). IsFaultAt g.R.Read.remaining (λ name opened. FnReturnsAt g.F.Fn c.args.files.now.opener.now name opened) c.args.files.now limits fault.word fault.why) (ap (λ s. s.limits) c.create.ensures.setting) c.in-Err.ensures.refused
