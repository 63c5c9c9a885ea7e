use Rattle.std.proofs.Common.{◌≡◌, ◌∙◌, ℕ, ap, subst, sym}
use Rattle.std.specs.Prelude.{IfSome, Result, Err, option_map}
use Rattle.std.proofs.lemmas.Result.{err_from_is_err_and}
use Rattle.gq_command.specs.declared.command.Payload.TheVariants as payload
use Rattle.gq_engine.specs.declared.csv_fault.CsvFault.{CsvFault}
use Rattle.gq_engine.specs.declared.csv_fault.CsvFault.TheVariants as csv_fault
use Rattle.gq_engine.specs.Loading.{csv_rows}
use Rattle.gq_engine.specs.Staging.{HasLoaded}
use Rattle.gq_engine.specs.Steps.{load_table}
use Rattle.gq_engine.proofs.OrderLemmas.{same_tables}
use Rattle.gq_engine.proofs.StagingLemmas.{any_err, staged_put, text_faulted, text_loaded, text_refused}
use Rattle.gq_engine.proofs.engine.Engine.load_csv.Goals as goal

pub returns-in_err-staged-clause-loaded : goal.returns-in_err-staged-clause-loaded
returns-in_err-staged-clause-loaded g c =
    let self = c.args.self.now in
    let text = g.R.Read.remaining c.args.text in
    let why = c.in_err-staged.field-0.0 in
    let p = err_from_is_err_and c.from_residual.result c.from_residual.ensures.1 in
    let same : c.from_residual.result ≡ Err why = p.1 ∙ ap (λ (w : CsvFault). Err w) p.2 in
    subst (λ (r : Result ℕ CsvFault). IfSome text (λ bytes. HasLoaded (load_table c.args.short self.limits.bounds self.catalog c.args.name.now (payload.Bytes bytes)) r self.catalog self.catalog)) (sym same)
    (text_faulted c.args.short self.limits.bounds self.catalog c.args.name.now text why c.in_err-staged.ensures.fault)

pub returns-in_err-staged-clause-kept : goal.returns-in_err-staged-clause-kept
returns-in_err-staged-clause-kept g c = any_err c.from_residual.result (same_tables c.args.self.now.catalog)

pub returns-in_err-load-clause-loaded : goal.returns-in_err-load-clause-loaded
returns-in_err-load-clause-loaded g c =
    let self = c.args.self.now in
    let text = g.R.Read.remaining c.args.text in
    let why = c.in_err-load.field-0.0 in
    let p = err_from_is_err_and c.from_residual-in_err-load.result c.from_residual-in_err-load.ensures.1 in
    let same : c.from_residual-in_err-load.result ≡ Err (csv_fault.Refused why) = p.1 ∙ ap (λ (w : CsvFault). Err w) p.2 in
    subst (λ (r : Result ℕ CsvFault). IfSome text (λ bytes. HasLoaded (load_table c.args.short self.limits.bounds self.catalog c.args.name.now (payload.Bytes bytes)) r self.catalog c.load.new.self)) (sym same)
    (text_refused c.args.short self.limits.bounds self.catalog c.args.name.now c.tables-keyed.ensures text c.in_ok-staged.staged c.in_ok-staged.count c.in_ok-staged.ensures.staged (Unit {0}) why c.load.new.self c.in_err-load.ensures)

pub returns-in_err-load-clause-kept : goal.returns-in_err-load-clause-kept
returns-in_err-load-clause-kept g c = any_err c.from_residual-in_err-load.result c.in_err-load.ensures.0

pub returns-clause-loaded : goal.returns-clause-loaded
returns-clause-loaded g c =
    let self = c.args.self.now in
    text_loaded c.args.short self.limits.bounds self.catalog c.args.name.now c.tables-keyed.ensures (g.R.Read.remaining c.args.text) c.in_ok-staged.staged c.in_ok-staged.count c.in_ok-staged.ensures.staged {X = Unit {0}} c.in_ok-load.field-0 c.load.new.self c.in_ok-load.ensures

pub returns-clause-put : goal.returns-clause-put
returns-clause-put g c =
    let self = c.args.self.now in
    let own = c.in_ok-staged.ensures.staged in
    staged_put c.args.short self.limits.bounds self.catalog c.args.name.now own.table own.found c.tables-keyed.ensures (option_map (csv_rows c.args.short self.limits.bounds own.table.schema) (g.R.Read.remaining c.args.text)) c.in_ok-staged.staged c.in_ok-staged.count own.staged {X = Unit {0}} c.in_ok-load.field-0 c.load.new.self c.in_ok-load.ensures
