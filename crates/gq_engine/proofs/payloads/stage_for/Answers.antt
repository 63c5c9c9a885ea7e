use Rattle.std.proofs.Common.{◌≡◌, inl, inr, ◌∙◌, Some, sym, ap, rules}
use Rattle.std.specs.Prelude.{Err}
use Rattle.std.proofs.lemmas.Result.{err_from_is_err_and}
use Rattle.gq_reply.specs.declared.refusal.Refusal.TheVariants.{NoTable}
use Rattle.gq_reply.specs.declared.refusal.Refused.{Refused}
use Rattle.gq_reply.specs.Refusals.{unnumbered}
use Rattle.gq_reply.proofs.StepLemmas.{missed}
use Rattle.gq_load.specs.declared.short_records.Short.TheVariants as short
use Rattle.gq_engine.specs.Databases.{table_at}
use Rattle.gq_engine.proofs.FormLemmas.{load_none, load_untold}
use Rattle.gq_engine.proofs.payloads.stage_for.Goals as goal

pub returns-then-is_lost-clause-refused : goal.returns-then-is_lost-clause-refused
returns-then-is_lost-clause-refused g c = inl c.from.ensures

pub returns-in_err-table-clause-refused : goal.returns-in_err-table-clause-refused
returns-in_err-table-clause-refused g c =
    let p = err_from_is_err_and c.from_residual.result c.from_residual.ensures.1 in
    let m = missed c.get.result c.in_err-table.field-0.0 NoTable c.in_err-table.ensures.value in
    rw p.1 (inr (load_none short.Refused c.args.limits.now.bounds c.args.catalog.now c.args.name.now c.args.payload (sym c.is_lost.ensures ∙ c.if-is_lost.false) (search rules) ∙ sym (ap Err (p.2 ∙ ap unnumbered m.1))))

pub returns-in_err-bytes-clause-refused : goal.returns-in_err-bytes-clause-refused
returns-in_err-bytes-clause-refused g c =
    let db = c.args.catalog.now in
    let found : table_at db c.args.name.now ≡ Some c.in_ok-table.table.now = search rules in
    let p = err_from_is_err_and c.from_residual-in_err-bytes.result c.from_residual-in_err-bytes.ensures.1 in
    rw p.1 (inr (load_untold short.Refused c.args.limits.now.bounds db c.args.name.now c.in_ok-table.table.now found c.args.payload p.0 (sym c.is_lost.ensures ∙ c.if-is_lost.false)
    (sym c.in_err-bytes.ensures ∙ ap (λ (w : Refused). Err w) (sym p.2))))
