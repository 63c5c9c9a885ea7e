use Rattle.std.proofs.Common.{◌≡◌, ◌⊎◌, ◌∙◌, inl, inr, sym, ap, subst, rules, Option}
use Rattle.std.specs.Prelude.{Err, option_copied}
use Rattle.std.proofs.lemmas.Result.{err_from_is_err_and}
use Rattle.gq_row.specs.Tables.{PlainTable}
use Rattle.gq_reply.specs.declared.refusal.Refusal.TheVariants.{Memory, NoTable}
use Rattle.gq_reply.specs.declared.refusal.Refused.{Refused}
use Rattle.gq_reply.specs.Refusals.{unnumbered}
use Rattle.gq_reply.proofs.StepLemmas.{missed}
use Rattle.gq_query.specs.Selecting.{other_columns}
use Rattle.gq_plan.specs.Plans.{group_plan}
use Rattle.gq_engine.specs.Steps.{other_in}
use Rattle.gq_engine.proofs.GroupLemmas.{group_alone, group_none, group_unplanned}
use Rattle.gq_engine.proofs.grouping.asked_of.Goals as goal

pub returns-in_err-table-clause-refused : goal.returns-in_err-table-clause-refused
returns-in_err-table-clause-refused g c =
    let p = err_from_is_err_and c.from_residual.result c.from_residual.ensures.1 in
    let m = missed c.get.result c.in_err-table.field-0.0 NoTable c.in_err-table.ensures.value in
    rw p.1 (inr (group_none c.args.request.now.catalog.now c.args.request.now.name.now c.args.request.now.clauses.now (search rules) ∙ sym (ap Err (p.2 ∙ ap unnumbered m.1))))

pub returns-in_err-others-clause-refused : goal.returns-in_err-others-clause-refused
returns-in_err-others-clause-refused g c =
    let db = c.args.request.now.catalog.now in
    let p = err_from_is_err_and c.from_residual-in_err-others.result c.from_residual-in_err-others.ensures.1 in
    let alone = subst (λ (w : Refused). other_in db c.args.request.now.clauses.now.exists ≡ Err w) (sym p.2) c.in_err-others.ensures.refused in
    rw p.1 (inr (group_alone db c.args.request.now.name.now c.args.request.now.clauses.now c.in_ok-table.table.now (search rules) p.0 alone))

pub returns-in_err-plan-clause-refused : goal.returns-in_err-plan-clause-refused
returns-in_err-plan-clause-refused g c =
    let db = c.args.request.now.catalog.now in
    let table = c.in_ok-table.table.now in
    let other : Option PlainTable = option_copied c.in_ok-others.others in
    let p = err_from_is_err_and c.from_residual-in_err-plan.result c.from_residual-in_err-plan.ensures.1 in
    let why = subst (λ (w : Refused). (w ≡ unnumbered Memory) ⊎ (group_plan table.schema.columns (other_columns other) c.args.request.now.clauses.now ≡ Err w)) (sym p.2) (rw (c.schema.ensures, c.columns_of.ensures) at c.in_err-plan.ensures.refused) in
    rw p.1 (elim why [
      | inl memory ↦ inl memory
      | inr unplanned ↦ inr (group_unplanned db c.args.request.now.name.now c.args.request.now.clauses.now table (search rules) other c.in_ok-others.ensures.found p.0 unplanned)
    ])

pub returns-clause-asks : goal.returns-clause-asks
returns-clause-asks g c = record {
  found = search rules;
  there = c.in_ok-others.ensures.found;
  planned = rw (c.schema.ensures, c.columns_of.ensures) at c.in_ok-plan.ensures.planned;
}

pub returns-clause-within : goal.returns-clause-within
returns-clause-within g c = rw (c.schema.ensures, c.columns_of.ensures) at c.in_ok-plan.ensures.within
