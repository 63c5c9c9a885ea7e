use Rattle.std.proofs.Common.{◌≡◌, ◌⊎◌, sym, subst}
use Rattle.std.specs.Prelude.{Err, option_copied}
use Rattle.std.proofs.lemmas.Result.{err_from_is_err_and}
use Rattle.gq_reply.specs.declared.refusal.Refusal.TheVariants.{Memory}
use Rattle.gq_reply.specs.declared.refusal.Refused.{Refused}
use Rattle.gq_reply.specs.Refusals.{unnumbered}
use Rattle.gq_plan.specs.Headers.{group_header}
use Rattle.gq_query.specs.Rollups.{grouping_sets}
use Rattle.gq_engine.specs.Serving.{Plainly, rows_in}
use Rattle.gq_engine.specs.Steps.{group, rows_about, rows_planned}
use Rattle.gq_engine.proofs.GroupLemmas.{asked_planned, comes_over, group_planned, rises_over}
use Rattle.gq_engine.proofs.OrderLemmas.{same_tables}
use Rattle.gq_engine.proofs.grouping.rows_asked.Goals as goal

pub returns-in_err-asked-clause-comes : goal.returns-in_err-asked-clause-comes
returns-in_err-asked-clause-comes g c =
    let db = c.args.request.now.catalog.now in
    let steps = group db c.args.request.now.name.now c.args.request.now.clauses.now in
    let p = err_from_is_err_and c.from_residual.result c.from_residual.ensures.1 in
    let why = subst (λ (w : Refused). (w ≡ unnumbered Memory) ⊎ (steps ≡ Err w)) (sym p.2) c.in_err-asked.ensures.refused in
    rw p.1 (Plainly (same_tables db, why))

pub rows_grouped-requires : goal.rows_grouped-requires
rows_grouped-requires g c = c.in_ok-asked.ensures.within

pub returns-clause-comes : goal.returns-clause-comes
returns-clause-comes g c =
    let db = c.args.request.now.catalog.now in
    let clauses = c.args.request.now.clauses.now in
    let table = c.in_ok-asked.asked.table.now in
    let other = option_copied c.in_ok-asked.asked.others in
    let plan = c.in_ok-asked.asked.plan in
    let asks = c.in_ok-asked.ensures.asks in
    comes_over db (g.S.RunStore.runs c.args.store.now).honest (group db c.args.request.now.name.now clauses) (group_header clauses.by clauses.shown) (rows_planned plan table other)
    (group_planned db c.args.request.now.name.now clauses table asks.found other asks.there plan asks.planned) (rows_in c.rows_grouped.result) c.rows_grouped.ensures.rows

pub returns-clause-spent : goal.returns-clause-spent
returns-clause-spent g c =
    let db = c.args.request.now.catalog.now in
    let clauses = c.args.request.now.clauses.now in
    let table = c.in_ok-asked.asked.table.now in
    let other = option_copied c.in_ok-asked.asked.others in
    let plan = c.in_ok-asked.asked.plan in
    let asks = c.in_ok-asked.ensures.asks in
    rises_over db c.args.request.now.name.now clauses (g.S.RunStore.runs c.args.store.now).honest c.args.budget.entries (grouping_sets plan.rollup plan.by) (rows_about plan table other) c.args.spent c.rows_grouped.result
    (asked_planned db c.args.request.now.name.now clauses table asks.found other asks.there plan asks.planned) c.rows_grouped.ensures.spent
