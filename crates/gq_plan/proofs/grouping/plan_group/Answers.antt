use Rattle.std.proofs.Common.{rules, ◌≡◌, ◌∙◌, inr, true, false, sym, ap}
use Rattle.std.specs.Prelude.{Err}
use Rattle.gq_reply.specs.declared.refusal.Refused.{Refused}
use Rattle.gq_plan.specs.Plans.{group_fits}
use Rattle.gq_plan.proofs.PlanLemmas.{fit, unfit}
use Rattle.gq_plan.proofs.grouping.plan_group.Goals as goal

pub returns-then-not-branch-clause-refused : goal.returns-then-not-branch-clause-refused
returns-then-not-branch-clause-refused c =
    let columns = c.args.schema.now.columns in
    let plan = c.in_ok-plan.plan in
    let is : c.in_ok-fits_group.field-0 ≡ group_fits columns c.args.others.now plan = rw c.columns.ensures at c.in_ok-fits_group.ensures in
    let no : c.in_ok-fits_group.field-0 ≡ false = search rules in
    inr (unfit columns c.args.others.now c.args.clauses.now plan c.in_ok-plan.ensures.planned (sym is ∙ no) ∙ ap (λ (w : Refused). Err w) (sym c.from.ensures))

pub returns-clause-planned : goal.returns-clause-planned
returns-clause-planned c =
    let columns = c.args.schema.now.columns in
    let plan = c.in_ok-plan.plan in
    let is : c.in_ok-fits_group.field-0 ≡ group_fits columns c.args.others.now plan = rw c.columns.ensures at c.in_ok-fits_group.ensures in
    let yes : c.in_ok-fits_group.field-0 ≡ true = search rules in
    fit columns c.args.others.now c.args.clauses.now plan c.in_ok-plan.ensures.planned (sym is ∙ yes)
