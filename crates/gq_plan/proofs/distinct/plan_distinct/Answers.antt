use Rattle.std.proofs.Common.{rules, ◌≡◌, ◌∙◌, inr, true, false, sym, ap}
use Rattle.std.specs.Prelude.{Err}
use Rattle.gq_reply.specs.declared.refusal.Refused.{Refused}
use Rattle.gq_plan.specs.Kinds.{kinds_of, tests_fit}
use Rattle.gq_plan.proofs.PlanLemmas.{distinct_fit, distinct_unfit}
use Rattle.gq_plan.proofs.distinct.plan_distinct.Goals as goal

pub returns-then-not-tests_fit-clause-refused : goal.returns-then-not-tests_fit-clause-refused
returns-then-not-tests_fit-clause-refused c =
    let columns = c.args.schema.now.columns in
    let plan = c.in_ok-plan.plan in
    let unfit : tests_fit (kinds_of columns) plan.condition.tests ≡ false = search rules in
    inr (distinct_unfit columns c.args.on.now c.args.tests.now plan c.in_ok-plan.ensures.planned unfit ∙ ap (λ (w : Refused). Err w) (sym c.from.ensures))

pub returns-clause-planned : goal.returns-clause-planned
returns-clause-planned c =
    let columns = c.args.schema.now.columns in
    let plan = c.in_ok-plan.plan in
    let fit : tests_fit (kinds_of columns) plan.condition.tests ≡ true = search rules in
    distinct_fit columns c.args.on.now c.args.tests.now plan c.in_ok-plan.ensures.planned fit
