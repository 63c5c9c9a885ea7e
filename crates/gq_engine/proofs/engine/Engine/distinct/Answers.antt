use Rattle.std.proofs.Common.{◌≡◌, ◌∙◌, ◌<◌, length, refl, sym, ap, subst, Some}
use Rattle.std.specs.Prelude.{Ok, Err, option_copied}
use Rattle.gq_command.specs.declared.command.Command.TheVariants.{Distinct}
use Rattle.gq_reply.specs.declared.refusal.Refusal.TheVariants.{NoTable}
use Rattle.gq_reply.specs.declared.reply.Reply.TheVariants.{Rows}
use Rattle.gq_reply.specs.Refusals.{unnumbered}
use Rattle.gq_reply.proofs.StepLemmas.{missed}
use Rattle.gq_plan.specs.Plans.{distinct_plan}
use Rattle.gq_engine.specs.Databases.{table_at}
use Rattle.gq_engine.specs.Steps.{distinct, keys_planned}
use Rattle.gq_engine.proofs.CarryingLemmas.{carried_over, carried_plainly, passed_on}
use Rattle.gq_engine.proofs.GroupLemmas.{distinct_comes, distinct_none, distinct_planned, refused_over, shown_over, some_on}
use Rattle.gq_engine.proofs.StepLemmas.{refuses}
use Rattle.gq_engine.proofs.engine.Engine.distinct.Goals as goal

pub returns-in_err-table : goal.returns-in_err-table
returns-in_err-table g c =
    let self = c.args.self.now in
    let command = Distinct c.args.name.now c.args.on c.args.tests.now in
    let why = c.in_err-table.field-0.0 in
    let m = missed c.get.result why NoTable c.in_err-table.ensures.value in
    passed_on g.S.RunStore.runs command (unnumbered why) self self c.from_residual.result c.from_residual.ensures.1
    (carried_plainly g.S.RunStore.runs command (Err (unnumbered why)) self self.catalog refl refl
    (refuses (distinct self.catalog c.args.name.now c.args.on c.args.tests.now) NoTable (unnumbered why) self.catalog (ap unnumbered m.1) (distinct_none self.catalog c.args.name.now c.args.on c.args.tests.now (sym c.get.ensures ∙ ap option_copied m.0))))

pub returns-in_err-plan : goal.returns-in_err-plan
returns-in_err-plan g c =
    let self = c.args.self.now in
    let table = c.in_ok-table.table.now in
    let found : table_at self.catalog c.args.name.now ≡ Some table = sym c.get.ensures ∙ ap option_copied c.in_ok-table.ensures.ok_part in
    let command = Distinct c.args.name.now c.args.on c.args.tests.now in
    let why = c.in_err-plan.field-0.0 in
    passed_on g.S.RunStore.runs command why self self c.from_residual-in_err-plan.result c.from_residual-in_err-plan.ensures.1
    (carried_plainly g.S.RunStore.runs command (Err why) self self.catalog refl refl
    (distinct_comes self.catalog c.args.name.now c.args.on c.args.tests.now table found why (rw (c.schema.ensures, c.as_slice.ensures) at c.in_err-plan.ensures.refused)))

pub rows_different-requires-clause-some : goal.rows_different-requires-clause-some
rows_different-requires-clause-some g c =
    let each : length c.in_ok-plan.plan.on ≡ length c.args.on = rw c.as_slice.ensures at c.in_ok-plan.ensures.each in
    subst (λ n. 0 < n) (sym each) (some_on c.args.self.now.catalog c.args.name.now c.args.on c.args.tests.now c.requires)

pub rows_different-requires-clause-on : goal.rows_different-requires-clause-on
rows_different-requires-clause-on g c = rw c.schema.ensures at c.in_ok-plan.ensures.within

pub returns-in_err-rows : goal.returns-in_err-rows
returns-in_err-rows g c =
    let self = c.args.self.now in
    let db = self.catalog in
    let table = c.in_ok-table.table.now in
    let plan = c.in_ok-plan.plan in
    let found : table_at db c.args.name.now ≡ Some table = sym c.get.ensures ∙ ap option_copied c.in_ok-table.ensures.ok_part in
    let planned : distinct_plan table.schema.columns c.args.on c.args.tests.now ≡ Ok plan = rw (c.schema.ensures, c.as_slice.ensures) at c.in_ok-plan.ensures.planned in
    let steps = distinct_planned db c.args.name.now c.args.on c.args.tests.now table found plan planned in
    let command = Distinct c.args.name.now c.args.on c.args.tests.now in
    let why = c.in_err-rows.field-0.0 in
    passed_on g.S.RunStore.runs command why self _ c.from_residual-in_err-rows.result c.from_residual-in_err-rows.ensures.1
    (carried_over g.S.RunStore.runs command (Err why) self c.rows_different.new.store self.spent c.in_err-rows.ensures.honest refl
    (refused_over db (g.S.RunStore.runs self.store).honest (distinct db c.args.name.now c.args.on c.args.tests.now) c.args.on (Some (keys_planned plan table)) steps why c.in_err-rows.ensures.rows)
    c.in_err-rows.ensures.faults refl)

pub returns : goal.returns
returns g c =
    let self = c.args.self.now in
    let db = self.catalog in
    let table = c.in_ok-table.table.now in
    let plan = c.in_ok-plan.plan in
    let found : table_at db c.args.name.now ≡ Some table = sym c.get.ensures ∙ ap option_copied c.in_ok-table.ensures.ok_part in
    let planned : distinct_plan table.schema.columns c.args.on c.args.tests.now ≡ Ok plan = rw (c.schema.ensures, c.as_slice.ensures) at c.in_ok-plan.ensures.planned in
    let steps = distinct_planned db c.args.name.now c.args.on c.args.tests.now table found plan planned in
    carried_over g.S.RunStore.runs (Distinct c.args.name.now c.args.on c.args.tests.now) (Ok (Rows c.args.on c.in_ok-rows.rows)) self c.rows_different.new.store self.spent c.in_ok-rows.ensures.honest refl
    (shown_over db (g.S.RunStore.runs self.store).honest (distinct db c.args.name.now c.args.on c.args.tests.now) c.args.on (Some (keys_planned plan table)) steps c.args.on c.in_ok-rows.rows refl c.in_ok-rows.ensures.rows)
    c.in_ok-rows.ensures.faults refl
