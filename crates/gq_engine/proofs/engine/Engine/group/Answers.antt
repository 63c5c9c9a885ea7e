use Rattle.std.proofs.Common.{◌≡◌, List, true, refl, sym, subst}
use Rattle.std.specs.Prelude.{Ok, Err}
use Rattle.gq_command.specs.Commands.{Bytes}
use Rattle.gq_command.specs.declared.command.Command.TheVariants.{Group}
use Rattle.gq_reply.specs.declared.refusal.Refusal.TheVariants.{Memory}
use Rattle.gq_reply.specs.declared.reply.Reply.TheVariants as reply
use Rattle.gq_reply.specs.Refusals.{unnumbered}
use Rattle.gq_plan.specs.Headers.{group_header}
use Rattle.gq_engine.specs.Serving.{ComesOver}
use Rattle.gq_engine.specs.Steps.{group}
use Rattle.gq_engine.proofs.CarryingLemmas.{carried_over, carried_plainly, passed_on}
use Rattle.gq_engine.proofs.StepLemmas.{no_memory}
use Rattle.gq_engine.proofs.engine.Engine.group.Goals as goal

pub returns-in_err-header : goal.returns-in_err-header
returns-in_err-header g c =
    let self = c.args.self.now in
    let asked = c.args.clauses.now in
    let command = Group c.args.name.now asked.by asked.shown asked.tests asked.exists asked.having in
    let why = unnumbered Memory in
    passed_on g.S.RunStore.runs command why self self c.from_residual.result c.from_residual.ensures.1
    (carried_plainly g.S.RunStore.runs command (Err why) self self.catalog refl refl (no_memory (group self.catalog c.args.name.now asked) why self.catalog refl))

pub returns-in_err-rows : goal.returns-in_err-rows
returns-in_err-rows g c =
    let self = c.args.self.now in
    let asked = c.args.clauses.now in
    let command = Group c.args.name.now asked.by asked.shown asked.tests asked.exists asked.having in
    let why = c.in_err-rows.field-0.0 in
    passed_on g.S.RunStore.runs command why self _ c.from_residual-in_err-rows.result c.from_residual-in_err-rows.ensures.1
    (carried_over g.S.RunStore.runs command (Err why) self c.rows_asked.new.store self.spent c.in_err-rows.ensures.honest refl c.in_err-rows.ensures.comes c.in_err-rows.ensures.faults refl)

pub returns : goal.returns
returns g c =
    let self = c.args.self.now in
    let asked = c.args.clauses.now in
    let command = Group c.args.name.now asked.by asked.shown asked.tests asked.exists asked.having in
    let honest = (g.S.RunStore.runs self.store).honest in
    let header : c.in_ok-header.header ≡ group_header asked.by asked.shown = rw c.as_slice.ensures at c.in_ok-header.ensures in
    carried_over g.S.RunStore.runs command (Ok (reply.Rows c.in_ok-header.header c.in_ok-rows.rows)) self c.rows_asked.new.store c.in_ok-rows.spent c.in_ok-rows.ensures.honest refl
    (subst (λ (l : List Bytes). ComesOver true honest (group self.catalog c.args.name.now asked) (Ok (reply.Rows l c.in_ok-rows.rows)) self.catalog self.catalog) (sym header) c.in_ok-rows.ensures.comes)
    c.in_ok-rows.ensures.faults c.in_ok-rows.ensures.spent
