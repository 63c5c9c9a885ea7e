use Rattle.std.proofs.Common.{refl}
use Rattle.std.specs.Prelude.{Ok, Err}
use Rattle.gq_command.specs.declared.command.Command.TheVariants.{Upsert}
use Rattle.gq_reply.specs.declared.reply.Reply.TheVariants.{Done}
use Rattle.gq_engine.specs.Steps.{with_row}
use Rattle.gq_engine.proofs.CarryingLemmas.{carried_plainly, change_done, change_refused, passed_on}
use Rattle.gq_engine.proofs.engine.Engine.upsert.Goals as goal

pub returns-in_err-upsert : goal.returns-in_err-upsert
returns-in_err-upsert g c =
    let self = c.args.self.now in
    let command = Upsert c.args.name c.args.row in
    let why = c.in_err-upsert.field-0.0 in
    passed_on g.S.RunStore.runs command why self _ c.from_residual.result c.from_residual.ensures.1
    (carried_plainly g.S.RunStore.runs command (Err why) self c.upsert.new.self refl refl
    (change_refused (Unit {0}) (with_row self.limits.bounds self.catalog c.args.name c.args.row) 1 self.catalog c.upsert.new.self why (rw c.as_str.ensures at c.in_err-upsert.ensures)))

pub returns : goal.returns
returns g c =
    let self = c.args.self.now in
    carried_plainly g.S.RunStore.runs (Upsert c.args.name c.args.row) (Ok (Done 1)) self c.upsert.new.self refl refl
    (change_done (with_row self.limits.bounds self.catalog c.args.name c.args.row) 1 self.catalog c.upsert.new.self c.in_ok-upsert.field-0 (rw c.as_str.ensures at c.in_ok-upsert.ensures))
