use Rattle.std.proofs.Common.{refl}
use Rattle.std.specs.Prelude.{Ok, Err}
use Rattle.gq_command.specs.declared.command.Command.TheVariants.{Drop}
use Rattle.gq_reply.specs.declared.reply.Reply.TheVariants.{Done}
use Rattle.gq_engine.specs.Steps.{drop_table}
use Rattle.gq_engine.proofs.CarryingLemmas.{carried_surely, passed_on, settled_done}
use Rattle.gq_engine.proofs.engine.Engine.drop_table.Goals as goal

pub returns-in_err-remove : goal.returns-in_err-remove
returns-in_err-remove g c =
    let command = Drop c.args.name in
    let why = c.in_err-remove.field-0.0 in
    passed_on g.S.RunStore.runs command why c.args.self.now _ c.from_residual.result c.from_residual.ensures.1
    (carried_surely g.S.RunStore.runs command (Err why) c.args.self.now c.remove.new.self refl (rw c.as_str.ensures at c.in_err-remove.ensures))

pub returns : goal.returns
returns g c =
    let old = c.args.self.now.catalog in
    carried_surely g.S.RunStore.runs (Drop c.args.name) (Ok (Done 0)) c.args.self.now c.remove.new.self refl
    (settled_done (λ _. Done 0) 0 (drop_table old c.args.name) old c.remove.new.self c.in_ok-remove.field-0 refl (rw c.as_str.ensures at c.in_ok-remove.ensures))
