use Rattle.std.proofs.Common.{◌≡◌, refl, rules}
use Rattle.std.specs.Prelude.{Ok, Err}
use Rattle.gq_command.specs.declared.command.Command.TheVariants.{Delete}
use Rattle.gq_reply.specs.declared.reply.Reply.TheVariants.{Done}
use Rattle.gq_engine.specs.Serving.{deleted}
use Rattle.gq_engine.specs.Steps.{delete_row}
use Rattle.gq_engine.proofs.CarryingLemmas.{carried_surely, passed_on, settled_done}
use Rattle.gq_engine.proofs.engine.Engine.delete.Goals as goal

pub returns-in_err-found : goal.returns-in_err-found
returns-in_err-found g c =
    let command = Delete c.args.name c.args.values in
    let why = c.in_err-found.field-0.0 in
    passed_on g.S.RunStore.runs command why c.args.self.now _ c.from_residual.result c.from_residual.ensures.1
    (carried_surely g.S.RunStore.runs command (Err why) c.args.self.now c.delete.new.self refl (rw (c.as_str.ensures, c.as_mut_slice.ensures.value, c.into_cells-values.ensures) at c.in_err-found.ensures))

pub returns : goal.returns
returns g c =
    let old = c.args.self.now.catalog in
    let told : deleted c.in_ok-found.found ≡ Done c.from.result = search rules in
    carried_surely g.S.RunStore.runs (Delete c.args.name c.args.values) (Ok (Done c.from.result)) c.args.self.now c.delete.new.self refl
    (settled_done deleted c.from.result (delete_row old c.args.name c.args.values) old c.delete.new.self c.in_ok-found.found told
    (rw (c.as_str.ensures, c.as_mut_slice.ensures.value, c.into_cells-values.ensures) at c.in_ok-found.ensures))
