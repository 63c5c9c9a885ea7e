use Rattle.std.proofs.Common.{◌∷◌, [], sym, subst}
use Rattle.std.specs.Prelude.{Ok, Err}
use Rattle.gq_command.specs.declared.reader.Item.TheVariants as item
use Rattle.gq_reply.specs.declared.reply.Reply.{Reply}
use Rattle.gq_engine.specs.Engines.{budget_of, database, failures_of, setting_of, spent_of}
use Rattle.gq_engine.specs.Runs.{AnsweredAlike, AnsweredAsLists, FaultsHappened, KeptUnlessDone}
use Rattle.gq_engine.specs.Spending.{Spends}
use Rattle.gq_engine.proofs.OrderLemmas.{answered_surely, refused_surely}
use Rattle.gq_engine.proofs.StoreLemmas.{answered_over, kept_over}
use Rattle.gq_engine.proofs.engine.Engine.execute.Goals as goal

pub returns-in-Ok-clause-legal : goal.returns-in-Ok-clause-legal
returns-in-Ok-clause-legal g c =
    answered_over (setting_of g.S.RunStore.runs c.args.self.now) (database c.args.self.now) c.args.command (Ok c.in-Ok.reply) (database c.carry_out.new.self) c.in-Ok.ensures.comes

pub returns-in-Err-clause-legal : goal.returns-in-Err-clause-legal
returns-in-Err-clause-legal g c =
    let P : Reply → Type 0 = λ r. AnsweredAlike (setting_of g.S.RunStore.runs c.args.self.now) (database c.args.self.now) (item.Command c.args.command) r (database c.carry_out.new.self) in
    subst P (sym c.of_refused.ensures) (answered_over (setting_of g.S.RunStore.runs c.args.self.now) (database c.args.self.now) c.args.command (Err c.in-Err.refused) (database c.carry_out.new.self) c.in-Err.ensures.comes)

pub returns-in-Err-clause-faults : goal.returns-in-Err-clause-faults
returns-in-Err-clause-faults g c =
    let P : Reply → Type 0 = λ r. FaultsHappened (r ∷ []) (failures_of g.S.RunStore.runs c.args.self.now) (failures_of g.S.RunStore.runs c.carry_out.new.self) in
    subst P (sym c.of_refused.ensures) c.in-Err.ensures.faults

pub returns-in-Ok-clause-kept : goal.returns-in-Ok-clause-kept
returns-in-Ok-clause-kept g c = kept_over _ _ _ (Ok c.in-Ok.reply) (database c.args.self.now) (database c.carry_out.new.self) c.in-Ok.ensures.comes

pub returns-in-Err-clause-kept : goal.returns-in-Err-clause-kept
returns-in-Err-clause-kept g c =
    let P : Reply → Type 0 = λ r. KeptUnlessDone r (database c.args.self.now) (database c.carry_out.new.self) in
    subst P (sym c.of_refused.ensures) (kept_over _ _ _ (Err c.in-Err.refused) (database c.args.self.now) (database c.carry_out.new.self) c.in-Err.ensures.comes)

pub returns-in-Ok-clause-sure : goal.returns-in-Ok-clause-sure
returns-in-Ok-clause-sure g c =
    λ none. answered_surely (setting_of g.S.RunStore.runs c.args.self.now).limits (database c.args.self.now) c.args.command c.in-Ok.reply (database c.carry_out.new.self) (c.in-Ok.ensures.sure none)

pub returns-in-Err-clause-sure : goal.returns-in-Err-clause-sure
returns-in-Err-clause-sure g c =
    let P : Reply → Type 0 = λ r. AnsweredAsLists (setting_of g.S.RunStore.runs c.args.self.now).limits (database c.args.self.now) (item.Command c.args.command) r (database c.carry_out.new.self) in
    λ none. subst P (sym c.of_refused.ensures) (refused_surely (setting_of g.S.RunStore.runs c.args.self.now).limits (database c.args.self.now) c.args.command c.in-Err.refused (database c.carry_out.new.self) (c.in-Err.ensures.sure none))

pub returns-in-Err-clause-spent : goal.returns-in-Err-clause-spent
returns-in-Err-clause-spent g c =
    let P : Reply → Type 0 = λ r. Spends (setting_of g.S.RunStore.runs c.args.self.now).honest (budget_of c.args.self.now) (database c.args.self.now) c.args.command r (spent_of c.args.self.now) (spent_of c.carry_out.new.self) in
    subst P (sym c.of_refused.ensures) c.in-Err.ensures.spent
