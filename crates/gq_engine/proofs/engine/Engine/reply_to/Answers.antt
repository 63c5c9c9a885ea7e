use Rattle.std.proofs.Common.{sym, subst, ap, ◌∙◌}
use Rattle.gq_command.specs.declared.reader.Item.{Item}
use Rattle.gq_command.specs.declared.reader.Item.TheVariants as item
use Rattle.gq_engine.specs.Engines.{database, setting_of}
use Rattle.gq_engine.specs.Runs.{AnsweredAlike, AsListsAnswer, KeptUnlessDone}
use Rattle.gq_reply.specs.declared.reply.Reply.{Reply}
use Rattle.gq_reply.specs.Refusals.{refused}
use Rattle.gq_engine.proofs.OrderLemmas.{answered_exactly, same_tables}
use Rattle.gq_engine.proofs.engine.Engine.reply_to.Goals as goal

pub returns-in-Refused-clause-legal : goal.returns-in-Refused-clause-legal
returns-in-Refused-clause-legal g c =
    let setting = setting_of g.S.RunStore.runs c.args.self.now in
    let db = database c.args.self.now in
    let P : Item → Type 0 = λ it. AnsweredAlike setting db it c.refused.result db in
    subst P (sym c.in-Refused.is) (answered_exactly setting db (item.Refused c.in-Refused.why) c.refused.result db (AsListsAnswer (λ i. (db, (c.refused.ensures ∙ ap refused c.refusal_of.ensures) i))))

pub returns-in-Refused-clause-kept : goal.returns-in-Refused-clause-kept
returns-in-Refused-clause-kept g c =
    let db = database c.args.self.now in
    let P : Reply → Type 0 = λ r. KeptUnlessDone r db db in
    subst P (sym c.refused.ensures) (same_tables db)
