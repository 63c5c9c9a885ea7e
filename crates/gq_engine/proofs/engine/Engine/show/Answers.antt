use Rattle.std.proofs.Common.{◌≡◌, ◌∙◌, ℕ, List, Some, refl, sym, ap, rules}
use Rattle.std.specs.Prelude.{Result, Ok, Err, IfOk, IfErr}
use Rattle.gq_command.specs.Commands.{column_names}
use Rattle.gq_command.specs.declared.command.Command.TheVariants.{Show}
use Rattle.gq_row.specs.Tables.{PlainTable}
use Rattle.gq_reply.specs.declared.refusal.Refusal.TheVariants.{Memory, NoTable}
use Rattle.gq_reply.specs.declared.refusal.Refused.{Refused}
use Rattle.gq_reply.specs.declared.reply.Reply.{Reply}
use Rattle.gq_reply.specs.declared.reply.Reply.TheVariants as reply
use Rattle.gq_reply.specs.Refusals.{unnumbered}
use Rattle.gq_query.specs.Answers.{rows_shown}
use Rattle.gq_engine.specs.Databases.{Database, table_at}
use Rattle.gq_engine.specs.Serving.{Comes}
use Rattle.gq_engine.specs.Steps.{show_table}
use Rattle.gq_engine.proofs.CarryingLemmas.{carried_plainly}
use Rattle.gq_engine.proofs.FormLemmas.{show_none, show_gives}
use Rattle.gq_engine.proofs.OrderLemmas.{same_tables}
use Rattle.gq_engine.proofs.StepLemmas.{no_memory, refuses, carries}
use Rattle.gq_engine.proofs.engine.Engine.show.Goals as goal

-- the result of showing a table of the database
shown_comes : (db : Database) (name : List ℕ) (table : PlainTable) (result : Result Reply Refused) → table_at db name ≡ Some table
    → IfOk result (λ answer. answer ≡ reply.Rows (column_names table.schema.columns) (rows_shown table)) → IfErr result (λ why. why ≡ unnumbered Memory) → Comes (show_table db name) result db db
shown_comes db name table (Ok (reply.Rows header rows)) found told lost = carries (show_table db name) (reply.Rows header rows) db db (show_gives db name table found ∙ ap (λ (r : Reply). Ok (db, r)) (sym told)) (same_tables db)
shown_comes db name table (Ok (reply.Done n)) found told lost = let none : ⊥ = cc in absurd none
shown_comes db name table (Ok (reply.Refused why number)) found told lost = let none : ⊥ = cc in absurd none
shown_comes db name table (Err why) found told lost = no_memory (show_table db name) why db lost

pub returns : goal.returns
returns g c =
    let db = c.args.self.now.catalog in
    carried_plainly g.S.RunStore.runs (Show c.args.name) (Err c.from.result) c.args.self.now db refl refl
    (refuses (show_table db c.args.name) NoTable c.from.result db c.from.ensures (show_none db c.args.name (search rules)))

pub returns-in-Some : goal.returns-in-Some
returns-in-Some g c =
    let db = c.args.self.now.catalog in
    carried_plainly g.S.RunStore.runs (Show c.args.name) c.all_shown.result c.args.self.now db refl refl
    (shown_comes db c.args.name c.in-Some.table.now c.all_shown.result (search rules) c.all_shown.ensures.shown c.all_shown.ensures.refused)
