use Rattle.std.proofs.Common.{ℕ, List, refl, subst}
use Rattle.gq_command.specs.declared.command.Command.TheVariants.{Drop}
use Rattle.gq_engine.specs.Engines.{database, setting_of}
use Rattle.gq_command.specs.declared.reader.Item.TheVariants as item
use Rattle.gq_engine.specs.Runs.{AnsweredAsLists}
use Rattle.gq_tables.proofs.LoadLemmas.{dropped_last}
use Rattle.gq_tables.proofs.table.drop_table.Goals as goal

pub returns-clause-dropped : goal.returns-clause-dropped
returns-clause-dropped g c = λ before table none same.
    dropped_last (setting_of g.S.RunStore.runs c.args.engine.now).limits (database c.args.engine.now) (database c.execute-done.new.self) before c.args.word.now.name table c.execute-done.result
    (subst (λ (name : List ℕ). AnsweredAsLists (setting_of g.S.RunStore.runs c.args.engine.now).limits (database c.args.engine.now) (item.Command (Drop name)) c.execute-done.result (database c.execute-done.new.self)) c.in_ok-table.ensures.copied (c.execute-done.ensures.sure refl)) none same
