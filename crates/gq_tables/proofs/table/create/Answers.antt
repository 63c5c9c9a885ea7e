use Rattle.std.proofs.Common.{ℕ, List, subst}
use Rattle.std.proofs.lemmas.Result.{IfOk-weaker, IfErr-weaker}
use Rattle.gq_engine.specs.Engines.{database, setting_of}
use Rattle.gq_tables.specs.Steps.{IsEmpty, IsWith, HasRefused}
use Rattle.gq_tables.proofs.LoadLemmas.{created}
use Rattle.gq_tables.proofs.ReasonLemmas.{create_refused}
use Rattle.gq_command.specs.declared.command.Command.TheVariants.{Create}
use Rattle.gq_tables.proofs.table.create.Goals as goal

pub carry_out-requires : goal.carry_out-requires
carry_out-requires g c = c.requires c.in_ok-table.table

pub returns-clause-created : goal.returns-clause-created
returns-clause-created g c =
    IfOk-weaker c.carry_out.result _ _
    (λ _ done. subst (λ (name : List ℕ). IsWith (database c.args.engine.now) name (IsEmpty c.args.columns c.args.key) (database c.carry_out.new.engine)) c.in_ok-table.ensures.copied
    (created (setting_of g.S.RunStore.runs c.args.engine.now) (database c.args.engine.now) (database c.carry_out.new.engine) c.in_ok-table.table c.args.columns c.args.key done))
    c.carry_out.ensures.done

pub returns-clause-refused : goal.returns-clause-refused
returns-clause-refused g c =
    IfErr-weaker c.carry_out.result _ _
    (λ why refused short file.
    create_refused short file c.args.word.now (setting_of g.S.RunStore.runs c.args.engine.now) (database c.args.engine.now) (database c.carry_out.new.engine) c.args.columns c.args.key why
    (subst (λ (name : List ℕ). HasRefused (setting_of g.S.RunStore.runs c.args.engine.now) (database c.args.engine.now) (Create name c.args.columns c.args.key) (database c.carry_out.new.engine) why) c.in_ok-table.ensures.copied refused))
    c.carry_out.ensures.refused
