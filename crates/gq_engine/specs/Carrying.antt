-- What carrying out a command did to an engine.
use Rattle.std.specs.Prelude.{◌≡◌, ◌∷◌, [], true, Result}
use Rattle.gq_command.specs.declared.command.Command.{Command}
use Rattle.gq_spill.specs.Runs.{Runs}
use Rattle.gq_reply.specs.declared.refusal.Refused.{Refused}
use Rattle.gq_reply.specs.declared.reply.Reply.{Reply}
use Rattle.gq_engine.specs.declared.engine.Engine.{Engine}
use Rattle.gq_engine.specs.Engines.{budget_of, database, failures_of, setting_of, spent_of}
use Rattle.gq_engine.specs.Runs.{FaultsHappened, is_grouping, takes_no_memory}
use Rattle.gq_engine.specs.Serving.{ComesOver, ComesSurely, reply_of}
use Rattle.gq_engine.specs.Spending.{Spends}
use Rattle.gq_engine.specs.Steps.{outcome}

-- A command was carried out, or refused: its result and the tables are what its steps come to, and all else is as it was but for what was spent and the store's failures.
pub record Carried {H S : Type 0} (runs : S → Runs) (command : Command) (result : Result Reply Refused) (old new : Engine H S) : Type 0 where
  pub comes : ComesOver (is_grouping command) (setting_of runs old).honest (outcome (setting_of runs old).limits (database old) command) result (database old) (database new)
  pub faults : FaultsHappened (reply_of result ∷ []) (failures_of runs old) (failures_of runs new)
  pub sure : takes_no_memory command ≡ true → ComesSurely (outcome (setting_of runs old).limits (database old) command) result (database old) (database new)
  pub setting : setting_of runs new ≡ setting_of runs old
  pub spent : Spends (setting_of runs old).honest (budget_of old) (database old) command (reply_of result) (spent_of old) (spent_of new)
  pub budget : budget_of new ≡ budget_of old
