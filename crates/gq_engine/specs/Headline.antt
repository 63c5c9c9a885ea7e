-- What a run of an engine did.
use Rattle.std.specs.Prelude.{◌≡◌, ◌≤◌, ⊤, ℕ, List, ◌∷◌, ◌++◌, [], length, flat_map, count_by, Option, Some, None, Result, Ok, Err}
use Rattle.std.specs.Io.KnownBytes.{Appends}
use Rattle.gq_command.specs.Commands.{Bytes}
use Rattle.gq_command.specs.Script.{Entry, items}
use Rattle.gq_reply.specs.declared.reply.Reply.{Reply}
use Rattle.gq_engine.specs.declared.run.Summary.{Summary}
use Rattle.gq_engine.specs.declared.run.Fault.{Fault}
use Rattle.gq_engine.specs.declared.run.Fault.TheVariants as fault
use Rattle.gq_engine.specs.Databases.{Database}
use Rattle.gq_reply.specs.Replies.{text, is_refusal}
use Rattle.gq_engine.specs.Runs.{Setting, LegalRun, SameTables, FaultsHappened}

-- what a run changes of an engine: its tables, and its run store's count of failures
pub record State : Type 0 where
  pub database : Database
  pub failures : ℕ

-- The entries were answered by these replies, from the tables that the engine held to those that it holds, up to the order of rows.
pub record Answered (setting : Setting) (old : State) (entries : List Entry) (new : State) (replies : List Reply) : Type 0 where
  pub last : Database
  pub legal : LegalRun setting old.database entries replies last
  pub same : SameTables last new.database
  pub faults : FaultsHappened replies old.failures new.failures

-- A run that reached the script's end wrote the texts of the replies to all its items, and counted them; the script is within the limit on its bytes.
pub record RanToEnd (setting : Setting) (old : State) (script : Bytes) (new : State) (before after : Option Bytes) (summary : Summary) : Type 0 where
  pub within : length script ≤ setting.limits.script
  pub replies : List Reply
  pub answered : Answered setting old (items setting.limits script) new replies
  pub written : Appends before after (flat_map text replies)
  pub commands : summary.commands ≡ length replies
  pub refused : summary.refused ≡ count_by is_refusal replies

-- A run that a read fault ended wrote the texts of the replies to some first items.
pub record StoppedReading (setting : Setting) (old : State) (script : Bytes) (new : State) (before after : Option Bytes) : Type 0 where
  pub done : List Entry
  pub left : List Entry
  pub first : items setting.limits script ≡ done ++ left
  pub replies : List Reply
  pub answered : Answered setting old done new replies
  pub written : Appends before after (flat_map text replies)

-- A run that a write fault ended wrote those texts too, but only a prefix of the last reply's; the tables are those after that reply's command.
pub record StoppedWriting (setting : Setting) (old : State) (script : Bytes) (new : State) (before after : Option Bytes) : Type 0 where
  pub done : List Entry
  pub left : List Entry
  pub first : items setting.limits script ≡ done ++ left
  pub replies : List Reply
  pub last : Reply
  pub answered : Answered setting old done new (replies ++ last ∷ [])
  pub prefix : Bytes
  pub rest : Bytes
  pub cut : text last ≡ prefix ++ rest
  pub written : Appends before after (flat_map text replies ++ prefix)

-- What a run did, where the script's bytes are known; before and after are the writer's bytes.
abbrev pub Ran : Setting → State → Option Bytes → State → Option Bytes → Option Bytes → Result Summary Fault → Type 0
Ran setting old None new before after ended = ⊤
Ran setting old (Some script) new before after (Ok summary) = RanToEnd setting old script new before after summary
Ran setting old (Some script) new before after (Err fault.Read) = StoppedReading setting old script new before after
Ran setting old (Some script) new before after (Err fault.Write) = StoppedWriting setting old script new before after
