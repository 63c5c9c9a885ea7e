-- What answering one item and writing its reply did.
use Rattle.std.specs.Prelude.{◌≡◌, ◌⊎◌, ℕ, Bool, true, false, List, ◌∷◌, [], Option, Result, Ok, Err, IsPermutation, if◌then◌else◌, count_by}
use Rattle.std.specs.Io.KnownBytes.{Appends}
use Rattle.gq_row.specs.declared.value.Value.{Value}
use Rattle.gq_row.specs.Tables.{PlainTable, has_row}
use Rattle.gq_table.specs.Changes.{IsDeleted}
use Rattle.gq_group.specs.declared.grouping.Spent.{Spent}
use Rattle.gq_command.specs.declared.reader.Item.{Item}
use Rattle.gq_command.specs.Commands.{Bytes}
use Rattle.gq_reply.specs.declared.refusal.Refusal.TheVariants.{Memory, StoreFault}
use Rattle.gq_reply.specs.declared.refusal.Refused.{Refused}
use Rattle.gq_reply.specs.declared.reply.Reply.{Reply}
use Rattle.gq_reply.specs.declared.reply.Reply.TheVariants as reply
use Rattle.gq_reply.specs.declared.sending.WriteFault.{WriteFault}
use Rattle.gq_engine.specs.Databases.{Database}
use Rattle.gq_engine.specs.Headline.{State}
use Rattle.gq_reply.specs.Refusals.{unnumbered, of_refused}
use Rattle.gq_engine.specs.declared.output.Output.{Output}
use Rattle.gq_engine.specs.Outputs.{text_as}
use Rattle.gq_engine.specs.Runs.{Setting, AnsweredAlike, IsGrouped, is_store_fault, SameTables, KeptUnlessDone, FaultsHappened}
use Rattle.gq_engine.specs.Refusing.{key_within, stored_key}
use Rattle.gq_reply.specs.Sending.{AppendsPrefix}
use Rattle.gq_engine.specs.Steps.{Outcome, settle, key_named}

-- the steps of a command result in this reply, and in tables that are these but for the order of rows
pub record CarriedOut (steps : Outcome) (answer : Reply) (old new : Database) : Type 0 where
  pub last : Database
  pub done : steps ≡ Ok (last, answer)
  pub same : SameTables last new
  pub kept : KeptUnlessDone answer old new

-- what a command did: its steps were carried out, or they are refused, or there was no memory; the last two leave the tables but for the order of rows
abbrev pub Comes : Outcome → Result Reply Refused → Database → Database → Type 0
Comes steps (Ok answer) old new = CarriedOut steps answer old new
Comes steps (Err why) old new = SameTables old new × ((why ≡ unnumbered Memory) ⊎ (steps ≡ Err why))

-- the reply to a command with this result
abbrev pub reply_of : Result Reply Refused → Reply
reply_of (Ok answer) = answer
reply_of (Err why) = of_refused why

-- What a command did over a run store: as above; or, if its steps reach a grouping, the store failed, or the result is any if the store isn't honest. The last two leave the tables but for the order of rows.
pub data ComesOver (grouping honest : Bool) (steps : Outcome) (result : Result Reply Refused) (old new : Database) : Type 0 where
  Plainly : (plain : Comes steps result old new) → ComesOver grouping honest steps result old new
  StoreFails : (groups : grouping ≡ true) (reached : IsGrouped (settle old steps).1) (same : SameTables old new) (fault : result ≡ Err (unnumbered StoreFault)) → ComesOver grouping honest steps result old new
  StoreLies : (groups : grouping ≡ true) (reached : IsGrouped (settle old steps).1) (same : SameTables old new) (lied : honest ≡ false) → ComesOver grouping honest steps result old new

-- The result of a grouping over a run store: that of lists; or there was no memory; or the store failed; or any, if the store isn't honest.
abbrev pub GroupsOver : {X : Type 0} → Bool → Result X Refused → Result X Refused → Type 0
GroupsOver honest steps result = (result ≡ steps) ⊎ ((result ≡ Err (unnumbered Memory)) ⊎ ((result ≡ Err (unnumbered StoreFault)) ⊎ (honest ≡ false)))

-- the rows that a grouping gave, apart from what it took
abbrev pub rows_in : {X : Type 0} → Result (X × Spent) Refused → Result X Refused
rows_in (Ok found) = Ok found.0
rows_in (Err why) = Err why

-- the reply that rows are under their header
abbrev pub under : List Bytes → Result (List (List Value)) Refused → Result Reply Refused
under header (Ok rows) = Ok (reply.Rows header rows)
under header (Err why) = Err why

-- the number of failures of the run store that a result reports
abbrev pub faults_in : {X : Type 0} → Result X Refused → ℕ
faults_in (Ok x) = 0
faults_in (Err why) = count_by is_store_fault (of_refused why ∷ [])

-- the same of a command that takes no memory
abbrev pub ComesSurely : Outcome → Result Reply Refused → Database → Database → Type 0
ComesSurely steps (Ok answer) old new = CarriedOut steps answer old new
ComesSurely steps (Err why) old new = SameTables old new × (steps ≡ Err why)

-- what a step that changes tables did, in the same words
abbrev pub Changes : {X : Type 0} → Result Database Refused → Result X Refused → Database → Database → Type 0
Changes steps (Ok x) old new = (last : Database) × (steps ≡ Ok last) × SameTables last new
Changes steps (Err why) old new = SameTables old new × ((why ≡ unnumbered Memory) ⊎ (steps ≡ Err why))

-- what a command did that takes no memory: what its steps come to, with this answer, or they are refused
abbrev pub Settles : {X : Type 0} → (X → Reply) → Outcome → Result X Refused → Database → Database → Type 0
Settles answer steps (Ok x) old new = (last : Database) × (steps ≡ Ok (last, answer x)) × SameTables last new
Settles answer steps (Err why) old new = SameTables old new × (steps ≡ Err why)

-- a table has the rows that some steps give, but for their order
pub record HasRows (steps : Result (List (List Value)) Refused) (old new : PlainTable) : Type 0 where
  pub given : List (List Value)
  pub done : steps ≡ Ok given
  pub schema : new.schema ≡ old.schema
  pub same : IsPermutation given new.rows

-- what a change of one table did: what its steps come to, or they are refused, or there was no memory; the last two leave the table
abbrev pub Takes : {X : Type 0} → Result (List (List Value)) Refused → Result X Refused → PlainTable → PlainTable → Type 0
Takes steps (Ok x) old new = HasRows steps old new
Takes steps (Err why) old new = (new ≡ old) × ((why ≡ unnumbered Memory) ⊎ (steps ≡ Err why))

-- what a delete from one table did: the row with this key is gone, and the result is whether there was one; or it is refused and the table unchanged
abbrev pub Deletes : List Value → Result Bool Refused → PlainTable → PlainTable → Type 0
Deletes values (Ok found) old new =
    (key_within old.schema (stored_key old.schema.columns old.schema.key values) ≡ Ok tt) × IsDeleted old (key_named old.schema values) new × (found ≡ has_row old.schema.key old.rows (key_named old.schema values))
Deletes values (Err why) old new = (new ≡ old) × (key_within old.schema (stored_key old.schema.columns old.schema.key values) ≡ Err why)

-- the reply to a delete
abbrev pub deleted : Bool → Reply
deleted found = reply.Done (if found then 1 else 0)

-- an item was answered, and what the reply brings to the output was written
pub record Wrote (output : Output) (earlier : Bool) (setting : Setting) (old : State) (it : Item) (new : State) (before after : Option Bytes) (answer : Reply) : Type 0 where
  pub legal : AnsweredAlike setting old.database it answer new.database
  pub faults : FaultsHappened (answer ∷ []) old.failures new.failures
  pub written : Appends before after (text_as output earlier answer)

-- an item was answered, and a prefix of the answer was written
pub record WrotePrefix (output : Output) (earlier : Bool) (setting : Setting) (old : State) (it : Item) (new : State) (before after : Option Bytes) : Type 0 where
  pub answer : Reply
  pub legal : AnsweredAlike setting old.database it answer new.database
  pub faults : FaultsHappened (answer ∷ []) old.failures new.failures
  pub written : AppendsPrefix before after (text_as output earlier answer)

abbrev pub Served : Output → Bool → Setting → State → Item → State → Option Bytes → Option Bytes → Result Reply WriteFault → Type 0
Served output earlier setting old it new before after (Ok answer) = Wrote output earlier setting old it new before after answer
Served output earlier setting old it new before after (Err e) = WrotePrefix output earlier setting old it new before after
