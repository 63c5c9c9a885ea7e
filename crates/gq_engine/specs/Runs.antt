-- Legal runs: how the items of a script may be answered, one after the other.
use Rattle.std.specs.Prelude.{◌≡◌, ◌⊎◌, ◌+◌, ◌≤◌, ℕ, Bool, true, false, List, [], ◌∷◌, count_by, IsPermutation}
use Rattle.gq_row.specs.declared.limits.Bounds.{Bounds}
use Rattle.gq_command.specs.declared.command.Command.{Command}
use Rattle.gq_command.specs.declared.command.Command.TheVariants.{Create, Drop, Load, Upsert, Delete, Show, Group, Distinct}
use Rattle.gq_command.specs.declared.reader.Item.{Item}
use Rattle.gq_command.specs.declared.reader.Item.TheVariants as item
use Rattle.gq_command.specs.Script.{Entry}
use Rattle.gq_command.specs.Items.{ReadsAs}
use Rattle.gq_reply.specs.declared.refusal.Refusal.TheVariants.{Memory, SumRange, StoreFault}
use Rattle.gq_reply.specs.declared.reply.Reply.{Reply}
use Rattle.gq_reply.specs.declared.reply.Reply.TheVariants as reply
use Rattle.gq_engine.specs.Databases.{Database}
use Rattle.gq_reply.specs.Refusals.{refused}
use Rattle.gq_engine.specs.Steps.{step}

-- what an engine runs under: its limits, and whether its run store reads back what was written
pub record Setting : Type 0 where
  pub limits : Bounds
  pub honest : Bool

-- the commands that group rows
abbrev pub is_grouping : Command → Bool
is_grouping (Create table columns key) = false
is_grouping (Drop table) = false
is_grouping (Load table carried) = false
is_grouping (Upsert table values) = false
is_grouping (Delete table values) = false
is_grouping (Show table) = false
is_grouping (Group table by shown tests exists having) = true
is_grouping (Distinct table on tests) = true

-- the replies that only grouping finds
abbrev pub IsGrouped : Reply → Type 0
IsGrouped (reply.Rows header rows) = Unit {0}
IsGrouped (reply.Done n) = ⊥
IsGrouped (reply.Refused why number) = why ≡ SumRange

-- whether answering the item gets as far as grouping, which may take the run store
abbrev pub ReachesGrouping : Bounds → Database → Item → Type 0
ReachesGrouping limits old (item.Command c) = (is_grouping c ≡ true) × IsGrouped (step limits old (item.Command c)).1
ReachesGrouping limits old (item.Refused why) = ⊥

-- From the database old an item may be answered by this reply and leave new: as plain lists answer it; or with Memory; or, if it reaches its grouping, with StoreFault, or in any way if the run store isn't honest. The last three leave the database.
pub data LegalAnswer (setting : Setting) (old : Database) (it : Item) (answer : Reply) (new : Database) : Type 0 where
  AsListsAnswer : (said : (new, answer) ≡ step setting.limits old it) → LegalAnswer setting old it answer new
  WantsMemory : (kept : new ≡ old) (memory : answer ≡ refused Memory) → LegalAnswer setting old it answer new
  StoreFailed : (kept : new ≡ old) (grouping : ReachesGrouping setting.limits old it) (fault : answer ≡ refused StoreFault) → LegalAnswer setting old it answer new
  StoreLied : (kept : new ≡ old) (grouping : ReachesGrouping setting.limits old it) (lied : setting.honest ≡ false) → LegalAnswer setting old it answer new

-- An entry of a script may be answered so, by what it is read as; or with Memory, if an allocation fails while it is read.
abbrev pub LegalStep : Setting → Database → Entry → Reply → Database → Type 0
LegalStep setting old entry answer new =
    ((it : Item) × ReadsAs setting.limits entry it × LegalAnswer setting old it answer new)
    ⊎ ((new ≡ old) × (answer ≡ refused Memory))

-- The entries may be answered by these replies, one for each and in their order, from old to new.
abbrev pub LegalRun : Setting → Database → List Entry → List Reply → Database → Type 0
LegalRun setting old [] [] new = new ≡ old
LegalRun setting old [] (answer ∷ answers) new = ⊥
LegalRun setting old (entry ∷ entries) [] new = ⊥
LegalRun setting old (entry ∷ entries) (answer ∷ answers) new =
    (between : Database) × LegalStep setting old entry answer between × LegalRun setting between entries answers new

-- each StoreFault among the replies is one of the run store's failures, by its count before and after
abbrev pub is_store_fault : Reply → Bool
is_store_fault (reply.Done n) = false
is_store_fault (reply.Rows header rows) = false
is_store_fault (reply.Refused StoreFault number) = true
is_store_fault (reply.Refused why number) = false

abbrev pub FaultsHappened : List Reply → ℕ → ℕ → Type 0
FaultsHappened answers before after = before + count_by is_store_fault answers ≤ after

-- databases that differ only in the order of the rows within tables
abbrev pub SameTables : Database → Database → Type 0
SameTables [] [] = Unit {0}
SameTables [] (b ∷ bs) = ⊥
SameTables (a ∷ rest) [] = ⊥
SameTables (a ∷ rest) (b ∷ bs) = (a.0 ≡ b.0) × (a.1.schema ≡ b.1.schema) × IsPermutation a.1.rows b.1.rows × SameTables rest bs

-- an item was answered legally from the database old, up to the order of rows within tables
pub record AnsweredAlike (setting : Setting) (old : Database) (it : Item) (answer : Reply) (new : Database) : Type 0 where
  pub last : Database
  pub legal : LegalAnswer setting old it answer last
  pub same : SameTables last new

-- the commands that take no memory
abbrev pub takes_no_memory : Command → Bool
takes_no_memory (Create table columns key) = false
takes_no_memory (Drop table) = true
takes_no_memory (Load table carried) = false
takes_no_memory (Upsert table values) = false
takes_no_memory (Delete table values) = true
takes_no_memory (Show table) = false
takes_no_memory (Group table by shown tests exists having) = false
takes_no_memory (Distinct table on tests) = false

-- an item was answered as plain lists answer it, up to the order of rows within tables
pub record AnsweredAsLists (limits : Bounds) (old : Database) (it : Item) (answer : Reply) (new : Database) : Type 0 where
  pub reply : answer ≡ (step limits old it).1
  pub same : SameTables (step limits old it).0 new

-- only a command that was carried out may leave other tables
abbrev pub KeptUnlessDone : Reply → Database → Database → Type 0
KeptUnlessDone (reply.Done n) old new = Unit {0}
KeptUnlessDone (reply.Rows header rows) old new = SameTables old new
KeptUnlessDone (reply.Refused why number) old new = SameTables old new

-- What is left of a legal run if the run store neither failed nor lied: each entry is answered as plain lists answer it, or refused with Memory.
abbrev pub PlainStep : Bounds → Database → Entry → Reply → Database → Type 0
PlainStep limits old entry answer new =
    ((it : Item) × ReadsAs limits entry it × ((new, answer) ≡ step limits old it))
    ⊎ ((new ≡ old) × (answer ≡ refused Memory))

abbrev pub PlainRun : Bounds → Database → List Entry → List Reply → Database → Type 0
PlainRun limits old [] [] new = new ≡ old
PlainRun limits old [] (answer ∷ answers) new = ⊥
PlainRun limits old (entry ∷ entries) [] new = ⊥
PlainRun limits old (entry ∷ entries) (answer ∷ answers) new =
    (between : Database) × PlainStep limits old entry answer between × PlainRun limits between entries answers new

abbrev pub OnlyMemoryRefuses : Type 0
OnlyMemoryRefuses = (setting : Setting) (old : Database) (entries : List Entry) (answers : List Reply) (new : Database) (failures : ℕ)
    → setting.honest ≡ true → FaultsHappened answers failures failures → LegalRun setting old entries answers new → PlainRun setting.limits old entries answers new
