-- Contracts of single functions: a database with one table more.
use Rattle.std.specs.Prelude.{◌≡◌, ℕ, Bool, true, false, List, [], ◌∷◌, ◌++◌, All, bytes_eq, drop, map, take, Option, Some, None, Result}
use Rattle.std.specs.declared.io.Error.{Error}
use Rattle.gq_row.specs.declared.limits.Bounds.{Bounds}
use Rattle.gq_row.specs.declared.schema.Column.{Column}
use Rattle.gq_row.specs.Schemas.{positions_of}
use Rattle.gq_row.specs.Repeats.{without_repeats}
use Rattle.gq_row.specs.Tables.{PlainTable}
use Rattle.gq_load.specs.declared.short_records.Short.{Short}
use Rattle.gq_command.specs.Commands.{Bytes}
use Rattle.gq_command.specs.declared.command.Command.{Command}
use Rattle.gq_command.specs.declared.command.Payload.TheVariants as payload
use Rattle.gq_command.specs.declared.reader.Item.TheVariants as Item
use Rattle.gq_reply.specs.declared.refusal.Refusal.TheVariants.{Memory}
use Rattle.gq_reply.specs.declared.reply.Reply.{Reply}
use Rattle.gq_reply.specs.declared.reply.Reply.TheVariants as reply
use Rattle.gq_reply.specs.Refusals.{of_refused}
use Rattle.gq_reply.specs.Replies.{is_refusal}
use Rattle.gq_engine.specs.Databases.{Database, table_at}
use Rattle.gq_engine.specs.Runs.{AnsweredAlike, SameTables, Setting}
use Rattle.gq_engine.specs.Serving.{CarriedOut}
use Rattle.gq_engine.specs.Steps.{load_table}
use Rattle.gq_infer.specs.declared.word.TableWord.{TableWord}
use Rattle.gq_tables.specs.declared.fault.Why.{Why}
use Rattle.gq_tables.specs.declared.files.Files.{Files}
use Rattle.gq_tables.specs.Files.{Knows}
use Rattle.gq_tables.specs.Made.{HasRowsOf, IsTableOf, files_of, of_name}
use Rattle.gq_tables.specs.Reasons.{IfRefused}

-- a database is the one before and a table of a name, but for the order of rows
pub record IsWith (before : Database) (name : Bytes) (P : PlainTable → Type 0) (db : Database) : Type 0 where
  pub table : PlainTable
  pub is : P table
  pub same : SameTables (before ++ (name, table) ∷ []) db

-- a table of these columns and this key, without rows
pub record IsEmpty (columns : List Column) (key : List Bytes) (table : PlainTable) : Type 0 where
  pub columns_are : table.schema.columns ≡ columns
  pub key_is : positions_of columns key ≡ Some table.schema.key
  pub rows_are : table.rows ≡ []

-- a table of these columns and this key has the rows of the files of words, of which only the first may give columns
pub record IsFilled (contents : Bytes → Bytes) (short : Short) (limits : Bounds) (columns : List Column) (key : List Bytes) (words : List TableWord) (table : PlainTable) : Type 0 where
  pub columns_are : table.schema.columns ≡ columns
  pub key_is : positions_of columns key ≡ Some table.schema.key
  pub plain : All (λ (word : TableWord). word.columns ≡ None) (drop 1 words)
  pub filled : HasRowsOf short limits (files_of contents words) table

-- a command was answered, and not refused
pub record HasDone (setting : Setting) (old : Database) (command : Command) (new : Database) : Type 0 where
  pub answer : Reply
  pub alike : AnsweredAlike setting old (Item.Command command) answer new
  pub fine : is_refusal answer ≡ false

-- a command was refused, other than by an allocation
abbrev pub HasRefused : Setting → Database → Command → Database → Why → Type 0
HasRefused setting old command new why = IfRefused why (λ refused. AnsweredAlike setting old (Item.Command command) (of_refused refused) new × (refused.why ≡ Memory → ⊥))

-- a load of a file was carried out
pub record HasLoadedFile (short : Short) (limits : Bounds) (old : Database) (name bytes : Bytes) (new : Database) : Type 0 where
  pub count : ℕ
  pub done : CarriedOut (load_table short limits old name (payload.Bytes bytes)) (reply.Done count) old new

-- the tables of the names of the first words are made
pub record MadeUpTo (contents : Bytes → Bytes) (short : Short) (limits : Bounds) (words : List TableWord) (at : ℕ) (db : Database) : Type 0 where
  pub names : map (λ (entry : Bytes × PlainTable). entry.0) db ≡ without_repeats bytes_eq (map (λ (word : TableWord). word.name) (take at words))
  pub tables : All (λ (entry : Bytes × PlainTable). IsTableOf contents short limits (of_name entry.0 words) entry.1) db

-- a table was made, or nothing is changed but the order of rows
abbrev pub MadeOrSame : Bool → Type 0 → Database → Database → Type 0
MadeOrSame true Made old new = Made
MadeOrSame false Made old new = SameTables old new

-- the table of the word at a position was made, from the files of the words before `end`
abbrev pub HasMade : {S F : Type 0} → (S → Option Bytes) → (Bytes → Result S Error → Type 0) → Files F → ℕ → ℕ → Bounds → Database → Database → Type 0
HasMade remaining opens files at end limits old new =
    (contents : Bytes → Bytes) (first : TableWord) → Knows remaining opens files at contents first → table_at old first.name ≡ None
    → IsWith old first.name (IsTableOf contents files.short limits (of_name first.name (take end files.words.now))) new
