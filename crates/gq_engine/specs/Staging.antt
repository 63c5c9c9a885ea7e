-- Rows that were read, on their way into a table.
use Rattle.std.specs.Prelude.{◌≡◌, ℕ, false, List, [], length, Option, Some, IfSome, option_map, Result, Ok, Err, IsPermutation}
use Rattle.gq_row.specs.declared.value.Value.{Value}
use Rattle.gq_row.specs.declared.limits.Bounds.{Bounds}
use Rattle.gq_row.specs.Schemas.{PlainSchema}
use Rattle.gq_row.specs.Tables.{PlainTable, put_all}
use Rattle.gq_load.specs.declared.short_records.Short.{Short}
use Rattle.gq_load.specs.declared.short_records.Short.TheVariants as short
use Rattle.gq_command.specs.Commands.{Bytes}
use Rattle.gq_command.specs.declared.command.Payload.{Payload}
use Rattle.gq_reply.specs.declared.refusal.Refused.{Refused}
use Rattle.gq_reply.specs.declared.reply.Reply.TheVariants as reply
use Rattle.gq_engine.specs.declared.csv_fault.CsvFault.{CsvFault}
use Rattle.gq_engine.specs.declared.csv_fault.CsvFault.TheVariants as csv_fault
use Rattle.gq_engine.specs.Databases.{Database, table_at}
use Rattle.gq_engine.specs.Loading.{payload_bytes, is_lost, csv_rows}
use Rattle.gq_engine.specs.Runs.{SameTables}
use Rattle.gq_engine.specs.Serving.{Comes}
use Rattle.gq_engine.specs.Steps.{Outcome, with_rows}

-- a table of this schema has rows as if each were put, and this is their number; where it is known what reading gives, they are those rows
pub record HasStaged (read : Option (Result (List (List Value)) Refused)) (schema : PlainSchema) (staged : PlainTable) (count : ℕ) : Type 0 where
  pub rows : List (List Value)
  pub told : IfSome read (λ given. given ≡ Ok rows)
  pub counted : count ≡ length rows
  pub same : staged.schema ≡ schema
  pub put : IsPermutation (put_all schema.key [] rows) staged.rows

-- a table has the rows that a payload gives for the table of a name, as if each were put, and this is their number
pub record IsStagedFor (limits : Bounds) (db : Database) (name : List ℕ) (payload : Payload) (own : PlainTable) (count : ℕ) : Type 0 where
  pub table : PlainTable
  pub bytes : Bytes
  pub found : table_at db name ≡ Some table
  pub carried : is_lost payload ≡ false
  pub told : payload_bytes payload ≡ Ok bytes
  pub staged : HasStaged (Some (csv_rows short.Refused limits table.schema bytes)) table.schema own count

-- the same of a CSV text, whose bytes may be known
pub record IsStagedFrom (flag : Short) (limits : Bounds) (db : Database) (name : List ℕ) (text : Option Bytes) (own : PlainTable) (count : ℕ) : Type 0 where
  pub table : PlainTable
  pub found : table_at db name ≡ Some table
  pub staged : HasStaged (option_map (csv_rows flag limits table.schema) text) table.schema own count

-- rows, of this number, were put into the table of a name, and that is all
pub record HasPut (limits : Bounds) (old : Database) (name : List ℕ) (count : ℕ) (new : Database) : Type 0 where
  pub rows : List (List Value)
  pub counted : count ≡ length rows
  pub last : Database
  pub done : with_rows limits old name rows ≡ Ok last
  pub same : SameTables last new

-- what loading a CSV text into a table did, by the steps of a load of it: they were carried out, or are refused, or there was no memory, or a read failed; the last three leave the tables but for the order of rows
abbrev pub HasLoaded : Outcome → Result ℕ CsvFault → Database → Database → Type 0
HasLoaded steps (Ok count) old new = Comes steps (Ok (reply.Done count)) old new
HasLoaded steps (Err (csv_fault.Refused why)) old new = Comes steps (Err why) old new
HasLoaded steps (Err csv_fault.Read) old new = SameTables old new
