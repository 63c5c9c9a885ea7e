-- A load does what the upserts of its rows do.
use Rattle.std.specs.Prelude.{◌≡◌, ℕ, List, length, map, Some, Ok}
use Rattle.gq_row.specs.declared.value.Value.{Value}
use Rattle.gq_row.specs.declared.value.Value.TheVariants.{Null, Int, Text, NoCase}
use Rattle.gq_row.specs.declared.limits.Bounds.{Bounds}
use Rattle.gq_row.specs.Tables.{PlainTable}
use Rattle.gq_load.specs.declared.short_records.Short.TheVariants as short
use Rattle.gq_load.specs.Payloads.{load}
use Rattle.gq_command.specs.declared.command.Command.TheVariants.{Load, Upsert}
use Rattle.gq_command.specs.declared.command.Payload.TheVariants as payload
use Rattle.gq_command.specs.declared.reader.Item.{Item}
use Rattle.gq_command.specs.declared.reader.Item.TheVariants as item
use Rattle.gq_command.specs.Commands.{Bytes}
use Rattle.gq_reply.specs.declared.reply.Reply.TheVariants as reply
use Rattle.gq_engine.specs.Databases.{Database, table_at}
use Rattle.gq_engine.specs.Orders.{after_all, replies_to}
use Rattle.gq_engine.specs.Steps.{step}

-- the literal of a value: of a text without case it is a text
abbrev pub literal_of : Value → Value
literal_of Null = Null
literal_of (Int n) = Int n
literal_of (Text t) = Text t
literal_of (NoCase t) = Text t

-- the upserts of rows into a table, by their literals
abbrev pub upserts : Bytes → List (List Value) → List Item
upserts name rows = map (λ row. item.Command (Upsert name (map literal_of row))) rows

-- the rows of a payload, their number, and what their upserts leave and answer
pub record UpsertsOf (limits : Bounds) (db : Database) (name bytes : Bytes) (count : ℕ) (new : Database) : Type 0 where
  pub table : PlainTable
  pub found : table_at db name ≡ Some table
  pub rows : List (List Value)
  pub given : load short.Refused table.schema limits bytes ≡ Ok rows
  pub counted : length rows ≡ count
  pub same : after_all limits db (upserts name rows) ≡ new
  pub accepted : replies_to limits db (upserts name rows) ≡ map (λ row. reply.Done 1) rows

-- A load that is carried out leaves the tables that upserts of its rows, one after the other, leave, each of which is carried out, and returns their number.
abbrev pub LoadIsUpserts : Type 0
LoadIsUpserts = (limits : Bounds) (db new : Database) (name bytes : Bytes) (count : ℕ)
    → step limits db (item.Command (Load name (payload.Bytes bytes))) ≡ (new, reply.Done count) → UpsertsOf limits db name bytes count new
