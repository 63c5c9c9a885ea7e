-- What one item of a script does to a database. A command is its steps in the order of refusals: the first that fails is its refusal.
use Rattle.std.specs.Prelude.{◌≡◌, ℕ, List, [], ◌∷◌, ◌++◌, length, map, not, nat_lt, is_some, Option, Some, None, Result, Ok, Err, if◌then◌else◌}
use Rattle.std.specs.List.{list_any}
use Rattle.gq_row.specs.declared.value.Value.{Value}
use Rattle.gq_row.specs.declared.schema.Column.{Column}
use Rattle.gq_row.specs.declared.limits.Bounds.{Bounds}
use Rattle.gq_row.specs.Fitting.{is_null, stored_in}
use Rattle.gq_row.specs.Folding.{folded}
use Rattle.gq_row.specs.Schemas.{PlainSchema, positions_of}
use Rattle.gq_row.specs.Tables.{PlainTable, delete, has_row}
use Rattle.gq_load.specs.declared.short_records.Short.{Short}
use Rattle.gq_load.specs.declared.short_records.Short.TheVariants as short
use Rattle.gq_command.specs.Commands.{Bytes, column_names, some}
use Rattle.gq_clause.specs.declared.condition.Test.{Test}
use Rattle.gq_command.specs.declared.command.Command.{Command}
use Rattle.gq_command.specs.declared.command.Command.TheVariants.{Create, Drop, Load, Upsert, Delete, Show, Group, Distinct}
use Rattle.gq_command.specs.declared.command.Exists.{Exists}
use Rattle.gq_command.specs.declared.command.Payload.{Payload}
use Rattle.gq_command.specs.declared.lines.LineRefusal.{LineRefusal}
use Rattle.gq_command.specs.declared.lines.LineRefusal.TheVariants as line
use Rattle.gq_command.specs.declared.reader.Item.{Item}
use Rattle.gq_command.specs.declared.reader.Item.TheVariants as item
use Rattle.gq_reply.specs.declared.refusal.Refusal.{Refusal}
use Rattle.gq_reply.specs.declared.refusal.Refusal.TheVariants.{Syntax, LineTooLong, NoTable, TableExists, NoColumn, TypeMismatch, NoKey, NullKey, SumRange, Limit, Memory}
use Rattle.gq_reply.specs.declared.refusal.Refused.{Refused}
use Rattle.gq_reply.specs.declared.reply.Reply.{Reply}
use Rattle.gq_reply.specs.declared.reply.Reply.TheVariants as reply
use Rattle.gq_query.specs.Answers.{distinct_keys, rows_kept, rows_shown}
use Rattle.gq_query.specs.Rollups.{group_answer}
use Rattle.gq_query.specs.Selecting.{other_columns, other_rows}
use Rattle.gq_plan.specs.declared.clauses.GroupClauses.{GroupClauses}
use Rattle.gq_plan.specs.declared.plan.GroupPlan.{GroupPlan}
use Rattle.gq_plan.specs.declared.plan.DistinctPlan.{DistinctPlan}
use Rattle.gq_plan.specs.Headers.{group_header}
use Rattle.gq_plan.specs.Plans.{distinct_plan, group_plan}
use Rattle.gq_engine.specs.Databases.{Database, table_at, with_table, without_table}
use Rattle.gq_engine.specs.Loading.{is_lost, payload_bytes, csv_rows}
use Rattle.gq_reply.specs.Outcomes.{◌>>=◌, some_or, true_or}
use Rattle.gq_reply.specs.Refusals.{of_refused, refused}
use Rattle.gq_engine.specs.Refusing.{put_within, put_all_within, fits_key, stored_key}

-- the outcome of a command: the database and the reply if it is carried out, or why it is refused
abbrev pub Outcome : Type 0
Outcome = Result (Database × Reply) Refused

-- the table of a name
abbrev pub table_in : Database → List ℕ → Result PlainTable Refused
table_in db name = some_or NoTable (table_at db name)

-- an empty table is added
abbrev pub create : Bounds → Database → List ℕ → List Column → List (List ℕ) → Outcome
create limits db name columns key = do
  absent ← true_or TableExists (not (is_some (table_at db name)))
  positions ← some_or NoColumn (positions_of columns key)
  room ← true_or Limit (nat_lt (length db) limits.tables)
  Ok (db ++ (name, record { schema = record { columns = columns; key = positions }; rows = [] }) ∷ [], reply.Done 0)

-- a table is taken out
abbrev pub drop_table : Database → List ℕ → Outcome
drop_table db name = do
  table ← table_in db name
  Ok (without_table db name, reply.Done 0)

-- a row is put, its values as the columns store them
abbrev pub with_row : Bounds → Database → List ℕ → List Value → Result Database Refused
with_row limits db name row = do
  table ← table_in db name
  rows ← put_within limits table (stored_in table.schema.columns row)
  Ok (with_table db name (record table { rows = rows }))

abbrev pub upsert : Bounds → Database → List ℕ → List Value → Outcome
upsert limits db name row = do
  new ← with_row limits db name row
  Ok (new, reply.Done 1)

-- rows are put, one after the other
abbrev pub with_rows : Bounds → Database → List ℕ → List (List Value) → Result Database Refused
with_rows limits db name new = do
  table ← table_in db name
  rows ← put_all_within limits table new
  Ok (with_table db name (record table { rows = rows }))

-- the rows of a payload are put; that there was no memory for the payload is reported before all else
abbrev pub load_table : Short → Bounds → Database → List ℕ → Payload → Outcome
load_table short limits db name payload = do
  there ← true_or Memory (not (is_lost payload))
  table ← table_in db name
  bytes ← payload_bytes payload
  rows ← csv_rows short limits table.schema bytes
  new ← with_rows limits db name rows
  Ok (new, reply.Done (length rows))

-- the key that values name: the folds of what its columns store of them
abbrev pub key_named : PlainSchema → List Value → List Value
key_named schema values = map folded (stored_key schema.columns schema.key values)

-- the row of the key that values name is taken away, if there is one
abbrev pub delete_row : Database → List ℕ → List Value → Outcome
delete_row db name values = do
  table ← table_in db name
  let stored = stored_key table.schema.columns table.schema.key values
  keyed ← true_or NoKey (some table.schema.key)
  fitting ← true_or TypeMismatch (fits_key table.schema.columns table.schema.key stored)
  whole ← true_or NullKey (not (list_any is_null stored))
  let key = key_named table.schema values
  Ok (with_table db name (record table { rows = delete table.schema.key table.rows key }), reply.Done (if has_row table.schema.key table.rows key then 1 else 0))

-- all rows are shown
abbrev pub show_table : Database → List ℕ → Outcome
show_table db name = do
  table ← table_in db name
  Ok (db, reply.Rows (column_names table.schema.columns) (rows_shown table))

-- the table that an `exists` names, if there is one
abbrev pub other_in : Database → Option Exists → Result (Option PlainTable) Refused
other_in db None = Ok None
other_in db (Some exists) = do
  table ← table_in db exists.table
  Ok (Some table)

-- what a `group` asks of a database: its table, the table that its `exists` names, if there is one, and its plan
pub record Asks (db : Database) (name : List ℕ) (clauses : GroupClauses) (table : PlainTable) (other : Option PlainTable) (plan : GroupPlan) : Type 0 where
  pub found : table_at db name ≡ Some table
  pub there : other_in db clauses.exists ≡ Ok other
  pub planned : group_plan table.schema.columns (other_columns other) clauses ≡ Ok plan

-- the rows that a `group` is about by its plan: those of its table that the condition keeps and that have the match among the rows of the other
abbrev pub rows_about : GroupPlan → PlainTable → Option PlainTable → List (List Value)
rows_about plan table other = rows_kept plan.condition.tests plan.matching (other_rows other) table.rows

-- the result rows of a `group` by its plan
abbrev pub rows_planned : GroupPlan → PlainTable → Option PlainTable → Option (List (List Value))
rows_planned plan table other = group_answer plan.rollup plan.by plan.shown plan.having.tests (rows_about plan table other)

-- rows are grouped, and aggregates of each group shown
abbrev pub group : Database → List ℕ → GroupClauses → Outcome
group db name clauses = do
  table ← table_in db name
  other ← other_in db clauses.exists
  plan ← group_plan table.schema.columns (other_columns other) clauses
  rows ← some_or SumRange (rows_planned plan table other)
  Ok (db, reply.Rows (group_header clauses.by clauses.shown) rows)

-- the result rows of a `distinct` by its plan, of the rows of its table that the condition keeps
abbrev pub keys_planned : DistinctPlan → PlainTable → List (List Value)
keys_planned plan table = distinct_keys plan.on (rows_kept plan.condition.tests None [] table.rows)

-- the different values in some columns are shown
abbrev pub distinct : Database → List ℕ → List Bytes → List Test → Outcome
distinct db name on tests = do
  table ← table_in db name
  plan ← distinct_plan table.schema.columns on tests
  Ok (db, reply.Rows on (keys_planned plan table))

-- a command
abbrev pub outcome : Bounds → Database → Command → Outcome
outcome bounds db (Create table columns key) = create bounds db table columns key
outcome bounds db (Drop table) = drop_table db table
outcome bounds db (Load table payload) = load_table short.Refused bounds db table payload
outcome bounds db (Upsert table values) = upsert bounds db table values
outcome bounds db (Delete table values) = delete_row db table values
outcome bounds db (Show table) = show_table db table
outcome bounds db (Group table by shown tests exists having) = group db table (record { by = by; shown = shown; tests = tests; exists = exists; having = having })
outcome bounds db (Distinct table on tests) = distinct db table on tests

-- a refusal is the reply, and leaves the database
abbrev pub settle : Database → Outcome → Database × Reply
settle db (Ok done) = done
settle db (Err why) = (db, of_refused why)

-- the refusal of a line
abbrev pub line_refusal : LineRefusal → Refusal
line_refusal line.Syntax = Syntax
line_refusal line.LineTooLong = LineTooLong
line_refusal line.Limit = Limit
line_refusal line.Memory = Memory

-- the database and the reply after an item
abbrev pub step : Bounds → Database → Item → Database × Reply
step bounds db (item.Command command) = settle db (outcome bounds db command)
step bounds db (item.Refused why) = (db, refused (line_refusal why))
