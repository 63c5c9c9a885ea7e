-- Worked examples, computed by the definitions.
use Rattle.std.proofs.Common.{◌≡◌, ◌∙◌, ◌≤◌, ◌+◌, ◌-◌, ◌*◌, ℕ, true, false, List, [], ◌∷◌, length, pos, negsuc, Some, None, Ok, Err, refl, sym, ap, subst, arith, codes}
use Rattle.std.specs.Prelude.{Result}
use Rattle.gq_row.specs.declared.value.Value.{Value}
use Rattle.gq_row.specs.declared.value.Value.TheVariants.{Null, Int, Text, NoCase}
use Rattle.gq_row.specs.declared.schema.Column.{Column}
use Rattle.gq_row.specs.declared.schema.Kind.TheVariants as kind
use Rattle.gq_row.specs.declared.limits.Bounds.{Bounds}
use Rattle.gq_row.specs.Schemas.{PlainSchema}
use Rattle.gq_row.specs.Limits.{GREATEST}
use Rattle.gq_group.specs.declared.grouping.Spent.{Spent}
use Rattle.gq_group.specs.Groups.{keys_of}
use Rattle.gq_load.specs.declared.load_refusal.LoadRefusal.TheVariants as fault
use Rattle.gq_load.specs.declared.short_records.Short.TheVariants as short
use Rattle.gq_load.specs.Payloads.{load}
use Rattle.gq_command.specs.Commands.{Bytes}
use Rattle.gq_command.specs.declared.command.By.{By}
use Rattle.gq_command.specs.declared.command.Command.{Command}
use Rattle.gq_command.specs.declared.command.Command.TheVariants.{Create, Drop, Load, Upsert, Delete, Show, Group, Distinct}
use Rattle.gq_command.specs.declared.command.Payload.{Payload}
use Rattle.gq_command.specs.declared.command.Payload.TheVariants as payload
use Rattle.gq_clause.specs.declared.aggregate.Aggregate.{Aggregate}
use Rattle.gq_clause.specs.declared.aggregate.Aggregate.TheVariants.{CountAll, Count, CountDistinct, Sum, Min, Max}
use Rattle.gq_clause.specs.declared.condition.Operand.TheVariants as operand
use Rattle.gq_clause.specs.declared.condition.Test.{Test}
use Rattle.gq_clause.specs.declared.condition.Test.TheVariants.{IsNull}
use Rattle.gq_command.specs.declared.reader.Item.TheVariants as item
use Rattle.gq_command.specs.declared.lines.LineRefusal.TheVariants as line
use Rattle.gq_reply.specs.declared.refusal.Refusal.TheVariants.{LineTooLong, NoTable, TableExists, NoColumn, TypeMismatch, NoKey, NullKey, Header, FieldCount, BadInt, BadText, SumRange, Limit, Memory, LoadOpen}
use Rattle.gq_reply.specs.declared.refusal.Refused.{Refused}
use Rattle.gq_reply.specs.declared.reply.Reply.{Reply}
use Rattle.gq_reply.specs.declared.reply.Reply.TheVariants as reply
use Rattle.gq_engine.specs.Databases.{Database}
use Rattle.gq_reply.specs.Refusals.{refused}
use Rattle.gq_engine.specs.Engines.{NOTHING_SPENT}
use Rattle.gq_query.specs.Work.{IsSpentOn, RisesBy, both_spent, sum_within}
use Rattle.gq_engine.specs.Spending.{Spends}
use Rattle.gq_engine.specs.Steps.{step}

abbrev after : Bounds → Database → Command → Database
after limits db command = (step limits db (item.Command command)).0

abbrev answer : Bounds → Database → Command → Reply
answer limits db command = (step limits db (item.Command command)).1

-- which grouping sets and rows a `group` asks for
abbrev asked_of : Result (List (List ℕ) × List (List Value)) Refused → List (List ℕ) × List (List Value) → List (List ℕ) × List (List Value)
asked_of (Ok asked) other = asked
asked_of (Err why) other = other

abbrev column : List ℕ → Column
column name = record { name = name; kind = kind.Text }

abbrev number : List ℕ → Column
number name = record { name = name; kind = kind.Int }

-- create s (id int, city text, key (id))
abbrev create_s : Command
create_s = Create (codes "s") (number (codes "id") ∷ column (codes "city") ∷ []) (codes "id" ∷ [])

abbrev upsert_s : Value → Value → Command
upsert_s id city = Upsert (codes "s") (id ∷ city ∷ [])

-- by these columns, and by a rollup of them
abbrev plainly : List (List ℕ) → By
plainly columns = record { columns = columns; rollup = false }

abbrev rolled_up : List (List ℕ) → By
rolled_up columns = record { columns = columns; rollup = true }

-- group s by .. show count(*)
abbrev group_s : List (List ℕ) → Command
group_s by = Group (codes "s") (plainly by) (CountAll ∷ []) [] None []

abbrev empty_s : Database
empty_s = after GREATEST [] create_s

-- the first script: Oslo becomes Rome, and two rows of Rome are one group
abbrev two_cities : Database
two_cities = after GREATEST (after GREATEST empty_s (upsert_s (Int (pos 1)) (Text (codes "Oslo")))) (upsert_s (Int (pos 2)) (Text (codes "Rome")))

first_script : answer GREATEST (after GREATEST two_cities (upsert_s (Int (pos 1)) (Text (codes "Rome")))) (group_s (codes "city" ∷ []))
    ≡ reply.Rows (codes "city" ∷ codes "count(*)" ∷ []) ((Text (codes "Rome") ∷ Int (pos 2) ∷ []) ∷ [])
first_script = refl

created : answer GREATEST [] create_s ≡ reply.Done 0
created = refl

upserted : answer GREATEST empty_s (upsert_s (Int (pos 1)) (Text (codes "Oslo"))) ≡ reply.Done 1
upserted = refl

-- groups come in the order of their keys
in_order : answer GREATEST two_cities (group_s (codes "id" ∷ codes "city" ∷ []))
    ≡ reply.Rows (codes "id" ∷ codes "city" ∷ codes "count(*)" ∷ []) ((Int (pos 1) ∷ Text (codes "Oslo") ∷ Int (pos 1) ∷ []) ∷ (Int (pos 2) ∷ Text (codes "Rome") ∷ Int (pos 1) ∷ []) ∷ [])
in_order = refl

-- no rows give no group
no_group : answer GREATEST empty_s (group_s (codes "city" ∷ [])) ≡ reply.Rows (codes "city" ∷ codes "count(*)" ∷ []) []
no_group = refl

-- nulls are one group, before the group of the empty text
abbrev null_cities : Database
null_cities =
    after GREATEST (after GREATEST (after GREATEST (after GREATEST (after GREATEST empty_s
    (upsert_s (Int (pos 4)) (Text []))) (upsert_s (Int (pos 1)) Null)) (upsert_s (Int (pos 2)) Null)) (upsert_s (Int (pos 5)) (Text []))) (upsert_s (Int (pos 3)) Null)

nulls_are_one_group : answer GREATEST null_cities (group_s (codes "city" ∷ [])) ≡ reply.Rows (codes "city" ∷ codes "count(*)" ∷ []) ((Null ∷ Int (pos 3) ∷ []) ∷ (Text [] ∷ Int (pos 2) ∷ []) ∷ [])
nulls_are_one_group = refl

-- aggregates of groups, and of all rows
abbrev aggregates_s : List (List ℕ) → List Aggregate → Command
aggregates_s by shown = Group (codes "s") (plainly by) shown [] None []

no_rows_are_one_group : answer GREATEST empty_s (aggregates_s [] (CountAll ∷ Sum (codes "id") ∷ [])) ≡ reply.Rows (codes "count(*)" ∷ codes "sum(id)" ∷ []) ((Int (pos 0) ∷ Null ∷ []) ∷ [])
no_rows_are_one_group = refl

each_aggregate : answer GREATEST null_cities (aggregates_s (codes "city" ∷ []) (Sum (codes "id") ∷ CountDistinct (codes "city") ∷ Count (codes "city") ∷ Min (codes "id") ∷ Max (codes "id") ∷ []))
    ≡ reply.Rows (codes "city" ∷ codes "sum(id)" ∷ codes "count(distinct city)" ∷ codes "count(city)" ∷ codes "min(id)" ∷ codes "max(id)" ∷ [])
    ((Null ∷ Int (pos 6) ∷ Int (pos 0) ∷ Int (pos 0) ∷ Int (pos 1) ∷ Int (pos 3) ∷ []) ∷ (Text [] ∷ Int (pos 9) ∷ Int (pos 1) ∷ Int (pos 2) ∷ Int (pos 4) ∷ Int (pos 5) ∷ []) ∷ [])
each_aggregate = refl

sum_out_of_range : answer GREATEST (after GREATEST (after GREATEST empty_s (upsert_s (Int (pos 9223372036854775807)) Null)) (upsert_s (Int (pos 1)) Null)) (aggregates_s [] (Sum (codes "id") ∷ [])) ≡ refused SumRange
sum_out_of_range = refl

texts_are_not_summed : answer GREATEST empty_s (aggregates_s [] (Sum (codes "city") ∷ [])) ≡ refused TypeMismatch
texts_are_not_summed = refl

no_such_column_first : answer GREATEST empty_s (aggregates_s (codes "city" ∷ []) (Sum (codes "city") ∷ Min (codes "town") ∷ [])) ≡ refused NoColumn
no_such_column_first = refl

-- the refusals, each in its place
no_table : answer GREATEST [] (group_s (codes "a" ∷ [])) ≡ refused NoTable
no_table = refl

no_table_to_put : answer GREATEST [] (upsert_s Null Null) ≡ refused NoTable
no_table_to_put = refl

table_exists : answer GREATEST empty_s create_s ≡ refused TableExists
table_exists = refl

table_exists_first : answer GREATEST empty_s (Create (codes "s") (number (codes "id") ∷ []) (codes "x" ∷ [])) ≡ refused TableExists
table_exists_first = refl

no_key_column : answer GREATEST [] (Create (codes "s") (number (codes "id") ∷ []) (codes "x" ∷ [])) ≡ refused NoColumn
no_key_column = refl

no_column : answer GREATEST empty_s (group_s (codes "town" ∷ [])) ≡ refused NoColumn
no_column = refl

wrong_kind : answer GREATEST empty_s (upsert_s (Text (codes "1")) Null) ≡ refused TypeMismatch
wrong_kind = refl

too_few_values : answer GREATEST empty_s (Upsert (codes "s") (Null ∷ [])) ≡ refused TypeMismatch
too_few_values = refl

too_many_values : answer GREATEST empty_s (Upsert (codes "s") (Null ∷ Null ∷ Null ∷ [])) ≡ refused TypeMismatch
too_many_values = refl

null_key : answer GREATEST empty_s (upsert_s Null (Text (codes "x"))) ≡ refused NullKey
null_key = refl

kinds_before_null_key : answer GREATEST empty_s (upsert_s Null (Int (pos 1))) ≡ refused TypeMismatch
kinds_before_null_key = refl

-- small limits
abbrev one_each : Bounds
one_each = record { tables = 1; columns = 128; aggregates = 16; name = 63; text = 65535; line = 65536; payload = 1; rows = 1; script = 1 }

one_table : answer one_each (after one_each [] create_s) (Create (codes "t") (number (codes "a") ∷ []) []) ≡ refused Limit
one_table = refl

one_row : answer one_each (after one_each (after one_each [] create_s) (upsert_s (Int (pos 1)) Null)) (upsert_s (Int (pos 2)) Null) ≡ refused Limit
one_row = refl

the_row_replaced : answer one_each (after one_each (after one_each [] create_s) (upsert_s (Int (pos 1)) Null)) (upsert_s (Int (pos 1)) (Text (codes "x"))) ≡ reply.Done 1
the_row_replaced = refl

-- a table without a key takes equal rows
abbrev no_key : Database
no_key = after GREATEST (after GREATEST (after GREATEST [] (Create (codes "s") (number (codes "a") ∷ []) [])) (Upsert (codes "s") (Int (pos 1) ∷ []))) (Upsert (codes "s") (Int (pos 1) ∷ []))

equal_rows : answer GREATEST no_key (group_s (codes "a" ∷ [])) ≡ reply.Rows (codes "a" ∷ codes "count(*)" ∷ []) ((Int (pos 1) ∷ Int (pos 2) ∷ []) ∷ [])
equal_rows = refl

-- a line that is refused leaves the database
refused_line : step GREATEST two_cities (item.Refused line.LineTooLong) ≡ (two_cities, refused LineTooLong)
refused_line = refl

-- drop

abbrev drop_s : Command
drop_s = Drop (codes "s")

abbrev show_s : Command
show_s = Show (codes "s")

dropped : answer GREATEST two_cities drop_s ≡ reply.Done 0
dropped = refl

dropped_is_gone : answer GREATEST (after GREATEST two_cities drop_s) show_s ≡ refused NoTable
dropped_is_gone = refl

nothing_to_drop : step GREATEST two_cities (item.Command (Drop (codes "zz"))) ≡ (two_cities, refused NoTable)
nothing_to_drop = refl

room_for_another : answer one_each (after one_each (after one_each [] create_s) drop_s) create_s ≡ reply.Done 0
room_for_another = refl

-- show: rows in the order of the key, whatever their order was, and without a key in that of whole rows

no_rows : answer GREATEST empty_s show_s ≡ reply.Rows (codes "id" ∷ codes "city" ∷ []) []
no_rows = refl

-- create v (n int, x int, key (n))
abbrev upsert_v : Value → Value → Command
upsert_v n x = Upsert (codes "v") (n ∷ x ∷ [])

abbrev three_numbers : Database
three_numbers =
    after GREATEST (after GREATEST (after GREATEST (after GREATEST [] (Create (codes "v") (number (codes "n") ∷ number (codes "x") ∷ []) (codes "n" ∷ [])))
    (upsert_v (Int (pos 3)) (Int (negsuc 0)))) (upsert_v (Int (pos 2)) (Int (pos 1)))) (upsert_v (Int (pos 1)) (Int (pos 9223372036854775807)))

abbrev delete_v : List Value → Command
delete_v key = Delete (codes "v") key

by_key : answer GREATEST three_numbers (Show (codes "v"))
    ≡ reply.Rows (codes "n" ∷ codes "x" ∷ []) ((Int (pos 1) ∷ Int (pos 9223372036854775807) ∷ []) ∷ (Int (pos 2) ∷ Int (pos 1) ∷ []) ∷ (Int (pos 3) ∷ Int (negsuc 0) ∷ []) ∷ [])
by_key = refl

by_row : answer GREATEST (after GREATEST (after GREATEST no_key (Upsert (codes "s") (Null ∷ []))) (Upsert (codes "s") (Int (pos 0) ∷ []))) show_s
    ≡ reply.Rows (codes "a" ∷ []) ((Null ∷ []) ∷ (Int (pos 0) ∷ []) ∷ (Int (pos 1) ∷ []) ∷ (Int (pos 1) ∷ []) ∷ [])
by_row = refl

-- delete

deleted : answer GREATEST three_numbers (delete_v (Int (pos 3) ∷ [])) ≡ reply.Done 1
deleted = refl

deleted_is_gone : answer GREATEST (after GREATEST three_numbers (delete_v (Int (pos 3) ∷ []))) (Show (codes "v"))
    ≡ reply.Rows (codes "n" ∷ codes "x" ∷ []) ((Int (pos 1) ∷ Int (pos 9223372036854775807) ∷ []) ∷ (Int (pos 2) ∷ Int (pos 1) ∷ []) ∷ [])
deleted_is_gone = refl

nothing_to_delete : step GREATEST three_numbers (item.Command (delete_v (Int (pos 99) ∷ []))) ≡ (three_numbers, reply.Done 0)
nothing_to_delete = refl

no_table_to_delete_from : answer GREATEST [] (delete_v []) ≡ refused NoTable
no_table_to_delete_from = refl

delete_without_a_key : answer GREATEST no_key (Delete (codes "s") (Text (codes "x") ∷ Null ∷ [])) ≡ refused NoKey
delete_without_a_key = refl

delete_of_too_many_values : answer GREATEST three_numbers (delete_v (Int (pos 1) ∷ Null ∷ [])) ≡ refused TypeMismatch
delete_of_too_many_values = refl

delete_of_a_wrong_kind : answer GREATEST three_numbers (delete_v (Text (codes "1") ∷ [])) ≡ refused TypeMismatch
delete_of_a_wrong_kind = refl

delete_of_null : answer GREATEST three_numbers (delete_v (Null ∷ [])) ≡ refused NullKey
delete_of_null = refl

-- create p (a int, b text, key (b, a)): the values of a delete come in the order of the key
abbrev two_keys : Database
two_keys = after GREATEST (after GREATEST [] (Create (codes "p") (number (codes "a") ∷ column (codes "b") ∷ []) (codes "b" ∷ codes "a" ∷ []))) (Upsert (codes "p") (Int (pos 1) ∷ Text (codes "x") ∷ []))

in_the_keys_order : answer GREATEST two_keys (Delete (codes "p") (Text (codes "x") ∷ Int (pos 1) ∷ [])) ≡ reply.Done 1
in_the_keys_order = refl

in_the_columns_order : answer GREATEST two_keys (Delete (codes "p") (Int (pos 1) ∷ Text (codes "x") ∷ [])) ≡ refused TypeMismatch
in_the_columns_order = refl

kinds_before_null_of_a_delete : answer GREATEST two_keys (Delete (codes "p") (Null ∷ Text (codes "x") ∷ [])) ≡ refused TypeMismatch
kinds_before_null_of_a_delete = refl

-- texts without case

abbrev caseless : List ℕ → Column
caseless name = record { name = name; kind = kind.NoCase }

-- create p (c text nocase, key (c))
abbrev upsert_p : Value → Command
upsert_p c = Upsert (codes "p") (c ∷ [])

abbrev delete_p : Value → Command
delete_p c = Delete (codes "p") (c ∷ [])

abbrev empty_p : Database
empty_p = after GREATEST [] (Create (codes "p") (caseless (codes "c") ∷ []) (codes "c" ∷ []))

-- an upsert in another spelling replaces the row, its spelling too
abbrev respelled : Database
respelled = after GREATEST (after GREATEST empty_p (upsert_p (Text (codes "Oslo")))) (upsert_p (Text (codes "OSLO")))

last_spelling : answer GREATEST respelled (Show (codes "p")) ≡ reply.Rows (codes "c" ∷ []) ((NoCase (codes "OSLO") ∷ []) ∷ [])
last_spelling = refl

-- and a delete finds it in each
deleted_in_another_spelling : step GREATEST respelled (item.Command (delete_p (Text (codes "oslo")))) ≡ (empty_p, reply.Done 1)
deleted_in_another_spelling = refl

another_text_stays : step GREATEST respelled (item.Command (delete_p (Text (codes "osla")))) ≡ (respelled, reply.Done 0)
another_text_stays = refl

no_number_without_case : answer GREATEST empty_p (upsert_p (Int (pos 1))) ≡ refused TypeMismatch
no_number_without_case = refl

null_key_without_case : answer GREATEST empty_p (upsert_p Null) ≡ refused NullKey
null_key_without_case = refl

delete_of_a_number_without_case : answer GREATEST respelled (delete_p (Int (pos 1))) ≡ refused TypeMismatch
delete_of_a_number_without_case = refl

delete_of_null_without_case : answer GREATEST respelled (delete_p Null) ≡ refused NullKey
delete_of_null_without_case = refl

-- create q (c text nocase, d int): each group shows the least spelling of its own rows, and groups come in the order of the folds
abbrev two_spellings : Database
two_spellings =
    after GREATEST (after GREATEST (after GREATEST [] (Create (codes "q") (caseless (codes "c") ∷ number (codes "d") ∷ []) []))
    (Upsert (codes "q") (Text (codes "Oslo") ∷ Int (pos 2) ∷ []))) (Upsert (codes "q") (Text (codes "oslo") ∷ Int (pos 1) ∷ []))

spelled_by_group : answer GREATEST two_spellings (Group (codes "q") (plainly (codes "c" ∷ codes "d" ∷ [])) (CountAll ∷ []) [] None [])
    ≡ reply.Rows (codes "c" ∷ codes "d" ∷ codes "count(*)" ∷ []) ((NoCase (codes "oslo") ∷ Int (pos 1) ∷ Int (pos 1) ∷ []) ∷ (NoCase (codes "Oslo") ∷ Int (pos 2) ∷ Int (pos 1) ∷ []) ∷ [])
spelled_by_group = refl

least_spelling : answer GREATEST two_spellings (Distinct (codes "q") (codes "c" ∷ []) []) ≡ reply.Rows (codes "c" ∷ []) ((NoCase (codes "Oslo") ∷ []) ∷ [])
least_spelling = refl

-- load, of what its payload gives

abbrev load_s : Payload → Command
load_s carried = Load (codes "s") carried

-- s (id int, city text, key (id))
abbrev s : PlainSchema
s = record { columns = number (codes "id") ∷ column (codes "city") ∷ []; key = 0 ∷ [] }

abbrev city : ℕ → List ℕ → List Value
city id name = Int (pos id) ∷ Text name ∷ []

abbrev one_city : Database
one_city = after GREATEST empty_s (upsert_s (Int (pos 1)) (Text (codes "Rome")))

-- of two records with one key the last stays, and both are counted
last_of_one_key : (bytes : Bytes) → load short.Refused s GREATEST bytes ≡ Ok (city 1 (codes "Oslo") ∷ city 1 (codes "Rome") ∷ []) → step GREATEST empty_s (item.Command (load_s (payload.Bytes bytes))) ≡ (one_city, reply.Done 2)
last_of_one_key bytes given = rw given refl

over_one_there : (bytes : Bytes) → load short.Refused s GREATEST bytes ≡ Ok (city 1 (codes "Oslo") ∷ city 2 (codes "Rome") ∷ []) → step GREATEST one_city (item.Command (load_s (payload.Bytes bytes))) ≡ (two_cities, reply.Done 2)
over_one_there bytes given = rw given refl

no_records : (bytes : Bytes) → load short.Refused s GREATEST bytes ≡ Ok [] → step GREATEST one_city (item.Command (load_s (payload.Bytes bytes))) ≡ (one_city, reply.Done 0)
no_records bytes given = rw given refl

-- a faulty record is named by its number, and none is put
faulty_record : (bytes : Bytes) → load short.Refused s GREATEST bytes ≡ Err (fault.BadInt 3) → step GREATEST one_city (item.Command (load_s (payload.Bytes bytes))) ≡ (one_city, reply.Refused BadInt (Some 3))
faulty_record bytes given = rw given refl

null_in_a_record : (bytes : Bytes) → load short.Refused s GREATEST bytes ≡ Err (fault.NullKey 1) → step GREATEST one_city (item.Command (load_s (payload.Bytes bytes))) ≡ (one_city, reply.Refused NullKey (Some 1))
null_in_a_record bytes given = rw given refl

too_few_fields : (bytes : Bytes) → load short.Refused s GREATEST bytes ≡ Err (fault.FieldCount 1) → step GREATEST one_city (item.Command (load_s (payload.Bytes bytes))) ≡ (one_city, reply.Refused FieldCount (Some 1))
too_few_fields bytes given = rw given refl

no_text : (bytes : Bytes) → load short.Refused s GREATEST bytes ≡ Err (fault.BadText 1) → step GREATEST one_city (item.Command (load_s (payload.Bytes bytes))) ≡ (one_city, reply.Refused BadText (Some 1))
no_text bytes given = rw given refl

another_header : (bytes : Bytes) → load short.Refused s GREATEST bytes ≡ Err fault.Header → step GREATEST one_city (item.Command (load_s (payload.Bytes bytes))) ≡ (one_city, refused Header)
another_header bytes given = rw given refl

long_text : (bytes : Bytes) → load short.Refused s GREATEST bytes ≡ Err fault.Limit → step GREATEST one_city (item.Command (load_s (payload.Bytes bytes))) ≡ (one_city, refused Limit)
long_text bytes given = rw given refl

-- an open payload, one that is too long, one for which there was no memory
open_payload : step GREATEST one_city (item.Command (load_s payload.Open)) ≡ (one_city, refused LoadOpen)
open_payload = refl

long_payload : step GREATEST one_city (item.Command (load_s payload.TooLong)) ≡ (one_city, refused Limit)
long_payload = refl

lost_payload : step GREATEST one_city (item.Command (load_s payload.NoMemory)) ≡ (one_city, refused Memory)
lost_payload = refl

no_table_to_load_into : answer GREATEST [] (load_s payload.Open) ≡ refused NoTable
no_table_to_load_into = refl

no_memory_before_no_table : answer GREATEST [] (load_s payload.NoMemory) ≡ refused Memory
no_memory_before_no_table = refl

-- at most three rows: those that replace others count once
abbrev three_each : Bounds
three_each = record GREATEST { rows = 3 }

abbrev two_of_three : Database
two_of_three = after three_each (after three_each (after three_each [] create_s) (upsert_s (Int (pos 1)) (Text (codes "a")))) (upsert_s (Int (pos 2)) (Text (codes "b")))

abbrev three_of_three : Database
three_of_three = after three_each (after three_each (after three_each two_of_three (upsert_s (Int (pos 1)) (Text (codes "x")))) (upsert_s (Int (pos 2)) (Text (codes "y")))) (upsert_s (Int (pos 3)) (Text (codes "z")))

as_many_as_may_be : (bytes : Bytes) → load short.Refused s three_each bytes ≡ Ok (city 1 (codes "x") ∷ city 2 (codes "y") ∷ city 3 (codes "z") ∷ []) → step three_each two_of_three (item.Command (load_s (payload.Bytes bytes))) ≡ (three_of_three, reply.Done 3)
as_many_as_may_be bytes given = rw given refl

one_row_too_many : (bytes : Bytes) → load short.Refused s three_each bytes ≡ Ok (city 3 (codes "z") ∷ city 4 (codes "q") ∷ []) → step three_each two_of_three (item.Command (load_s (payload.Bytes bytes))) ≡ (two_of_three, refused Limit)
one_row_too_many bytes given = rw given refl

-- the levels of a rollup

-- create r (n int, a int, b int, key (n))
abbrev create_r : Command
create_r = Create (codes "r") (number (codes "n") ∷ number (codes "a") ∷ number (codes "b") ∷ []) (codes "n" ∷ [])

abbrev upsert_r : Value → Value → Value → Command
upsert_r n a b = Upsert (codes "r") (n ∷ a ∷ b ∷ [])

-- group r by rollup (a, b) show .. having ..
abbrev rollup_r : List Aggregate → List Test → Command
rollup_r shown having = Group (codes "r") (rolled_up (codes "a" ∷ codes "b" ∷ [])) shown [] None having

abbrev empty_r : Database
empty_r = after GREATEST [] create_r

abbrev two_r : Database
two_r = after GREATEST (after GREATEST empty_r (upsert_r (Int (pos 1)) (Int (pos 1)) Null)) (upsert_r (Int (pos 2)) (Int (pos 1)) (Int (pos 5)))

abbrev header_r : List Bytes
header_r = codes "level" ∷ codes "a" ∷ codes "b" ∷ codes "count(*)" ∷ []

-- over no rows there is the total alone
total_of_nothing : answer GREATEST empty_r (rollup_r (CountAll ∷ []) []) ≡ reply.Rows header_r ((Int (pos 0) ∷ Null ∷ Null ∷ Int (pos 0) ∷ []) ∷ [])
total_of_nothing = refl

-- the total, one row for each a, and one for each a and b: a null of a row means a value there, and no value at a level
three_levels : answer GREATEST two_r (rollup_r (CountAll ∷ []) []) ≡ reply.Rows header_r (
    (Int (pos 0) ∷ Null ∷ Null ∷ Int (pos 2) ∷ [])
    ∷ (Int (pos 1) ∷ Int (pos 1) ∷ Null ∷ Int (pos 2) ∷ [])
    ∷ (Int (pos 2) ∷ Int (pos 1) ∷ Null ∷ Int (pos 1) ∷ [])
    ∷ (Int (pos 2) ∷ Int (pos 1) ∷ Int (pos 5) ∷ Int (pos 1) ∷ [])
    ∷ [])
three_levels = refl

-- `having` sees the nulls of the columns that a level leaves out
nulls_are_had : answer GREATEST (after GREATEST two_r (upsert_r (Int (pos 3)) Null (Int (pos 5)))) (rollup_r (CountAll ∷ Sum (codes "b") ∷ []) (IsNull (operand.Column (codes "a")) ∷ []))
    ≡ reply.Rows (codes "level" ∷ codes "a" ∷ codes "b" ∷ codes "count(*)" ∷ codes "sum(b)" ∷ []) (
    (Int (pos 0) ∷ Null ∷ Null ∷ Int (pos 3) ∷ Int (pos 10) ∷ [])
    ∷ (Int (pos 1) ∷ Null ∷ Null ∷ Int (pos 1) ∷ Int (pos 5) ∷ [])
    ∷ (Int (pos 2) ∷ Null ∷ Int (pos 5) ∷ Int (pos 1) ∷ Int (pos 5) ∷ [])
    ∷ [])
nulls_are_had = refl

-- a sum of the total that is out of range refuses all, where each part of it is in range
total_out_of_range : answer GREATEST (after GREATEST (after GREATEST empty_r (upsert_r (Int (pos 1)) (Int (pos 1)) (Int (pos 9223372036854775807)))) (upsert_r (Int (pos 2)) (Int (pos 2)) (Int (pos 1)))) (rollup_r (Sum (codes "b") ∷ []) []) ≡ refused SumRange
total_out_of_range = refl

-- what groupings take

-- one grouping, by one of the two keys' columns
abbrev OneRise : ℕ → List (List Value) → List ℕ → Spent → Type 0
OneRise budget rows by new = (work : Spent) × IsSpentOn budget by rows work × (new ≡ both_spent NOTHING_SPENT work)

one_rise : (budget : ℕ) (rows : List (List Value)) (by : List ℕ) (sets : List (List ℕ)) (new : Spent) → by ∷ [] ≡ sets → RisesBy true budget rows sets NOTHING_SPENT new → OneRise budget rows by new
one_rise budget rows by sets new is h = by-risen (subst (λ s. RisesBy true budget rows s NOTHING_SPENT new) (sym is) h)
  where
    by-last : (old : Spent) → RisesBy true budget rows [] old new → new ≡ old
    by-last old RisesBy.IsDone = refl

    by-risen : RisesBy true budget rows (by ∷ []) NOTHING_SPENT new → OneRise budget rows by new
    by-risen (RisesBy.Rises work is rest) = (work, is refl, by-last (both_spent NOTHING_SPENT work) rest)

-- over two rows of two keys: within a budget of two or more nothing is written
cities_are_read : (new : Spent) → Spends true 2 two_cities (group_s (codes "city" ∷ [])) (answer GREATEST two_cities (group_s (codes "city" ∷ []))) NOTHING_SPENT new
    → new ≡ record { rows_read = 2; rows_written = 0; groups = 2; runs = 0 }
cities_are_read new h =
    let asked = ap (λ r. asked_of r (h.sets, h.rows)) h.asked in
    let sets : (1 ∷ []) ∷ [] ≡ h.sets = ap (λ (a : List (List ℕ) × List (List Value)). a.0) asked in
    let found = one_rise 2 h.rows (1 ∷ []) h.sets new sets h.work in
    let keys : 2 ≡ length (keys_of (1 ∷ []) h.rows) = ap (λ (a : List (List ℕ) × List (List Value)). length (keys_of (1 ∷ []) a.1)) asked in
    let rows : 2 ≡ length h.rows = ap (λ (a : List (List ℕ) × List (List Value)). length a.1) asked in
    let work = found.1 in
    let read : found.0.rows_read ≡ 2 = work.read ∙ sym rows in
    let groups : found.0.groups ≡ 2 = work.groups ∙ sym keys in
    let runs : found.0.runs ≡ 0 = work.written.no_runs.1 (omega (arith, groups)) in
    let written : found.0.rows_written ≡ 0 = work.written.no_rows.1 (omega (arith, groups)) in
    found.2 ∙ (λ i. both_spent NOTHING_SPENT (record { rows_read = read i; rows_written = written i; groups = groups i; runs = runs i }))

-- within a budget of one group the rows of the other key are written, to one run
one_run_is_made : (new : Spent) → Spends true 1 two_cities (group_s (codes "city" ∷ [])) (answer GREATEST two_cities (group_s (codes "city" ∷ []))) NOTHING_SPENT new → new.runs ≡ 1
one_run_is_made new h =
    let asked = ap (λ r. asked_of r (h.sets, h.rows)) h.asked in
    let sets : (1 ∷ []) ∷ [] ≡ h.sets = ap (λ (a : List (List ℕ) × List (List Value)). a.0) asked in
    let found = one_rise 1 h.rows (1 ∷ []) h.sets new sets h.work in
    let keys : 2 ≡ length (keys_of (1 ∷ []) h.rows) = ap (λ (a : List (List ℕ) × List (List Value)). length (keys_of (1 ∷ []) a.1)) asked in
    let work = found.1 in
    let more : Spent = found.0 in
    let groups : more.groups ≡ 2 = work.groups ∙ sym keys in
    let some : 2 ≤ 1 * (more.runs + 1) = subst (λ n. n ≤ 1 * (more.runs + 1)) groups work.written.by_runs in
    let few : more.runs ≤ 2 - 1 = subst (λ n. more.runs ≤ n - 1) groups work.written.few_runs in
    let runs : more.runs ≡ 1 = omega arith in
    ap (λ (s : Spent). s.runs) found.2 ∙ ap (λ n. sum_within 0 n) runs

-- a rollup of two columns groups by none, by the first and by both, and what was spent rises by each
three_groupings : (budget : ℕ) (new : Spent) → Spends true budget two_cities (Group (codes "s") (rolled_up (codes "id" ∷ codes "city" ∷ [])) (CountAll ∷ []) [] None []) (answer GREATEST two_cities (Group (codes "s") (rolled_up (codes "id" ∷ codes "city" ∷ [])) (CountAll ∷ []) [] None [])) NOTHING_SPENT new
    → (rows : List (List Value)) × RisesBy true budget rows ([] ∷ (0 ∷ []) ∷ (0 ∷ 1 ∷ []) ∷ []) NOTHING_SPENT new
three_groupings budget new h =
    let sets : [] ∷ (0 ∷ []) ∷ (0 ∷ 1 ∷ []) ∷ [] ≡ h.sets = ap (λ r. (asked_of r (h.sets, h.rows)).0) h.asked in
    (h.rows, subst (λ s. RisesBy true budget h.rows s NOTHING_SPENT new) (sym sets) h.work)

-- each number stops at the greatest
stops_at_the_greatest : both_spent (record { rows_read = 18446744073709551614; rows_written = 18446744073709551615; groups = 5; runs = 0 }) (record { rows_read = 3; rows_written = 0; groups = 7; runs = 18446744073709551615 })
    ≡ record { rows_read = 18446744073709551615; rows_written = 18446744073709551615; groups = 12; runs = 18446744073709551615 }
stops_at_the_greatest = refl

-- a refused `group` leaves what was spent, and so do other commands
refused_takes_nothing : (old new : Spent) → Spends true 1 two_cities (group_s (codes "town" ∷ [])) (answer GREATEST two_cities (group_s (codes "town" ∷ []))) old new → new ≡ old
refused_takes_nothing old new h = h

distinct_takes_nothing : (old new : Spent) → Spends true 1 two_cities (Distinct (codes "s") (codes "city" ∷ []) []) (answer GREATEST two_cities (Distinct (codes "s") (codes "city" ∷ []) [])) old new → new ≡ old
distinct_takes_nothing old new h = h
