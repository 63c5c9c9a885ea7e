-- The steps of a command report no failure of the run store.
use Rattle.std.proofs.Common.{◌≡◌, ℕ, Bool, true, false, not, List, length, refl, subst, Option, Some, None}
use Rattle.std.specs.Prelude.{nat_lt, nat_le, is_some, Result, Ok, Err}
use Rattle.gq_row.specs.declared.value.Value.{Value}
use Rattle.gq_row.specs.declared.schema.Column.{Column}
use Rattle.gq_row.specs.declared.limits.Bounds.{Bounds}
use Rattle.gq_row.specs.Schemas.{positions_of}
use Rattle.gq_row.specs.Tables.{PlainTable, put_all}
use Rattle.gq_load.specs.declared.short_records.Short.TheVariants as short
use Rattle.gq_load.specs.Payloads.{load}
use Rattle.gq_load.specs.declared.load_refusal.LoadRefusal.{LoadRefusal}
use Rattle.gq_load.specs.declared.load_refusal.LoadRefusal.TheVariants as fault
use Rattle.gq_command.specs.Commands.{Bytes, some}
use Rattle.gq_command.specs.declared.command.Exists.{Exists}
use Rattle.gq_command.specs.declared.command.Payload.{Payload}
use Rattle.gq_command.specs.declared.command.Payload.TheVariants as payload
use Rattle.gq_clause.specs.declared.condition.Test.{Test}
use Rattle.gq_command.specs.declared.command.Command.{Command}
use Rattle.gq_command.specs.declared.command.Command.TheVariants.{Create, Drop, Load, Upsert, Delete, Show, Group, Distinct}
use Rattle.gq_reply.specs.declared.refusal.Refusal.{Refusal}
use Rattle.gq_reply.specs.declared.refusal.Refusal.TheVariants.{TypeMismatch, NoKey, NullKey, Limit, TableExists, NoColumn, NoTable, SumRange, Memory}
use Rattle.gq_reply.specs.declared.refusal.Refused.{Refused}
use Rattle.gq_reply.specs.declared.reply.Reply.{Reply}
use Rattle.gq_query.specs.Selecting.{other_columns}
use Rattle.gq_plan.specs.declared.clauses.GroupClauses.{GroupClauses}
use Rattle.gq_plan.specs.Kinds.{kinds_of, tests_fit}
use Rattle.gq_plan.specs.Places.{all_placed, all_shown, in_result, in_row}
use Rattle.gq_plan.specs.Plans.{distinct_named, distinct_plan, group_fits, group_named, group_plan, matching_named}
use Rattle.gq_engine.specs.Databases.{Database, table_at}
use Rattle.std.specs.List.{list_any}
use Rattle.gq_row.specs.Fitting.{fits_columns, is_null, stored_in}
use Rattle.gq_reply.specs.Outcomes.{◌>>=◌, some_or, true_or}
use Rattle.gq_reply.specs.Refusals.{of_refused, unnumbered}
use Rattle.gq_engine.specs.Refusing.{has_null_key, rows_with, put_within, put_all_within, fits_key, stored_key}
use Rattle.gq_engine.specs.Loading.{is_lost, payload_bytes, fault_refusal, refused_by, csv_rows}
use Rattle.gq_engine.specs.Runs.{is_store_fault}
use Rattle.gq_engine.specs.Steps.{table_in, outcome, create, drop_table, with_row, upsert, with_rows, load_table, delete_row, show_table, group, distinct, other_in, rows_planned}

-- steps whose refusal is no failure of the run store
abbrev Refuses : {X : Type 0} → (X → Bool) → Result X Refused → Type 0
Refuses fault (Ok x) = fault x ≡ false
Refuses fault (Err why) = is_store_fault (of_refused why) ≡ false

then_refuses : {X Y : Type 0} (p : X → Bool) (q : Y → Bool) (m : Result X Refused) (f : X → Result Y Refused) → Refuses p m → ((x : X) → Refuses q (f x)) → Refuses q (m >>= f)
then_refuses p q (Ok x) f h k = k x
then_refuses p q (Err why) f h k = h

abbrev never : {X : Type 0} → X → Bool
never x = false

test_refuses : (why : Refusal) (b : Bool) → is_store_fault (of_refused (unnumbered why)) ≡ false → Refuses never (true_or why b)
test_refuses why true h = refl
test_refuses why false h = h

some_refuses : {X : Type 0} (why : Refusal) (o : Option X) → is_store_fault (of_refused (unnumbered why)) ≡ false → Refuses never (some_or why o)
some_refuses why None h = h
some_refuses why (Some x) h = refl

abbrev faulty : Database × Reply → Bool
faulty done = is_store_fault done.1

put_refuses : (limits : Bounds) (table : PlainTable) (row : List Value) → Refuses never (put_within limits table row)
put_refuses limits table row =
    then_refuses never never (true_or TypeMismatch (fits_columns table.schema.columns row)) _ (test_refuses TypeMismatch _ refl)
    (λ _. then_refuses never never (true_or NullKey (not (has_null_key table row))) _ (test_refuses NullKey _ refl)
    (λ _. then_refuses never never (true_or Limit (nat_le (length (rows_with table row)) limits.rows)) _ (test_refuses Limit _ refl) (λ _. refl)))

payload_refuses : (payload : Payload) → Refuses never (payload_bytes payload)
payload_refuses (payload.Bytes bytes) = refl
payload_refuses payload.Open = refl
payload_refuses payload.TooLong = refl
payload_refuses payload.NoMemory = refl

fault_refuses : (why : LoadRefusal) → is_store_fault (of_refused (fault_refusal why)) ≡ false
fault_refuses (fault.NullKey number) = refl
fault_refuses fault.Header = refl
fault_refuses (fault.FieldCount number) = refl
fault_refuses (fault.BadInt number) = refl
fault_refuses (fault.BadText number) = refl
fault_refuses fault.Limit = refl
fault_refuses fault.Memory = refl

rows_refuse : (read : Result (List (List Value)) LoadRefusal) → Refuses never (refused_by read)
rows_refuse (Ok rows) = refl
rows_refuse (Err why) = fault_refuses why

module _ (limits : Bounds) (db : Database) where
  create_refuses : (name : List ℕ) (columns : List Column) (key : List (List ℕ)) → Refuses faulty (create limits db name columns key)
  create_refuses name columns key =
      then_refuses never faulty (true_or TableExists (not (is_some (table_at db name)))) _ (test_refuses TableExists _ refl)
      (λ _. then_refuses never faulty (some_or NoColumn (positions_of columns key)) _ (some_refuses NoColumn _ refl)
      (λ positions. then_refuses never faulty (true_or Limit (nat_lt (length db) limits.tables)) _ (test_refuses Limit _ refl) (λ _. refl)))

  upsert_refuses : (name : List ℕ) (row : List Value) → Refuses faulty (upsert limits db name row)
  upsert_refuses name row =
      then_refuses never faulty (with_row limits db name row) _
      (then_refuses never never (table_in db name) _ (some_refuses NoTable _ refl)
      (λ table. then_refuses never never (put_within limits table (stored_in table.schema.columns row)) _ (put_refuses limits table (stored_in table.schema.columns row)) (λ _. refl)))
      (λ _. refl)

  drop_refuses : (name : List ℕ) → Refuses faulty (drop_table db name)
  drop_refuses name = then_refuses never faulty (table_in db name) _ (some_refuses NoTable _ refl) (λ _. refl)

  load_refuses : (name : List ℕ) (payload : Payload) → Refuses faulty (load_table short.Refused limits db name payload)
  load_refuses name payload =
      then_refuses never faulty (true_or Memory (not (is_lost payload))) _ (test_refuses Memory _ refl)
      (λ _. then_refuses never faulty (table_in db name) _ (some_refuses NoTable _ refl)
      (λ table. then_refuses never faulty (payload_bytes payload) _ (payload_refuses payload)
      (λ bytes. then_refuses never faulty (csv_rows short.Refused limits table.schema bytes) _ (rows_refuse (load short.Refused table.schema limits bytes))
      (λ rows. then_refuses never faulty (with_rows limits db name rows) _
      (then_refuses never never (table_in db name) _ (some_refuses NoTable _ refl)
      (λ there. then_refuses never never (put_all_within limits there rows) _
      (then_refuses never never (true_or Limit (nat_le (length (put_all there.schema.key there.rows rows)) limits.rows)) _ (test_refuses Limit _ refl) (λ _. refl)) (λ _. refl)))
      (λ _. refl)))))

  delete_refuses : (name : List ℕ) (values : List Value) → Refuses faulty (delete_row db name values)
  delete_refuses name values =
      then_refuses never faulty (table_in db name) _ (some_refuses NoTable _ refl)
      (λ table. then_refuses never faulty (true_or NoKey (some table.schema.key)) _ (test_refuses NoKey _ refl)
      (λ _. then_refuses never faulty (true_or TypeMismatch (fits_key table.schema.columns table.schema.key (stored_key table.schema.columns table.schema.key values))) _ (test_refuses TypeMismatch _ refl)
      (λ _. then_refuses never faulty (true_or NullKey (not (list_any is_null (stored_key table.schema.columns table.schema.key values)))) _ (test_refuses NullKey _ refl) (λ _. refl))))

  show_refuses : (name : List ℕ) → Refuses faulty (show_table db name)
  show_refuses name = then_refuses never faulty (table_in db name) _ (some_refuses NoTable _ refl) (λ _. refl)

  named_refuses : {X : Type 0} (o : Option X) → Refuses never (some_or NoColumn o)
  named_refuses o = some_refuses NoColumn o refl

  matching_refuses : (columns others : List Column) (exists : Option Exists) → Refuses never (matching_named columns others exists)
  matching_refuses columns others None = refl
  matching_refuses columns others (Some exists) =
      then_refuses never never (some_or NoColumn (positions_of others exists.theirs)) _ (named_refuses _)
      (λ theirs. then_refuses never never (some_or NoColumn (positions_of columns exists.ours)) _ (named_refuses _) (λ _. refl))

  group_plan_refuses : (columns others : List Column) (clauses : GroupClauses) → Refuses never (group_plan columns others clauses)
  group_plan_refuses columns others clauses =
      then_refuses never never (group_named columns others clauses) _
      (then_refuses never never (some_or NoColumn (positions_of columns clauses.by.columns)) _ (named_refuses _)
      (λ by. then_refuses never never (some_or NoColumn (all_shown columns clauses.shown)) _ (named_refuses _)
      (λ shown. then_refuses never never (some_or NoColumn (all_placed (in_row columns) clauses.tests)) _ (named_refuses _)
      (λ tests. then_refuses never never (matching_named columns others clauses.exists) _ (matching_refuses columns others clauses.exists)
      (λ matching. then_refuses never never (some_or NoColumn (all_placed (in_result clauses.by.columns clauses.shown) clauses.having)) _ (named_refuses _) (λ _. refl))))))
      (λ plan. then_refuses never never (true_or TypeMismatch (group_fits columns others plan)) _ (test_refuses TypeMismatch _ refl) (λ _. refl))

  other_refuses : (exists : Option Exists) → Refuses never (other_in db exists)
  other_refuses None = refl
  other_refuses (Some exists) = then_refuses never never (table_in db exists.table) _ (some_refuses NoTable _ refl) (λ _. refl)

  group_refuses : (name : List ℕ) (clauses : GroupClauses) → Refuses faulty (group db name clauses)
  group_refuses name clauses =
      then_refuses never faulty (table_in db name) _ (some_refuses NoTable _ refl)
      (λ table. then_refuses never faulty (other_in db clauses.exists) _ (other_refuses clauses.exists)
      (λ other. then_refuses never faulty (group_plan table.schema.columns (other_columns other) clauses) _ (group_plan_refuses table.schema.columns (other_columns other) clauses)
      (λ plan. then_refuses never faulty (some_or SumRange (rows_planned plan table other)) _ (some_refuses SumRange _ refl) (λ _. refl))))

  distinct_plan_refuses : (columns : List Column) (on : List Bytes) (tests : List Test) → Refuses never (distinct_plan columns on tests)
  distinct_plan_refuses columns on tests =
      then_refuses never never (distinct_named columns on tests) _
      (then_refuses never never (some_or NoColumn (positions_of columns on)) _ (named_refuses _)
      (λ places. then_refuses never never (some_or NoColumn (all_placed (in_row columns) tests)) _ (named_refuses _) (λ _. refl)))
      (λ plan. then_refuses never never (true_or TypeMismatch (tests_fit (kinds_of columns) plan.condition.tests)) _ (test_refuses TypeMismatch _ refl) (λ _. refl))

  distinct_refuses : (name : List ℕ) (on : List Bytes) (tests : List Test) → Refuses faulty (distinct db name on tests)
  distinct_refuses name on tests =
      then_refuses never faulty (table_in db name) _ (some_refuses NoTable _ refl)
      (λ table. then_refuses never faulty (distinct_plan table.schema.columns on tests) _ (distinct_plan_refuses table.schema.columns on tests) (λ _. refl))

  command_refuses : (c : Command) → Refuses faulty (outcome limits db c)
  command_refuses (Create name columns key) = create_refuses name columns key
  command_refuses (Drop name) = drop_refuses name
  command_refuses (Load name payload) = load_refuses name payload
  command_refuses (Upsert name values) = upsert_refuses name values
  command_refuses (Delete name values) = delete_refuses name values
  command_refuses (Show name) = show_refuses name
  command_refuses (Group name by shown tests exists having) = group_refuses name (record { by = by; shown = shown; tests = tests; exists = exists; having = having })
  command_refuses (Distinct name on tests) = distinct_refuses name on tests

  pub done_tells : (c : Command) (last : Database) (answer : Reply) → outcome limits db c ≡ Ok (last, answer) → is_store_fault answer ≡ false
  done_tells c last answer e = subst (Refuses faulty) e (command_refuses c)

  pub refused_tells : (c : Command) (why : Refused) → outcome limits db c ≡ Err why → is_store_fault (of_refused why) ≡ false
  refused_tells c why e = subst (Refuses faulty) e (command_refuses c)
