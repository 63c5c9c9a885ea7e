-- The order of rows within tables is unseen.
use Rattle.std.proofs.Common.{◌≡◌, ℕ, zero, set, inl, inr, Bool, true, false, cond, not, IsTrue, List, [], ◌∷◌, ◌++◌, length, refl, sym, ap, subst, ◌∙◌, Option, Some, None, IsPermutation, true≢false}
use Rattle.std.specs.Prelude.{bytes_eq, nat_lt, nat_le, is_some, suc, Result, Ok, Err, ◌⊎◌, if◌then◌else◌}
use Rattle.std.specs.List.{list_any}
use Rattle.std.proofs.lemmas.List.Sorted.{IsPermutation-refl, IsPermutation-sym, IsPermutation-trans, length_permutation, list_any-IsPermutation}
use Rattle.gq_row.specs.declared.value.Value.{Value}
use Rattle.gq_row.specs.declared.schema.Column.{Column}
use Rattle.gq_row.specs.declared.limits.Bounds.{Bounds}
use Rattle.gq_row.specs.Schemas.{PlainSchema, positions_of}
use Rattle.gq_row.specs.Order.{same_key}
use Rattle.gq_row.specs.Rows.{cell, key_of}
use Rattle.gq_row.specs.Tables.{PlainTable, keys_differ, put, put_all, delete, has_row}
use Rattle.gq_row.proofs.MovedLemmas.{IsPermutation-filter, put-same_rows}
use Rattle.gq_row.proofs.OrderLemmas.{same_key_equiv, same_key_exact}
use Rattle.gq_row.proofs.TableLemmas.{keys_differ-put}
use Rattle.gq_table.proofs.ValidTableLemmas.{keys_differ-delete}
use Rattle.gq_command.specs.Commands.{Bytes, column_names, some}
use Rattle.gq_clause.specs.declared.condition.Test.{Test}
use Rattle.gq_command.specs.declared.command.Command.{Command}
use Rattle.gq_command.specs.declared.command.Command.TheVariants.{Create, Drop, Load, Upsert, Delete, Show, Group, Distinct}
use Rattle.gq_command.specs.declared.command.Exists.{Exists}
use Rattle.gq_load.specs.declared.short_records.Short.TheVariants as short
use Rattle.gq_command.specs.declared.command.Payload.{Payload}
use Rattle.gq_command.specs.declared.command.Payload.TheVariants as payload
use Rattle.gq_command.specs.declared.reader.Item.{Item}
use Rattle.gq_command.specs.declared.reader.Item.TheVariants as item
use Rattle.gq_reply.specs.declared.refusal.Refusal.{Refusal}
use Rattle.gq_reply.specs.declared.refusal.Refusal.TheVariants.{TypeMismatch, NoKey, NullKey, Limit, TableExists, NoColumn, NoTable, SumRange, Memory}
use Rattle.gq_reply.specs.declared.refusal.Refused.{Refused}
use Rattle.gq_reply.specs.declared.reply.Reply.{Reply}
use Rattle.gq_reply.specs.declared.reply.Reply.TheVariants as reply
use Rattle.gq_query.specs.Answers.{rows_shown}
use Rattle.gq_query.specs.Selecting.{other_columns, other_rows}
use Rattle.gq_query.proofs.Unseen.{order_is_unseen}
use Rattle.gq_plan.specs.declared.clauses.GroupClauses.{GroupClauses}
use Rattle.gq_plan.specs.declared.plan.GroupPlan.{GroupPlan}
use Rattle.gq_plan.specs.declared.plan.DistinctPlan.{DistinctPlan}
use Rattle.gq_plan.specs.Headers.{group_header}
use Rattle.gq_plan.specs.Plans.{distinct_plan, group_plan}
use Rattle.gq_engine.specs.Databases.{Database, table_at, with_table, without_table, IsKeyed}
use Rattle.gq_row.specs.Fitting.{fits_columns, is_null, stored_in}
use Rattle.gq_reply.specs.Outcomes.{◌>>=◌, some_or, true_or}
use Rattle.gq_reply.specs.Refusals.{unnumbered, of_refused, refused}
use Rattle.gq_engine.specs.Loading.{is_lost, payload_bytes, csv_rows}
use Rattle.gq_engine.specs.Refusing.{has_null_key, rows_with, put_within, put_all_within, fits_key, stored_key}
use Rattle.gq_engine.specs.Runs.{Setting, LegalAnswer, AsListsAnswer, WantsMemory, StoreFailed, StoreLied, SameTables, ReachesGrouping, IsGrouped, AnsweredAlike, AnsweredAsLists}
use Rattle.gq_engine.specs.Serving.{CarriedOut, Comes, ComesSurely}
use Rattle.gq_engine.specs.Steps.{Outcome, table_in, settle, outcome, step, create, drop_table, with_row, upsert, with_rows, load_table, key_named, delete_row, show_table, group, distinct, other_in, rows_planned, keys_planned}
use Rattle.gq_engine.specs.Orders.{StepsAlike, RunsAlike}

-- ---- tables

abbrev Rows : Type 0
Rows = List (List Value)

abbrev table : PlainSchema → Rows → PlainTable
table h rows = record { schema = h; rows = rows }

-- rows put into the same rows in another order
put_all-same_rows : (key : List ℕ) (xs ys new : Rows) → IsTrue (keys_differ key xs) → IsPermutation xs ys → IsPermutation (put_all key xs new) (put_all key ys new)
put_all-same_rows key xs ys [] differ moved = moved
put_all-same_rows key xs ys (row ∷ new) differ moved = put_all-same_rows key (put key xs row) (put key ys row) new (keys_differ-put key xs row differ) (put-same_rows key xs ys row differ moved)

pub keys_differ-put_all : (key : List ℕ) (xs new : Rows) → IsTrue (keys_differ key xs) → IsTrue (keys_differ key (put_all key xs new))
keys_differ-put_all key xs [] differ = differ
keys_differ-put_all key xs (row ∷ new) differ = keys_differ-put_all key (put key xs row) new (keys_differ-put key xs row differ)

-- the rows of other keys, and whether there is a row of a key, of the same rows in another order
delete-same_rows : (key : List ℕ) (xs ys : Rows) (k : List Value) → IsPermutation xs ys → IsPermutation (delete key xs k) (delete key ys k)
delete-same_rows key xs ys k moved = IsPermutation-filter same_key_equiv same_key_exact (λ row. not (same_key (key_of key row) k)) xs ys moved

has_row-same_rows : (key : List ℕ) (xs ys : Rows) (k : List Value) → IsPermutation xs ys → has_row key xs k ≡ has_row key ys k
has_row-same_rows key xs ys k moved = list_any-IsPermutation (λ row. same_key (key_of key row) k) xs ys moved

-- two tables that differ only in the order of rows, or no table twice
pub record AlikeTables (s t : PlainTable) : Type 0 where
  pub schema : s.schema ≡ t.schema
  pub rows : IsPermutation s.rows t.rows
  pub keyed : IsTrue (keys_differ s.schema.key s.rows)

abbrev Alike : Option PlainTable → Option PlainTable → Type 0
Alike None None = Unit {0}
Alike None (Some t) = ⊥
Alike (Some s) None = ⊥
Alike (Some s) (Some t) = AlikeTables s t

-- ---- databases

Alike-cond : (b : Bool) (s t : PlainTable) (o p : Option PlainTable) → AlikeTables s t → Alike o p → Alike (cond b (Some s) o) (cond b (Some t) p)
Alike-cond true s t o p h k = h
Alike-cond false s t o p h k = k

pub tables_alike : (a b : Database) (name : List ℕ) → IsKeyed a → SameTables a b → Alike (table_at a name) (table_at b name)
tables_alike [] [] name k same = tt
tables_alike [] (y ∷ b) name k same = absurd same
tables_alike (x ∷ a) [] name k same = absurd same
tables_alike (x ∷ a) (y ∷ b) name k same =
    let P : List ℕ → Type 0 = λ n. Alike (table_at (x ∷ a) name) (cond (bytes_eq n name) (Some y.1) (table_at b name)) in
    subst P same.0 (Alike-cond (bytes_eq x.0 name) x.1 y.1 (table_at a name) (table_at b name) (record { schema = same.1; rows = same.2; keyed = k.0 }) (tables_alike a b name k.1 same.3))

pub changed_alike : (a b : Database) (name : List ℕ) (s t : PlainTable) → SameTables a b → AlikeTables s t → SameTables (with_table a name s) (with_table b name t)
changed_alike [] [] name s t same h = (refl, h.schema, h.rows, tt)
changed_alike [] (y ∷ b) name s t same h = absurd same
changed_alike (x ∷ a) [] name s t same h = absurd same
changed_alike (x ∷ a) (y ∷ b) name s t same h =
    let P : List ℕ → Type 0 = λ n. SameTables (with_table (x ∷ a) name s) (cond (bytes_eq n name) ((y.0, t) ∷ b) (y ∷ with_table b name t)) in
    subst P same.0 (chosen (bytes_eq x.0 name) (changed_alike a b name s t same.3 h))
  where
    chosen : (c : Bool) → SameTables (with_table a name s) (with_table b name t) → SameTables (cond c ((x.0, s) ∷ a) (x ∷ with_table a name s)) (cond c ((y.0, t) ∷ b) (y ∷ with_table b name t))
    chosen true rest = (same.0, h.schema, h.rows, same.3)
    chosen false rest = (same.0, same.1, same.2, rest)

pub changed_keyed : (a : Database) (name : List ℕ) (s : PlainTable) → IsKeyed a → IsTrue (keys_differ s.schema.key s.rows) → IsKeyed (with_table a name s)
changed_keyed [] name s k h = (h, tt)
changed_keyed (x ∷ a) name s k h = chosen (bytes_eq x.0 name) (changed_keyed a name s k.1 h)
  where
    chosen : (c : Bool) → IsKeyed (with_table a name s) → IsKeyed (cond c ((x.0, s) ∷ a) (x ∷ with_table a name s))
    chosen true rest = (h, k.1)
    chosen false rest = (k.0, rest)

pub added_alike : (a b : Database) (entry : List ℕ × PlainTable) → SameTables a b → SameTables (a ++ entry ∷ []) (b ++ entry ∷ [])
added_alike [] [] entry same = (refl, refl, IsPermutation-refl entry.1.rows, tt)
added_alike [] (y ∷ b) entry same = absurd same
added_alike (x ∷ a) [] entry same = absurd same
added_alike (x ∷ a) (y ∷ b) entry same = (same.0, same.1, same.2, added_alike a b entry same.3)

pub added_keyed : (a : Database) (entry : List ℕ × PlainTable) → IsKeyed a → IsTrue (keys_differ entry.1.schema.key entry.1.rows) → IsKeyed (a ++ entry ∷ [])
added_keyed [] entry k h = (h, tt)
added_keyed (x ∷ a) entry k h = (k.0, added_keyed a entry k.1 h)

pub without_alike : (a b : Database) (name : List ℕ) → SameTables a b → SameTables (without_table a name) (without_table b name)
without_alike [] [] name same = tt
without_alike [] (y ∷ b) name same = absurd same
without_alike (x ∷ a) [] name same = absurd same
without_alike (x ∷ a) (y ∷ b) name same =
    let P : List ℕ → Type 0 = λ n. SameTables (without_table (x ∷ a) name) (cond (not (bytes_eq n name)) (y ∷ without_table b name) (without_table b name)) in
    subst P same.0 (chosen (bytes_eq x.0 name) (without_alike a b name same.3))
  where
    chosen : (c : Bool) → SameTables (without_table a name) (without_table b name) → SameTables (cond (not c) (x ∷ without_table a name) (without_table a name)) (cond (not c) (y ∷ without_table b name) (without_table b name))
    chosen true rest = rest
    chosen false rest = (same.0, same.1, same.2, rest)

pub without_keyed : (a : Database) (name : List ℕ) → IsKeyed a → IsKeyed (without_table a name)
without_keyed [] name k = tt
without_keyed (x ∷ a) name k = chosen (bytes_eq x.0 name) (without_keyed a name k.1)
  where
    chosen : (c : Bool) → IsKeyed (without_table a name) → IsKeyed (cond (not c) (x ∷ without_table a name) (without_table a name))
    chosen true rest = rest
    chosen false rest = (k.0, rest)

pub as_many : (a b : Database) → SameTables a b → length a ≡ length b
as_many [] [] same = refl
as_many [] (y ∷ b) same = absurd same
as_many (x ∷ a) [] same = absurd same
as_many (x ∷ a) (y ∷ b) same = ap (λ n. suc n) (as_many a b same.3)

pub no_rows_differ : (key : List ℕ) → IsTrue (keys_differ key [])
no_rows_differ [] = refl
no_rows_differ (column ∷ columns) = refl

-- ---- outcomes

-- results of steps that are alike by a relation, or the same refusal
abbrev AlikeBy : {X Y : Type 0} → (X → Y → Type 0) → Result X Refused → Result Y Refused → Type 0
AlikeBy R (Ok x) (Ok y) = R x y
AlikeBy R (Ok x) (Err w) = ⊥
AlikeBy R (Err v) (Ok y) = ⊥
AlikeBy R (Err v) (Err w) = v ≡ w

-- steps that are alike, and then alike steps on what they gave
then_alike : {X Y A B : Type 0} (R : X → Y → Type 0) (S : A → B → Type 0) (m : Result X Refused) (n : Result Y Refused) (f : X → Result A Refused) (g : Y → Result B Refused)
    → AlikeBy R m n → ((x : X) (y : Y) → R x y → AlikeBy S (f x) (g y)) → AlikeBy S (m >>= f) (n >>= g)
then_alike R S (Ok x) (Ok y) f g h k = k x y h
then_alike R S (Ok x) (Err w) f g h k = absurd h
then_alike R S (Err v) (Ok y) f g h k = absurd h
then_alike R S (Err v) (Err w) f g h k = h

abbrev Always : Unit {0} → Unit {0} → Type 0
Always x y = Unit {0}

test_alike : (why : Refusal) (b c : Bool) → b ≡ c → AlikeBy Always (true_or why b) (true_or why c)
test_alike why true true e = tt
test_alike why true false e = absurd (true≢false e)
test_alike why false true e = absurd (true≢false (sym e))
test_alike why false false e = refl

some_alike : {X : Type 0} (why : Refusal) (o p : Option X) → o ≡ p → AlikeBy (λ (x y : X). x ≡ y) (some_or why o) (some_or why p)
some_alike why None None e = refl
some_alike why None (Some y) e = let none : ⊥ = cc in absurd none
some_alike why (Some x) None e = let none : ⊥ = cc in absurd none
some_alike why (Some x) (Some y) e = let it : x ≡ y = cc in it

same_alike : {X : Type 0} (m n : Result X Refused) → m ≡ n → AlikeBy (λ (x y : X). x ≡ y) m n
same_alike (Ok x) (Ok y) e = let it : x ≡ y = cc in it
same_alike (Ok x) (Err w) e = let none : ⊥ = cc in absurd none
same_alike (Err v) (Ok y) e = let none : ⊥ = cc in absurd none
same_alike (Err v) (Err w) e = let it : v ≡ w = cc in it

found_alike : (o p : Option PlainTable) → Alike o p → AlikeBy AlikeTables (some_or NoTable o) (some_or NoTable p)
found_alike None None h = refl
found_alike None (Some t) h = absurd h
found_alike (Some s) None h = absurd h
found_alike (Some s) (Some t) h = h

alike_some : (o p : Option PlainTable) → Alike o p → is_some o ≡ is_some p
alike_some None None h = refl
alike_some None (Some t) h = absurd h
alike_some (Some s) None h = absurd h
alike_some (Some s) (Some t) h = refl

-- a row is put alike
put_alike : (limits : Bounds) (s t : PlainTable) (row : List Value) → AlikeTables s t → AlikeBy (λ xs ys. AlikeTables (record s { rows = xs }) (record t { rows = ys })) (put_within limits s row) (put_within limits t row)
put_alike limits s t row h =
    then_alike Always Put (true_or TypeMismatch (fits_columns s.schema.columns row)) (true_or TypeMismatch (fits_columns t.schema.columns row)) _ _
    (test_alike TypeMismatch _ _ (ap (λ (g : PlainSchema). fits_columns g.columns row) h.schema))
    (λ _ _ _. then_alike Always Put (true_or NullKey (not (has_null_key s row))) (true_or NullKey (not (has_null_key t row))) _ _
    (test_alike NullKey _ _ (ap (λ (g : PlainSchema). not (list_any (λ column. is_null (cell row column)) g.key)) h.schema))
    (λ _ _ _. then_alike Always Put (true_or Limit (nat_le (length (rows_with s row)) limits.rows)) (true_or Limit (nat_le (length (rows_with t row)) limits.rows)) _ _
    (test_alike Limit _ _ (ap (λ n. nat_le n limits.rows) (sym (length_permutation _ _ moved))))
    (λ _ _ _. record { schema = h.schema; rows = moved; keyed = keys_differ-put s.schema.key s.rows row h.keyed })))
  where
    Put : Rows → Rows → Type 0
    Put xs ys = AlikeTables (record s { rows = xs }) (record t { rows = ys })

    moved : IsPermutation (rows_with s row) (rows_with t row)
    moved = subst (λ (g : PlainSchema). IsPermutation (put s.schema.key s.rows row) (put g.key t.rows row)) h.schema (put-same_rows s.schema.key s.rows t.rows row h.keyed h.rows)

-- and so is what the columns store of one
store_alike : (limits : Bounds) (s t : PlainTable) (row : List Value) → AlikeTables s t
    → AlikeBy (λ xs ys. AlikeTables (record s { rows = xs }) (record t { rows = ys })) (put_within limits s (stored_in s.schema.columns row)) (put_within limits t (stored_in t.schema.columns row))
store_alike limits s t row h =
    let P : PlainSchema → Type 0 = λ g. AlikeBy (λ xs ys. AlikeTables (record s { rows = xs }) (record t { rows = ys })) (put_within limits s (stored_in s.schema.columns row)) (put_within limits t (stored_in g.columns row)) in
    subst P h.schema (put_alike limits s t (stored_in s.schema.columns row) h)

-- rows are put alike
put_all_alike : (limits : Bounds) (s t : PlainTable) (new : Rows) → AlikeTables s t → AlikeBy (λ xs ys. AlikeTables (record s { rows = xs }) (record t { rows = ys })) (put_all_within limits s new) (put_all_within limits t new)
put_all_alike limits s t new h =
    then_alike Always (λ xs ys. AlikeTables (record s { rows = xs }) (record t { rows = ys })) (true_or Limit (nat_le (length (put_all s.schema.key s.rows new)) limits.rows)) (true_or Limit (nat_le (length (put_all t.schema.key t.rows new)) limits.rows)) _ _
    (test_alike Limit _ _ (ap (λ n. nat_le n limits.rows) (sym (length_permutation _ _ moved))))
    (λ _ _ _. record { schema = h.schema; rows = moved; keyed = keys_differ-put_all s.schema.key s.rows new h.keyed })
  where
    moved : IsPermutation (put_all s.schema.key s.rows new) (put_all t.schema.key t.rows new)
    moved = subst (λ (g : PlainSchema). IsPermutation (put_all s.schema.key s.rows new) (put_all g.key t.rows new)) h.schema (put_all-same_rows s.schema.key s.rows t.rows new h.keyed h.rows)

-- the row of the key that values name is taken away alike
delete_alike : (s t : PlainTable) (values : List Value) → AlikeTables s t
    → AlikeTables (record s { rows = delete s.schema.key s.rows (key_named s.schema values) }) (record t { rows = delete t.schema.key t.rows (key_named t.schema values) })
delete_alike s t values h =
    let key = key_named s.schema values in
    record {
      schema = h.schema;
      rows = subst (λ (g : PlainSchema). IsPermutation (delete s.schema.key s.rows key) (delete g.key t.rows (key_named g values))) h.schema (delete-same_rows s.schema.key s.rows t.rows key h.rows);
      keyed = keys_differ-delete s.schema.key s.rows key h.keyed;
    }

-- the columns and the rows of a table, if there is one
others_columns : (o p : Option PlainTable) → Alike o p → other_columns o ≡ other_columns p
others_columns None None h = refl
others_columns None (Some t) h = absurd h
others_columns (Some s) None h = absurd h
others_columns (Some s) (Some t) h = ap (λ (g : PlainSchema). g.columns) h.schema

others_rows : (o p : Option PlainTable) → Alike o p → IsPermutation (other_rows o) (other_rows p)
others_rows None None h = IsPermutation-refl []
others_rows None (Some t) h = absurd h
others_rows (Some s) None h = absurd h
others_rows (Some s) (Some t) h = h.rows

-- databases that differ only in the order of rows, where no two rows of a table have the same key
pub record AlikeTablesOf (a b : Database) : Type 0 where
  pub same : SameTables a b
  pub keyed : IsKeyed a

-- the same reply, and such databases
pub record Alikes (p q : Database × Reply) : Type 0 where
  pub reply : p.1 ≡ q.1
  pub same : SameTables p.0 q.0
  pub keyed : IsKeyed p.0

module _ (limits : Bounds) (a b : Database) (k : IsKeyed a) (same : SameTables a b) where
  table_alike : (name : List ℕ) → AlikeBy AlikeTables (table_in a name) (table_in b name)
  table_alike name = found_alike (table_at a name) (table_at b name) (tables_alike a b name k same)

  create_alike : (name : List ℕ) (columns : List Column) (key : List (List ℕ)) → AlikeBy Alikes (create limits a name columns key) (create limits b name columns key)
  create_alike name columns key =
      then_alike Always Alikes (true_or TableExists (not (is_some (table_at a name)))) (true_or TableExists (not (is_some (table_at b name)))) _ _
      (test_alike TableExists _ _ (ap not (alike_some (table_at a name) (table_at b name) (tables_alike a b name k same))))
      (λ _ _ _. then_alike (λ (c d : List ℕ). c ≡ d) Alikes (some_or NoColumn (positions_of columns key)) (some_or NoColumn (positions_of columns key)) _ _ (some_alike NoColumn _ _ refl)
      (λ c d e. then_alike Always Alikes (true_or Limit (nat_lt (length a) limits.tables)) (true_or Limit (nat_lt (length b) limits.tables)) _ _
      (test_alike Limit _ _ (ap (λ n. nat_lt n limits.tables) (as_many a b same)))
      (λ _ _ _. added c d e)))
    where
      entry : List ℕ → List ℕ × PlainTable
      entry positions = (name, table (record { columns = columns; key = positions }) [])

      added : (c d : List ℕ) → c ≡ d → Alikes (a ++ (name, table (record { columns = columns; key = c }) []) ∷ [], reply.Done 0) (b ++ (name, table (record { columns = columns; key = d }) []) ∷ [], reply.Done 0)
      added c d e =
          let P : List ℕ → Type 0 = λ l. Alikes (a ++ (name, table (record { columns = columns; key = c }) []) ∷ [], reply.Done 0) (b ++ (name, table (record { columns = columns; key = l }) []) ∷ [], reply.Done 0) in
          subst P e (record { reply = refl; same = added_alike a b (name, table (record { columns = columns; key = c }) []) same; keyed = added_keyed a (name, table (record { columns = columns; key = c }) []) k (no_rows_differ c) })

  drop_alike : (name : List ℕ) → AlikeBy Alikes (drop_table a name) (drop_table b name)
  drop_alike name =
      then_alike AlikeTables Alikes (table_in a name) (table_in b name) _ _ (table_alike name)
      (λ s t h. record { reply = refl; same = without_alike a b name same; keyed = without_keyed a name k })

  upsert_alike : (name : List ℕ) (row : List Value) → AlikeBy Alikes (upsert limits a name row) (upsert limits b name row)
  upsert_alike name row =
      then_alike AlikeTablesOf Alikes (with_row limits a name row) (with_row limits b name row) _ _
      (then_alike AlikeTables AlikeTablesOf (table_in a name) (table_in b name) _ _ (table_alike name)
      (λ s t h. then_alike (λ xs ys. AlikeTables (record s { rows = xs }) (record t { rows = ys })) AlikeTablesOf (put_within limits s (stored_in s.schema.columns row)) (put_within limits t (stored_in t.schema.columns row)) _ _ (store_alike limits s t row h)
      (λ xs ys m. record { same = changed_alike a b name (record s { rows = xs }) (record t { rows = ys }) same m; keyed = changed_keyed a name (record s { rows = xs }) k m.keyed })))
      (λ x y m. record { reply = refl; same = m.same; keyed = m.keyed })

  rows_alike : (name : List ℕ) (new : Rows) → AlikeBy AlikeTablesOf (with_rows limits a name new) (with_rows limits b name new)
  rows_alike name new =
      then_alike AlikeTables AlikeTablesOf (table_in a name) (table_in b name) _ _ (table_alike name)
      (λ s t h. then_alike (λ xs ys. AlikeTables (record s { rows = xs }) (record t { rows = ys })) AlikeTablesOf (put_all_within limits s new) (put_all_within limits t new) _ _ (put_all_alike limits s t new h)
      (λ xs ys m. record { same = changed_alike a b name (record s { rows = xs }) (record t { rows = ys }) same m; keyed = changed_keyed a name (record s { rows = xs }) k m.keyed }))

  load_alike : (name : List ℕ) (payload : Payload) → AlikeBy Alikes (load_table short.Refused limits a name payload) (load_table short.Refused limits b name payload)
  load_alike name payload =
      then_alike Always Alikes (true_or Memory (not (is_lost payload))) (true_or Memory (not (is_lost payload))) _ _ (test_alike Memory _ _ refl)
      (λ _ _ _. then_alike AlikeTables Alikes (table_in a name) (table_in b name) _ _ (table_alike name)
      (λ s t h. then_alike (λ (x y : Bytes). x ≡ y) Alikes (payload_bytes payload) (payload_bytes payload) _ _ (same_alike (payload_bytes payload) (payload_bytes payload) refl)
      (λ x y e. then_alike (λ (xs ys : Rows). xs ≡ ys) Alikes (csv_rows short.Refused limits s.schema x) (csv_rows short.Refused limits t.schema y) _ _
      (same_alike (csv_rows short.Refused limits s.schema x) (csv_rows short.Refused limits t.schema y) (ap (λ (g : PlainSchema). csv_rows short.Refused limits g x) h.schema ∙ ap (csv_rows short.Refused limits t.schema) e))
      (λ xs ys f. put xs ys f))))
    where
      put : (xs ys : Rows) → xs ≡ ys → AlikeBy Alikes (with_rows limits a name xs >>= λ new. Ok (new, reply.Done (length xs))) (with_rows limits b name ys >>= λ new. Ok (new, reply.Done (length ys)))
      put xs ys e =
          then_alike AlikeTablesOf Alikes (with_rows limits a name xs) (with_rows limits b name ys) _ _
          (subst (λ (l : Rows). AlikeBy AlikeTablesOf (with_rows limits a name xs) (with_rows limits b name l)) e (rows_alike name xs))
          (λ x y m. record { reply = ap (λ (l : Rows). reply.Done (length l)) e; same = m.same; keyed = m.keyed })

  deleted_alike : (name : List ℕ) (values : List Value) → AlikeBy Alikes (delete_row a name values) (delete_row b name values)
  deleted_alike name values =
      then_alike AlikeTables Alikes (table_in a name) (table_in b name) _ _ (table_alike name)
      (λ s t h. then_alike Always Alikes (true_or NoKey (some s.schema.key)) (true_or NoKey (some t.schema.key)) _ _
      (test_alike NoKey _ _ (ap (λ (g : PlainSchema). some g.key) h.schema))
      (λ _ _ _. then_alike Always Alikes (true_or TypeMismatch (fits s.schema)) (true_or TypeMismatch (fits t.schema)) _ _ (test_alike TypeMismatch _ _ (ap fits h.schema))
      (λ _ _ _. then_alike Always Alikes (true_or NullKey (whole s.schema)) (true_or NullKey (whole t.schema)) _ _ (test_alike NullKey _ _ (ap whole h.schema))
      (λ _ _ _. deleted s t h))))
    where
      fits : PlainSchema → Bool
      fits g = fits_key g.columns g.key (stored_key g.columns g.key values)

      whole : PlainSchema → Bool
      whole g = not (list_any is_null (stored_key g.columns g.key values))

      left : PlainTable → PlainTable
      left s = record s { rows = delete s.schema.key s.rows (key_named s.schema values) }

      count : PlainTable → Reply
      count s = reply.Done (if has_row s.schema.key s.rows (key_named s.schema values) then 1 else 0)

      deleted : (s t : PlainTable) → AlikeTables s t → Alikes (with_table a name (left s), count s) (with_table b name (left t), count t)
      deleted s t h =
          let m = delete_alike s t values h in
          record {
            reply = ap (λ (b : Bool). reply.Done (if b then 1 else 0))
                (has_row-same_rows s.schema.key s.rows t.rows (key_named s.schema values) h.rows ∙ ap (λ (g : PlainSchema). has_row g.key t.rows (key_named g values)) h.schema);
            same = changed_alike a b name (left s) (left t) same m;
            keyed = changed_keyed a name (left s) k m.keyed;
          }

  show_alike : (name : List ℕ) → AlikeBy Alikes (show_table a name) (show_table b name)
  show_alike name =
      then_alike AlikeTables Alikes (table_in a name) (table_in b name) _ _ (table_alike name)
      (λ s t h. record {
        reply = ap (λ (g : PlainSchema). reply.Rows (column_names g.columns) (rows_shown s)) h.schema
            ∙ ap (reply.Rows (column_names t.schema.columns)) (order_is_unseen.listed s t h.schema h.keyed h.rows);
        same = same;
        keyed = k;
      })

  other_alike : (exists : Option Exists) → AlikeBy Alike (other_in a exists) (other_in b exists)
  other_alike None = tt
  other_alike (Some exists) = then_alike AlikeTables Alike (table_in a exists.table) (table_in b exists.table) _ _ (table_alike exists.table) (λ s t h. h)

  group_alike : (name : List ℕ) (clauses : GroupClauses) → AlikeBy Alikes (group a name clauses) (group b name clauses)
  group_alike name clauses =
      then_alike AlikeTables Alikes (table_in a name) (table_in b name) _ _ (table_alike name)
      (λ s t h. then_alike Alike Alikes (other_in a clauses.exists) (other_in b clauses.exists) _ _ (other_alike clauses.exists)
      (λ u v o. then_alike (λ (c d : GroupPlan). c ≡ d) Alikes (group_plan s.schema.columns (other_columns u) clauses) (group_plan t.schema.columns (other_columns v) clauses) _ _
      (same_alike _ _ (ap (λ (g : PlainSchema). group_plan g.columns (other_columns u) clauses) h.schema ∙ ap (λ (l : List Column). group_plan t.schema.columns l clauses) (others_columns u v o)))
      (λ c d e. then_alike (λ (xs ys : Rows). xs ≡ ys) Alikes (some_or SumRange (rows_planned c s u)) (some_or SumRange (rows_planned d t v)) _ _
      (some_alike SumRange _ _ (order_is_unseen.grouped c.rollup c.by c.shown c.having.tests c.condition.tests c.matching (other_rows u) (other_rows v) s.rows t.rows (others_rows u v o) h.rows
      ∙ ap (λ (k : GroupPlan). rows_planned k t v) e))
      (λ xs ys f. record { reply = ap (reply.Rows (group_header clauses.by clauses.shown)) f; same = same; keyed = k }))))

  distinct_alike : (name : List ℕ) (on : List Bytes) (tests : List Test) → AlikeBy Alikes (distinct a name on tests) (distinct b name on tests)
  distinct_alike name on tests =
      then_alike AlikeTables Alikes (table_in a name) (table_in b name) _ _ (table_alike name)
      (λ s t h. then_alike (λ (c d : DistinctPlan). c ≡ d) Alikes (distinct_plan s.schema.columns on tests) (distinct_plan t.schema.columns on tests) _ _
      (same_alike _ _ (ap (λ (g : PlainSchema). distinct_plan g.columns on tests) h.schema))
      (λ c d e. record {
        reply = ap (reply.Rows on)
            (order_is_unseen.told_apart c.on c.condition.tests None [] [] s.rows t.rows (IsPermutation-refl []) h.rows
            ∙ ap (λ (k : DistinctPlan). keys_planned k t) e);
        same = same;
        keyed = k;
      }))

  command_alike : (c : Command) → AlikeBy Alikes (outcome limits a c) (outcome limits b c)
  command_alike (Create name columns key) = create_alike name columns key
  command_alike (Drop name) = drop_alike name
  command_alike (Load name payload) = load_alike name payload
  command_alike (Upsert name values) = upsert_alike name values
  command_alike (Delete name values) = deleted_alike name values
  command_alike (Show name) = show_alike name
  command_alike (Group name by shown tests exists having) = group_alike name (record { by = by; shown = shown; tests = tests; exists = exists; having = having })
  command_alike (Distinct name on tests) = distinct_alike name on tests

  settled_alike : (p q : Outcome) → AlikeBy Alikes p q → Alikes (settle a p) (settle b q)
  settled_alike (Ok x) (Ok y) h = h
  settled_alike (Ok x) (Err w) h = absurd h
  settled_alike (Err v) (Ok y) h = absurd h
  settled_alike (Err v) (Err w) h = record { reply = ap of_refused h; same = same; keyed = k }

  item_alike : (it : Item) → Alikes (step limits a it) (step limits b it)
  item_alike (item.Command c) = settled_alike (outcome limits a c) (outcome limits b c) (command_alike c)
  item_alike (item.Refused why) = record { reply = refl; same = same; keyed = k }

pub steps_alike : (bounds : Bounds) (a b : Database) (it : Item) → IsKeyed a → SameTables a b → StepsAlike bounds a b it
steps_alike bounds a b it k same = let h = item_alike bounds a b k same it in record { reply = h.reply; same = h.same; keyed = h.keyed }

pub runs_alike : (bounds : Bounds) (a b : Database) (its : List Item) → IsKeyed a → SameTables a b → RunsAlike bounds a b its
runs_alike bounds a b [] k same = record { replies = refl; same = same; keyed = k }
runs_alike bounds a b (it ∷ its) k same =
    let h = steps_alike bounds a b it k same in
    let rest = runs_alike bounds (step bounds a it).0 (step bounds b it).0 its h.keyed h.same in
    record { replies = λ i. h.reply i ∷ rest.replies i; same = rest.same; keyed = rest.keyed }

reaches_alike : (limits : Bounds) (a b : Database) (it : Item) → (step limits a it).1 ≡ (step limits b it).1 → ReachesGrouping limits b it → ReachesGrouping limits a it
reaches_alike limits a b (item.Command c) e g = (g.0, subst IsGrouped (sym e) g.1)
reaches_alike limits a b (item.Refused why) e g = absurd g

pub answers_alike : (setting : Setting) (a b new : Database) (it : Item) (answer : Reply) → IsKeyed a → SameTables a b → LegalAnswer setting b it answer new → AnsweredAlike setting a it answer new
answers_alike setting a b new it answer k same legal = from legal
  where
    h : StepsAlike setting.limits a b it
    h = steps_alike setting.limits a b it k same

    from : LegalAnswer setting b it answer new → AnsweredAlike setting a it answer new
    from (AsListsAnswer e) = record {
      last = (step setting.limits a it).0;
      legal = AsListsAnswer (λ i. ((step setting.limits a it).0, (ap (λ (p : Database × Reply). p.1) e ∙ sym h.reply) i));
      same = subst (SameTables (step setting.limits a it).0) (sym (ap (λ (p : Database × Reply). p.0) e)) h.same;
    }
    from (WantsMemory e m) = record { last = a; legal = WantsMemory refl m; same = subst (SameTables a) (sym e) same }
    from (StoreFailed e g m) = record { last = a; legal = StoreFailed refl (reaches_alike setting.limits a b it h.reply g) m; same = subst (SameTables a) (sym e) same }
    from (StoreLied e g l) = record { last = a; legal = StoreLied refl (reaches_alike setting.limits a b it h.reply g) l; same = subst (SameTables a) (sym e) same }

pub same_tables : (db : Database) → SameTables db db
same_tables [] = tt
same_tables (x ∷ db) = (refl, refl, IsPermutation-refl x.1.rows, same_tables db)

pub tables_trans : (a b c : Database) → SameTables a b → SameTables b c → SameTables a c
tables_trans [] [] [] h k = tt
tables_trans [] [] (z ∷ c) h k = absurd k
tables_trans [] (y ∷ b) c h k = absurd h
tables_trans (x ∷ a) [] c h k = absurd h
tables_trans (x ∷ a) (y ∷ b) [] h k = absurd k
tables_trans (x ∷ a) (y ∷ b) (z ∷ c) h k = (h.0 ∙ k.0, h.1 ∙ k.1, IsPermutation-trans _ _ _ h.2 k.2, tables_trans a b c h.3 k.3)

-- a legal answer leaves tables where no two rows have the same key
pub keyed_after : (setting : Setting) (old new : Database) (it : Item) (answer : Reply) → IsKeyed old → LegalAnswer setting old it answer new → IsKeyed new
keyed_after setting old new it answer k legal = from legal
  where
    from : LegalAnswer setting old it answer new → IsKeyed new
    from (AsListsAnswer e) = subst IsKeyed (sym (ap (λ (p : Database × Reply). p.0) e)) (steps_alike setting.limits old old it k (same_tables old)).keyed
    from (WantsMemory e m) = subst IsKeyed (sym e) k
    from (StoreFailed e g m) = subst IsKeyed (sym e) k
    from (StoreLied e g l) = subst IsKeyed (sym e) k

-- an answer up to order, from a database that is known up to order
pub answered_from : (setting : Setting) (a b new : Database) (it : Item) (answer : Reply) → IsKeyed a → SameTables a b → AnsweredAlike setting b it answer new → AnsweredAlike setting a it answer new
answered_from setting a b new it answer k same h =
    let moved = answers_alike setting a b h.last it answer k same h.legal in
    record { last = moved.last; legal = moved.legal; same = tables_trans moved.last h.last new moved.same h.same }

pub same_sym : (a b : Database) → SameTables a b → SameTables b a
same_sym [] [] h = tt
same_sym [] (y ∷ b) h = absurd h
same_sym (x ∷ a) [] h = absurd h
same_sym (x ∷ a) (y ∷ b) h = (sym h.0, sym h.1, IsPermutation-sym _ _ h.2, same_sym a b h.3)

-- the result of a command is a legal answer to it
pub answered_done : (setting : Setting) (old : Database) (c : Command) (answer : Reply) (new : Database) → CarriedOut (outcome setting.limits old c) answer old new → AnsweredAlike setting old (item.Command c) answer new
answered_done setting old c answer new h =
    record { last = h.last; legal = AsListsAnswer (ap (settle old) (sym h.done)); same = h.same }

pub answered_memory : (setting : Setting) (old : Database) (it : Item) (new : Database) → SameTables old new → AnsweredAlike setting old it (refused Memory) new
answered_memory setting old it new same = record { last = old; legal = WantsMemory refl refl; same = same }

pub answered_refused : (setting : Setting) (old : Database) (c : Command) (why : Refused) (new : Database) → Comes (outcome setting.limits old c) (Err why) old new → AnsweredAlike setting old (item.Command c) (of_refused why) new
answered_refused setting old c why new h = from h.1
  where
    from : (why ≡ unnumbered Memory) ⊎ (outcome setting.limits old c ≡ Err why) → AnsweredAlike setting old (item.Command c) (of_refused why) new
    from (inl e) = subst (λ (w : Refused). AnsweredAlike setting old (item.Command c) (of_refused w) new) (sym e) (answered_memory setting old (item.Command c) new h.0)
    from (inr e) = record { last = old; legal = AsListsAnswer (ap (settle old) (sym e)); same = h.0 }

-- the result of a command that takes no memory
pub answered_surely : (limits : Bounds) (old : Database) (c : Command) (answer : Reply) (new : Database) → ComesSurely (outcome limits old c) (Ok answer) old new → AnsweredAsLists limits old (item.Command c) answer new
answered_surely limits old c answer new h = record {
  reply = sym (ap (λ (p : Outcome). (settle old p).1) h.done);
  same = subst (λ (p : Outcome). SameTables (settle old p).0 new) (sym h.done) h.same;
}

pub refused_surely : (limits : Bounds) (old : Database) (c : Command) (why : Refused) (new : Database) → ComesSurely (outcome limits old c) (Err why) old new → AnsweredAsLists limits old (item.Command c) (of_refused why) new
refused_surely limits old c why new h = record {
  reply = sym (ap (λ (p : Outcome). (settle old p).1) h.1);
  same = subst (λ (p : Outcome). SameTables (settle old p).0 new) (sym h.1) h.0;
}

pub comes_surely : (steps : Outcome) (r : Result Reply Refused) (old new : Database) → ComesSurely steps r old new → Comes steps r old new
comes_surely steps (Ok answer) old new h = h
comes_surely steps (Err why) old new h = (h.0, inr h.1)

-- a load whose payload found no memory is answered so, and leaves the tables
pub answer_lost : (setting : Setting) (old new : Database) (name : List ℕ) (answer : Reply) → LegalAnswer setting old (item.Command (Load name payload.NoMemory)) answer new → (new ≡ old) × (answer ≡ refused Memory)
answer_lost setting old new name answer (AsListsAnswer said) = (ap (λ (p : Database × Reply). p.0) said, ap (λ (p : Database × Reply). p.1) said)
answer_lost setting old new name answer (WantsMemory kept memory) = (kept, memory)
answer_lost setting old new name answer (StoreFailed kept grouping fault) = absurd (true≢false (sym grouping.0))
answer_lost setting old new name answer (StoreLied kept grouping lied) = absurd (true≢false (sym grouping.0))

pub answered_exactly : (setting : Setting) (old : Database) (it : Item) (answer : Reply) (new : Database) → LegalAnswer setting old it answer new → AnsweredAlike setting old it answer new
answered_exactly setting old it answer new h = record { last = new; legal = h; same = same_tables new }

-- another table at a place
pub keyed_set : (db : Database) (i : ℕ) (name : List ℕ) (s : PlainTable) → IsKeyed db → IsTrue (keys_differ s.schema.key s.rows) → IsKeyed (set db i (name, s))
keyed_set [] i name s k h = tt
keyed_set (x ∷ db) zero name s k h = (h, k.1)
keyed_set (x ∷ db) (suc i) name s k h = (k.0, keyed_set db i name s k.1 h)
