-- A table that took a row, or left it, in its database.
use Rattle.std.proofs.Common.{◌≡◌, ◌⊎◌, inl, inr, ℕ, zero, suc, Bool, true, false, cond, not, IsTrue, List, [], ◌∷◌, length, get_or, set, refl, sym, ap, subst, ◌∙◌, Option, Some, None, IsPermutation}
use Rattle.std.specs.Prelude.{nat_lt, nat_le, Result, Ok, Err, remove}
use Rattle.std.specs.List.{list_any}
use Rattle.std.proofs.lemmas.Bool.{ltb-true, ltb-false, lt-leb, le-leb}
use Rattle.std.proofs.lemmas.List.{get_or_default, set-get_or}
use Rattle.std.proofs.lemmas.List.Sorted.{IsPermutation-refl}
use Rattle.gq_row.specs.declared.value.Value.{Value}
use Rattle.gq_row.specs.declared.limits.Bounds.{Bounds}
use Rattle.gq_row.specs.Fitting.{fits_columns, has_null, is_null}
use Rattle.gq_row.specs.Tables.{PlainTable, put_all, delete, has_row}
use Rattle.gq_command.specs.Commands.{some}
use Rattle.gq_reply.specs.declared.refusal.Refusal.TheVariants.{TypeMismatch, NoKey, NullKey, Limit, Memory, NoTable}
use Rattle.gq_reply.specs.declared.refusal.Refused.{Refused}
use Rattle.gq_reply.specs.declared.reply.Reply.TheVariants as reply
use Rattle.gq_reply.specs.Refusals.{unnumbered}
use Rattle.gq_table.specs.declared.refusal.TableRefusal.{TableRefusal}
use Rattle.gq_table.specs.declared.refusal.TableRefusal.TheVariants as untaken
use Rattle.gq_table.specs.Changes.{IsPut, IsLoaded}
use Rattle.gq_table.specs.Refusing.{row_refusal, load_refusal, WhyNotPut, WhyNotLoaded}
use Rattle.gq_reply.proofs.StepLemmas.{finds}
use Rattle.gq_engine.specs.Databases.{Database, IsKeyed, names_differ, table_at, with_table, without_table, IsTableAt}
use Rattle.gq_reply.specs.Outcomes.{◌>>=◌, true_or}
use Rattle.gq_engine.specs.Refusing.{rows_with, put_within, put_all_within, fits_key, stored_key, key_within, table_refusal}
use Rattle.gq_engine.specs.Runs.{SameTables}
use Rattle.gq_engine.specs.Serving.{Changes, Settles, Takes, HasRows, Deletes, deleted}
use Rattle.gq_engine.specs.Steps.{Outcome, table_in, key_named, delete_row, drop_table}
use Rattle.gq_engine.proofs.FormLemmas.{dropped_at, drop_takes}
use Rattle.gq_engine.proofs.MapLemmas.{differ_without}
use Rattle.gq_engine.proofs.OrderLemmas.{same_tables, without_keyed}

abbrev Rows : Type 0
Rows = List (List Value)

-- a number is at most another exactly where that isn't less
few-many : (n most : ℕ) → nat_le n most ≡ not (nat_lt most n)
few-many n most = chosen (nat_lt most n) refl
  where
    chosen : (b : Bool) → nat_lt most n ≡ b → nat_le n most ≡ not b
    chosen true e = lt-leb n most (ltb-true most n e)
    chosen false e = le-leb n most (ltb-false most n e)

-- a table refuses what its steps refuse, and takes what they give
abbrev Agrees : Result Rows Refused → Rows → Option TableRefusal → Type 0
Agrees steps rows None = steps ≡ Ok rows
Agrees steps rows (Some why) = steps ≡ Err (unnumbered (table_refusal why))

agrees : (fits null many few : Bool) (rows : Rows) → few ≡ not many
    → Agrees (true_or TypeMismatch fits >>= λ _. true_or NullKey (not null) >>= λ _. true_or Limit few >>= λ _. Ok rows) rows
    (cond (not fits) (Some untaken.TypeMismatch) (cond null (Some untaken.NullKey) (cond many (Some untaken.Limit) None)))
agrees false null many few rows e = refl
agrees true true many few rows e = refl
agrees true false true few rows e = ap (λ b. true_or Limit b >>= λ _. Ok rows) e
agrees true false false few rows e = ap (λ b. true_or Limit b >>= λ _. Ok rows) e

row-agrees : (bounds : Bounds) (table : PlainTable) (row : List Value) → Agrees (put_within bounds table row) (rows_with table row) (row_refusal bounds table row)
row-agrees bounds table row =
    agrees (fits_columns table.schema.columns row) (has_null table.schema.key row) (nat_lt bounds.rows (length (rows_with table row))) (nat_le (length (rows_with table row)) bounds.rows) (rows_with table row)
    (few-many (length (rows_with table row)) bounds.rows)

pub put-taken : (bounds : Bounds) (old new : PlainTable) (row : List Value) → IsPut old row new → row_refusal bounds old row ≡ None → HasRows (put_within bounds old row) old new
put-taken bounds old new row h none = record {
  given = rows_with old row;
  done = subst (Agrees (put_within bounds old row) (rows_with old row)) none (row-agrees bounds old row);
  schema = h.schema;
  same = h.rows;
}

pub put-refused : (bounds : Bounds) (old : PlainTable) (row : List Value) (why : TableRefusal) → WhyNotPut bounds old row why
    → (unnumbered (table_refusal why) ≡ unnumbered Memory) ⊎ (put_within bounds old row ≡ Err (unnumbered (table_refusal why)))
put-refused bounds old row why (inl e) = inr (subst (Agrees (put_within bounds old row) (rows_with old row)) e (row-agrees bounds old row))
put-refused bounds old row why (inr e) = inl (ap (λ w. unnumbered (table_refusal w)) e.0)

-- tables at a place that differ only in the order of rows
same_at : (db : Database) (i : ℕ) (name : List ℕ) (s t : PlainTable) → s.schema ≡ t.schema → IsPermutation s.rows t.rows → SameTables (set db i (name, s)) (set db i (name, t))
same_at [] i name s t h moved = tt
same_at (x ∷ db) zero name s t h moved = (refl, h, moved, same_tables db)
same_at (x ∷ db) (suc i) name s t h moved = (refl, refl, IsPermutation-refl x.1.rows, same_at db i name s t h moved)

-- the table of a name has the rows that its steps give, or was left
pub took : {X : Type 0} (steps : PlainTable → Result Rows Refused) (db : Database) (name : List ℕ) (i : ℕ) (at : List ℕ × PlainTable) (result : Result X Refused) (new : PlainTable)
    → IsTableAt db name i → at ≡ get_or db i at → Takes (steps at.1) result at.1 new
    → Changes (table_in db name >>= λ table. steps table >>= λ rows. Ok (with_table db name (record table { rows = rows }))) result db (set db i (at.0, new))
took steps db name i at (Ok x) new s is h =
    let same : at ≡ s.entry = is ∙ get_or_default db i at s.entry s.within ∙ sym s.here in
    let found : table_at db name ≡ Some at.1 = s.table ∙ ap (λ (e : List ℕ × PlainTable). Some e.1) (sym same) in
    let table : PlainTable = record at.1 { rows = h.given } in (
      with_table db name table,
      finds NoTable (table_at db name) at.1 _ found ∙ ap (λ r. r >>= λ rows. Ok (with_table db name (record at.1 { rows = rows }))) h.done,
      subst (λ (d : Database). SameTables d (set db i (at.0, new))) (sym (s.changed table ∙ ap (λ (e : List ℕ × PlainTable). set db i (e.0, table)) (sym same)))
          (same_at db i at.0 table new (sym h.schema) h.same),
    )
took steps db name i at (Err why) new s is h =
    let kept : set db i (at.0, new) ≡ db = ap (λ (t : PlainTable). set db i (at.0, t)) h.0 ∙ (ap (set db i) is ∙ set-get_or db i at) in
    (subst (SameTables db) (sym kept) (same_tables db), left h.1)
  where
    left : (why ≡ unnumbered Memory) ⊎ (steps at.1 ≡ Err why) → (why ≡ unnumbered Memory) ⊎ ((table_in db name >>= λ table. steps table >>= λ rows. Ok (with_table db name (record table { rows = rows }))) ≡ Err why)
    left (inl e) = inl e
    left (inr e) =
        let same : at ≡ s.entry = is ∙ get_or_default db i at s.entry s.within ∙ sym s.here in
        let found : table_at db name ≡ Some at.1 = s.table ∙ ap (λ (e : List ℕ × PlainTable). Some e.1) (sym same) in
        inr (finds NoTable (table_at db name) at.1 _ found ∙ ap (λ r. r >>= λ rows. Ok (with_table db name (record at.1 { rows = rows }))) e)

-- rows that a table took, or left
load-agrees : (bounds : Bounds) (table : PlainTable) (rows : Rows) → Agrees (put_all_within bounds table rows) (put_all table.schema.key table.rows rows) (load_refusal bounds table rows)
load-agrees bounds table rows = chosen (nat_lt bounds.rows (length all)) (nat_le (length all) bounds.rows) (few-many (length all) bounds.rows)
  where
    all : Rows
    all = put_all table.schema.key table.rows rows

    chosen : (many few : Bool) → few ≡ not many → Agrees (true_or Limit few >>= λ _. Ok all) all (cond many (Some untaken.Limit) None)
    chosen true few e = ap (λ b. true_or Limit b >>= λ _. Ok all) e
    chosen false few e = ap (λ b. true_or Limit b >>= λ _. Ok all) e

pub load-taken : (bounds : Bounds) (old new : PlainTable) (rows : Rows) → IsLoaded old rows new → load_refusal bounds old rows ≡ None → HasRows (put_all_within bounds old rows) old new
load-taken bounds old new rows h none = record {
  given = put_all old.schema.key old.rows rows;
  done = subst (Agrees (put_all_within bounds old rows) (put_all old.schema.key old.rows rows)) none (load-agrees bounds old rows);
  schema = h.schema;
  same = h.rows;
}

pub load-refused : (bounds : Bounds) (old : PlainTable) (rows : Rows) (why : TableRefusal) → WhyNotLoaded bounds old rows why
    → (unnumbered (table_refusal why) ≡ unnumbered Memory) ⊎ (put_all_within bounds old rows ≡ Err (unnumbered (table_refusal why)))
load-refused bounds old rows why (inl e) = inr (subst (Agrees (put_all_within bounds old rows) (put_all old.schema.key old.rows rows)) e (load-agrees bounds old rows))
load-refused bounds old rows why (inr e) = inl (ap (λ w. unnumbered (table_refusal w)) e)

-- the steps of a delete are those that test the key, and then the delete
tested : {X : Type 0} (a b c : Bool) (done : Result X Refused)
    → (true_or NoKey a >>= λ _. true_or TypeMismatch b >>= λ _. true_or NullKey c >>= λ _. done) ≡ ((true_or NoKey a >>= λ _. true_or TypeMismatch b >>= λ _. true_or NullKey c) >>= λ _. done)
tested false b c done = refl
tested true false c done = refl
tested true true false done = refl
tested true true true done = refl

-- the table that a delete leaves, and the answer
abbrev delete_from : Database → List ℕ → List Value → PlainTable → Outcome
delete_from db name key table =
    Ok (with_table db name (record table { rows = delete table.schema.key table.rows key }), reply.Done (cond (has_row table.schema.key table.rows key) 1 0))

delete-tests : (db : Database) (name : List ℕ) (values : List Value) (table : PlainTable) → table_at db name ≡ Some table
    → delete_row db name values ≡ (key_within table.schema (stored_key table.schema.columns table.schema.key values) >>= λ _. delete_from db name (key_named table.schema values) table)
delete-tests db name values table found =
    let stored = stored_key table.schema.columns table.schema.key values in
    finds NoTable (table_at db name) table _ found
    ∙ tested (some table.schema.key) (fits_key table.schema.columns table.schema.key stored) (not (list_any is_null stored)) (delete_from db name (key_named table.schema values) table)

-- the table of a name without the row of the key that values name, or as it was
pub took_out : (db : Database) (name : List ℕ) (i : ℕ) (at : List ℕ × PlainTable) (values : List Value) (result : Result Bool Refused) (new : PlainTable)
    → IsTableAt db name i → at ≡ get_or db i at → Deletes values result at.1 new → Settles deleted (delete_row db name values) result db (set db i (at.0, new))
took_out db name i at values (Ok found) new s is h =
    let same : at ≡ s.entry = is ∙ get_or_default db i at s.entry s.within ∙ sym s.here in
    let there : table_at db name ≡ Some at.1 = s.table ∙ ap (λ (e : List ℕ × PlainTable). Some e.1) (sym same) in
    let key = key_named at.1.schema values in
    let table : PlainTable = record at.1 { rows = delete at.1.schema.key at.1.rows key } in (
      with_table db name table,
      delete-tests db name values at.1 there ∙ ap (λ r. r >>= λ _. delete_from db name key at.1) h.0 ∙ ap (λ b. Ok (with_table db name table, deleted b)) (sym h.2),
      subst (λ (d : Database). SameTables d (set db i (at.0, new))) (sym (s.changed table ∙ ap (λ (e : List ℕ × PlainTable). set db i (e.0, table)) (sym same)))
          (same_at db i at.0 table new (sym h.1.schema) h.1.rows),
    )
took_out db name i at values (Err why) new s is h =
    let same : at ≡ s.entry = is ∙ get_or_default db i at s.entry s.within ∙ sym s.here in
    let there : table_at db name ≡ Some at.1 = s.table ∙ ap (λ (e : List ℕ × PlainTable). Some e.1) (sym same) in
    let kept : set db i (at.0, new) ≡ db = ap (λ (t : PlainTable). set db i (at.0, t)) h.0 ∙ (ap (set db i) is ∙ set-get_or db i at) in
    (subst (SameTables db) (sym kept) (same_tables db), delete-tests db name values at.1 there ∙ ap (λ r. r >>= λ _. delete_from db name (key_named at.1.schema values) at.1) h.1)

-- without the table at a place the names still differ, and so do keys
pub removed_at : (db : Database) (name : List ℕ) (i : ℕ) (new : Database) → IsTableAt db name i → IsTrue (names_differ db) × IsKeyed db → new ≡ remove db i → IsTrue (names_differ new) × IsKeyed new
removed_at db name i new s h e =
    let P : Database → Type 0 = λ d. IsTrue (names_differ d) × IsKeyed d in
    subst P (sym (e ∙ sym (dropped_at db name i s h.0))) (differ_without db name h.0, without_keyed db name h.1)

-- and the table is dropped
pub removed : (db : Database) (name : List ℕ) (i : ℕ) (new : Database) → IsTableAt db name i → IsTrue (names_differ db) × IsKeyed db → new ≡ remove db i → Settles {X = Unit {0}} (λ _. reply.Done 0) (drop_table db name) (Ok tt) db new
removed db name i new s h e = (
  without_table db name,
  drop_takes db name s.entry.1 s.table,
  subst (SameTables (without_table db name)) (dropped_at db name i s h.0 ∙ sym e) (same_tables (without_table db name)),
)
