-- A load does what the upserts of its rows do.
use Rattle.std.proofs.Common.{◌≡◌, ◌≤◌, ℕ, Bool, true, false, cond, not, List, [], ◌∷◌, length, map, refl, sym, ap, ◌∙◌, arith, Option, Some, None, bytes_eq}
use Rattle.std.specs.Prelude.{nat_le, Result, Ok, Err}
use Rattle.std.specs.List.{list_all}
use Rattle.std.proofs.lemmas.Bool.{and_parts, le-leb, leb-true}
use Rattle.std.proofs.lemmas.List.{length-append}
use Rattle.gq_row.specs.declared.value.Value.{Value}
use Rattle.gq_row.specs.declared.limits.Bounds.{Bounds}
use Rattle.gq_row.specs.Fitting.{fits_columns, has_null}
use Rattle.gq_row.specs.Order.{same_key}
use Rattle.gq_row.specs.Rows.{key_of}
use Rattle.gq_row.specs.Tables.{PlainTable, put, put_by_key, put_all}
use Rattle.gq_load.specs.declared.load_refusal.LoadRefusal.{LoadRefusal}
use Rattle.gq_load.specs.Fitting.{AreFit}
use Rattle.gq_load.specs.declared.short_records.Short.TheVariants as short
use Rattle.gq_load.specs.Payloads.{load}
use Rattle.gq_load.proofs.Fits.{loaded_fit}
use Rattle.gq_command.specs.Commands.{Bytes}
use Rattle.gq_command.specs.declared.command.Command.TheVariants.{Load, Upsert}
use Rattle.gq_command.specs.declared.command.Payload.TheVariants as payload
use Rattle.gq_command.specs.declared.reader.Item.TheVariants as item
use Rattle.gq_reply.specs.declared.refusal.Refusal.TheVariants.{NoTable, TypeMismatch, NullKey, Limit}
use Rattle.gq_reply.specs.declared.refusal.Refused.{Refused}
use Rattle.gq_reply.specs.declared.reply.Reply.{Reply}
use Rattle.gq_reply.specs.declared.reply.Reply.TheVariants as reply
use Rattle.gq_reply.specs.Outcomes.{◌>>=◌}
use Rattle.gq_reply.specs.Refusals.{unnumbered}
use Rattle.gq_reply.proofs.StepLemmas.{gives, passes, fails, finds}
use Rattle.gq_engine.specs.Databases.{Database, table_at, with_table}
use Rattle.gq_engine.specs.Loading.{fault_refusal, refused_by}
use Rattle.gq_engine.specs.Orders.{after_all, replies_to}
use Rattle.gq_engine.specs.Refusing.{has_null_key, rows_with, put_within}
use Rattle.gq_engine.specs.Steps.{Outcome, settle, step, load_table, with_row}
use Rattle.gq_engine.specs.Upserting.{literal_of, upserts, UpsertsOf, LoadIsUpserts}
use Rattle.gq_engine.proofs.CaseLemmas.{literals_stored}
use Rattle.gq_engine.proofs.FormLemmas.{load_none, load_faulty, load_refused, load_puts, rows_refused, rows_put}
use Rattle.gq_engine.proofs.MapLemmas.{itself, changed}

abbrev Rows : Type 0
Rows = List (List Value)

-- ---- a put adds at most, and takes none away

grows_by_key : (key : List ℕ) (rows : Rows) (row : List Value) → length rows ≤ length (put_by_key key rows row)
grows_by_key key [] row = omega arith
grows_by_key key (old ∷ rows) row = step_by (same_key (key_of key old) (key_of key row)) (grows_by_key key rows row)
  where
    step_by : (b : Bool) → length rows ≤ length (put_by_key key rows row) → length (old ∷ rows) ≤ length (cond b (row ∷ rows) (old ∷ put_by_key key rows row))
    step_by true h = omega arith
    step_by false h = omega arith

grows : (key : List ℕ) (rows : Rows) (row : List Value) → length rows ≤ length (put key rows row)
grows [] rows row = omega (arith, length-append rows (row ∷ []))
grows (column ∷ columns) rows row = grows_by_key (column ∷ columns) rows row

grows_all : (key : List ℕ) (rows new : Rows) → length rows ≤ length (put_all key rows new)
grows_all key rows [] = omega arith
grows_all key rows (row ∷ new) =
    let first = grows key rows row in
    let rest = grows_all key (put key rows row) new in
    omega arith

-- ---- another table at a name, twice, and the same one

with_same : (db : Database) (name : List ℕ) (table : PlainTable) → table_at db name ≡ Some table → with_table db name table ≡ db
with_same [] name table found = let none : ⊥ = cc in absurd none
with_same (entry ∷ db) name table found = here (bytes_eq entry.0 name) found (with_same db name table)
  where
    here : (b : Bool) → cond b (Some entry.1) (table_at db name) ≡ Some table → (table_at db name ≡ Some table → with_table db name table ≡ db)
        → cond b ((entry.0, table) ∷ db) (entry ∷ with_table db name table) ≡ entry ∷ db
    here true e rest = let same : entry.1 ≡ table = cc in ap (λ (t : PlainTable). (entry.0, t) ∷ db) (sym same)
    here false e rest = ap (λ l. entry ∷ l) (rest e)

with_twice : (db : Database) (name : List ℕ) (s t : PlainTable) → with_table (with_table db name s) name t ≡ with_table db name t
with_twice [] name s t =
    let first : List ℕ × PlainTable = (name, t) in
    let old : List ℕ × PlainTable = (name, s) in
    ap (λ b. cond {A = Database} b (first ∷ []) (old ∷ first ∷ [])) (itself name)
with_twice (entry ∷ db) name s t = here (bytes_eq entry.0 name) refl (with_twice db name s t)
  where
    here : (b : Bool) → bytes_eq entry.0 name ≡ b → with_table (with_table db name s) name t ≡ with_table db name t
        → with_table (cond b ((entry.0, s) ∷ db) (entry ∷ with_table db name s)) name t ≡ cond b ((entry.0, t) ∷ db) (entry ∷ with_table db name t)
    here true e rest =
        let first : List ℕ × PlainTable = (entry.0, t) in
        let old : List ℕ × PlainTable = (entry.0, s) in
        ap (λ b. cond {A = Database} b (first ∷ db) (old ∷ with_table db name t)) e
    here false e rest =
        let first : List ℕ × PlainTable = (entry.0, t) in
        ap (λ b. cond {A = Database} b (first ∷ with_table db name s) (entry ∷ with_table (with_table db name s) name t)) e ∙ ap (λ (l : Database). entry ∷ l) rest

-- ---- upserts one after the other

-- a row that a table takes is put by its literals
upserted : (limits : Bounds) (db : Database) (name : Bytes) (table : PlainTable) (row : List Value) → table_at db name ≡ Some table → fits_columns table.schema.columns row ≡ true → not (has_null table.schema.key row) ≡ true
    → length (rows_with table row) ≤ limits.rows → step limits db (item.Command (Upsert name (map literal_of row))) ≡ (with_table db name (record table { rows = rows_with table row }), reply.Done 1)
upserted limits db name table row found fits keyed few = ap (settle db) (gives (with_row limits db name (map literal_of row)) (with_table db name (record table { rows = rows_with table row })) _ put_it)
  where
    put_it : with_row limits db name (map literal_of row) ≡ Ok (with_table db name (record table { rows = rows_with table row }))
    put_it = finds NoTable (table_at db name) table _ found
        ∙ ap (λ (r : List Value). put_within limits table r >>= λ rows. Ok (with_table db name (record table { rows = rows }))) (literals_stored table.schema.columns row fits)
        ∙ gives (put_within limits table row) (rows_with table row) _
        (passes TypeMismatch (fits_columns table.schema.columns row) _ fits ∙ passes NullKey (not (has_null_key table row)) _ keyed ∙ passes Limit (nat_le (length (rows_with table row)) limits.rows) _ (le-leb (length (rows_with table row)) limits.rows few))

-- what upserts of rows that fit come to
pub record Upserted (limits : Bounds) (db : Database) (name : Bytes) (table : PlainTable) (rows : Rows) : Type 0 where
  pub same : after_all limits db (upserts name rows) ≡ with_table db name (record table { rows = put_all table.schema.key table.rows rows })
  pub accepted : replies_to limits db (upserts name rows) ≡ map (λ row. reply.Done 1) rows

all_upserted : (limits : Bounds) (db : Database) (name : Bytes) (table : PlainTable) (rows : Rows) → table_at db name ≡ Some table → list_all (fits_columns table.schema.columns) rows ≡ true
    → list_all (λ row. not (has_null table.schema.key row)) rows ≡ true → length (put_all table.schema.key table.rows rows) ≤ limits.rows → Upserted limits db name table rows
all_upserted limits db name table [] found fits keyed few = record { same = sym (with_same db name table found); accepted = refl }
all_upserted limits db name table (row ∷ rows) found fits keyed few =
    let after : PlainTable = record table { rows = rows_with table row } in
    let between : Database = with_table db name after in
    let fit = and_parts (fits_columns table.schema.columns row) (list_all (fits_columns table.schema.columns) rows) fits in
    let key = and_parts (not (has_null table.schema.key row)) (list_all (λ row. not (has_null table.schema.key row)) rows) keyed in
    let less = grows_all table.schema.key (rows_with table row) rows in
    let first : step limits db (item.Command (Upsert name (map literal_of row))) ≡ (between, reply.Done 1) = upserted limits db name table row found fit.0 key.0 (omega arith) in
    let rest = all_upserted limits between name after rows (changed db name after) fit.1 key.1 few in
    record {
      same = ap (λ (p : Database × Reply). after_all limits p.0 (upserts name rows)) first ∙ rest.same
          ∙ with_twice db name after (record table { rows = put_all table.schema.key table.rows (row ∷ rows) });
      accepted = ap (λ (p : Database × Reply). p.1 ∷ replies_to limits p.0 (upserts name rows)) first ∙ ap (λ l. reply.Done 1 ∷ l) rest.accepted;
    }

-- ---- a load that was carried out

refused_not_done : (db new : Database) (why : Refused) (count : ℕ) (steps : Outcome) → steps ≡ Err why → settle db steps ≡ (new, reply.Done count) → ⊥
refused_not_done db new why count steps e h = let told : (settle db (Err why)).1 ≡ reply.Done count = ap (λ (o : Outcome). (settle db o).1) (sym e) ∙ ap (λ (p : Database × Reply). p.1) h in let none : ⊥ = cc in none

module _ (limits : Bounds) (db new : Database) (name bytes : Bytes) (count : ℕ) (done : step limits db (item.Command (Load name (payload.Bytes bytes))) ≡ (new, reply.Done count)) where
  refuted : (why : Refused) → load_table short.Refused limits db name (payload.Bytes bytes) ≡ Err why → ⊥
  refuted why e = refused_not_done db new why count (load_table short.Refused limits db name (payload.Bytes bytes)) e done

  by_rows : (table : PlainTable) (rows : Rows) → table_at db name ≡ Some table → load short.Refused table.schema limits bytes ≡ Ok rows → (few : Bool) → nat_le (length (put_all table.schema.key table.rows rows)) limits.rows ≡ few
      → UpsertsOf limits db name bytes count new
  by_rows table rows found given false e =
      absurd (refuted (unnumbered Limit) (load_refused short.Refused limits db name table found bytes rows (unnumbered Limit) (ap refused_by given)
      (rows_refused limits db name rows table (unnumbered Limit) found (fails Limit (nat_le (length (put_all table.schema.key table.rows rows)) limits.rows) _ e))))
  by_rows table rows found given true e =
      let fit : AreFit table.schema limits rows = loaded_fit short.Refused table.schema limits bytes rows given in
      let all = all_upserted limits db name table rows found fit.fitting fit.keyed (leb-true _ _ e) in
      let puts : load_table short.Refused limits db name (payload.Bytes bytes) ≡ Ok (with_table db name (record table { rows = put_all table.schema.key table.rows rows }), reply.Done (length rows)) =
      load_puts short.Refused limits db name table found bytes rows _ (ap refused_by given)
      (rows_put limits db name rows (put_all table.schema.key table.rows rows) table found (passes Limit (nat_le (length (put_all table.schema.key table.rows rows)) limits.rows) _ e)) in
      let same = sym (ap (settle db) puts) ∙ done in
      record {
        table = table;
        found = found;
        rows = rows;
        given = given;
        counted = (let told : reply.Done (length rows) ≡ reply.Done count = ap (λ (p : Database × Reply). p.1) same in let it : length rows ≡ count = cc in it);
        same = all.same ∙ ap (λ (p : Database × Reply). p.0) same;
        accepted = all.accepted;
      }

  by_payload : (table : PlainTable) (r : Result Rows LoadRefusal) → table_at db name ≡ Some table → load short.Refused table.schema limits bytes ≡ r → UpsertsOf limits db name bytes count new
  by_payload table (Ok rows) found given = by_rows table rows found given (nat_le (length (put_all table.schema.key table.rows rows)) limits.rows) refl
  by_payload table (Err fault) found given = absurd (refuted (fault_refusal fault) (load_faulty short.Refused limits db name table found bytes (fault_refusal fault) (ap refused_by given)))

  by_table : (o : Option PlainTable) → table_at db name ≡ o → UpsertsOf limits db name bytes count new
  by_table None found = absurd (refuted (unnumbered NoTable) (load_none short.Refused limits db name (payload.Bytes bytes) refl found))
  by_table (Some table) found = by_payload table (load short.Refused table.schema limits bytes) found refl

pub load_is_upserts : LoadIsUpserts
load_is_upserts limits db new name bytes count done = by_table limits db new name bytes count done (table_at db name) refl
