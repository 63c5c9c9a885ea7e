-- What a call leaves of a table whose rows are keyed or in a list, and why it refuses.
use Rattle.std.proofs.Common.{◌≡◌, map, fold, ℕ, ◌+◌, ◌<◌, ◌≤◌, ◌⊎◌, inl, inr, Bool, true, false, cond, not, IsTrue, List, [], ◌∷◌, ◌++◌, length, Option, Some, None, Result, Ok, Err, refl, sym, ap, subst, ◌∙◌, arith, IsPermutation, length-append, append-nil, append_assoc}
use Rattle.std.specs.Prelude.{nat_lt, OnOk, OnErr, IfErr}
use Rattle.std.specs.List.{list_all}
use Rattle.std.proofs.lemmas.Bool.Decides.{nat_tests}
use Rattle.std.proofs.lemmas.List.Sorted.{IsPermutation-refl}
use Rattle.gq_row.specs.declared.value.Value.{Value}
use Rattle.gq_row.specs.declared.limits.Bounds.{Bounds}
use Rattle.gq_row.specs.Fitting.{fits_columns, has_null}
use Rattle.gq_row.specs.Schemas.{PlainSchema, is_schema}
use Rattle.gq_row.specs.Limits.{within_greatest}
use Rattle.gq_row.specs.Rows.{key_of}
use Rattle.gq_row.specs.Tables.{PlainTable, put, put_by_key, put_all, delete, has_row, keys_differ}
use Rattle.gq_table.specs.declared.refusal.TableRefusal.{TableRefusal}
use Rattle.gq_table.specs.declared.refusal.TableRefusal.TheVariants.{TypeMismatch, NullKey, Limit, Memory}
use Rattle.gq_table.specs.declared.rows.Storage.{Storage}
use Rattle.gq_table.specs.declared.rows.Storage.TheVariants.{Keyed, Columnar}
use Rattle.gq_table.specs.Changes.{IsPut, IsLoaded}
use Rattle.gq_table.specs.declared.keyed.KeyedRows.{KeyedRows}
use Rattle.gq_table.specs.Keyed.{OwnKeys, AreApart}
use Rattle.gq_table.specs.Refusing.{limit_refusal, row_refusal, load_refusal, rows_with, replaces, WhyNotPut, WhyNotKeyed, WhyNotLoaded}
use Rattle.gq_table.specs.ValidTables.{IsValidTable}
use Rattle.gq_table.specs.Stored.{ArePlaced, IsStored, rows_of}
use Rattle.gq_table.proofs.ValidTableLemmas.{table, length-put, rows_limit, valid_put, valid_loaded, valid_deleted}

-- ---- rows under keys where the key has columns, a list where it has none

module _ {H : Type 0} where
  pub keyed_some : (key : List ℕ) (m : KeyedRows H) → ArePlaced key (Keyed m) → 0 < length key
  keyed_some [] m h = absurd h
  keyed_some (column ∷ columns) m h = omega arith

  pub keyed_own : (key : List ℕ) (m : KeyedRows H) → ArePlaced key (Keyed m) → OwnKeys key m
  keyed_own [] m h = absurd h
  keyed_own (column ∷ columns) m h = h

  placed_again : (key : List ℕ) (m : KeyedRows H) → 0 < length key → OwnKeys key m → ArePlaced key (Keyed m)
  placed_again [] m some own = absurd (omega arith)
  placed_again (column ∷ columns) m some own = own

  abbrev pub IsColumnar : Storage H → Type 0
  IsColumnar (Keyed m) = ⊥
  IsColumnar (Columnar v) = Unit {0}

  pub columnar_key : (key : List ℕ) (r : Storage H) → IsColumnar r → ArePlaced key r → key ≡ []
  columnar_key [] r e h = refl
  columnar_key (column ∷ columns) (Keyed n) e h = absurd e
  columnar_key (column ∷ columns) (Columnar w) e h = absurd h

  columnar_placed : (r : Storage H) → IsColumnar r → ArePlaced [] r
  columnar_placed (Keyed m) e = absurd e
  columnar_placed (Columnar v) e = tt

-- ---- refusals

nat_lt_true : (a b : ℕ) → a < b → nat_lt a b ≡ true
nat_lt_true a b h = grind (arith, nat_tests)

nat_lt_false : (a b : ℕ) → b ≤ a → nat_lt a b ≡ false
nat_lt_false a b h = grind (arith, nat_tests)

over : (most : ℕ) (rows : List (List Value)) → most < length rows → limit_refusal most rows ≡ Some Limit
over most rows h = ap (λ b. cond b (Some Limit) None) (nat_lt_true most (length rows) h)

within : (most : ℕ) (rows : List (List Value)) → length rows ≤ most → limit_refusal most rows ≡ None
within most rows h = ap (λ b. cond b (Some Limit) None) (nat_lt_false most (length rows) h)

past_fit : (f n : Bool) (o : Option TableRefusal) → f ≡ true → n ≡ false → cond (not f) (Some TypeMismatch) (cond n (Some NullKey) o) ≡ o
past_fit false n o h k = let none : ⊥ = cc in absurd none
past_fit true true o h k = let none : ⊥ = cc in absurd none
past_fit true false o h k = refl

pub misfit : (bounds : Bounds) (t : PlainTable) (row : List Value) → fits_columns t.schema.columns row ≡ false → row_refusal bounds t row ≡ Some TypeMismatch
misfit bounds t row h = ap (λ b. cond (not b) (Some TypeMismatch) (cond (has_null t.schema.key row) (Some NullKey) (limit_refusal bounds.rows (put t.schema.key t.rows row)))) h

pub null_key : (bounds : Bounds) (t : PlainTable) (row : List Value) → fits_columns t.schema.columns row ≡ true → has_null t.schema.key row ≡ true → row_refusal bounds t row ≡ Some NullKey
null_key bounds t row h k = λ i. cond (not (h i)) (Some TypeMismatch) (cond (k i) (Some NullKey) (limit_refusal bounds.rows (put t.schema.key t.rows row)))

replaces_none : (key : List ℕ) (rows : List (List Value)) (row : List Value) → has_row key rows (key_of key row) ≡ false → replaces key rows row ≡ false
replaces_none [] rows row h = refl
replaces_none (column ∷ columns) rows row h = h

put_keyed_rows : (key : List ℕ) (rows out : List (List Value)) (new : List Value) → 0 < length key → out ≡ put_by_key key rows new → IsPermutation (put key rows new) out
put_keyed_rows [] rows out new some is = absurd (omega arith)
put_keyed_rows (column ∷ columns) rows out new some is = subst (IsPermutation (put_by_key (column ∷ columns) rows new)) (sym is) (IsPermutation-refl (put_by_key (column ∷ columns) rows new))

put_all_keyed : (key : List ℕ) (rows new : List (List Value)) → 0 < length key → put_all key rows new ≡ fold (put_by_key key) rows new
put_all_keyed [] rows new some = absurd (omega arith)
put_all_keyed (column ∷ columns) rows [] some = refl
put_all_keyed (column ∷ columns) rows (row ∷ new) some = put_all_keyed (column ∷ columns) (put_by_key (column ∷ columns) rows row) new some

-- where there are key columns, that keys differ says of them all
pub apart_of : (key : List ℕ) (rows : List (List Value)) → 0 < length key → IsTrue (keys_differ key rows) → IsTrue (AreApart key rows)
apart_of [] rows some differ = absurd (omega arith)
apart_of (column ∷ columns) rows some differ = differ

-- ---- what the calls on rows under keys and on a list say

pub record PutKeyed {H : Type 0} (most : ℕ) (row : List Value) (m n : KeyedRows H) (result : Result (Unit {0}) TableRefusal) (key : List ℕ) : Type 0 where
  pub own : OwnKeys key n
  pub ok : OnOk result (n.rows ≡ put_by_key key m.rows row)
  pub few : OnOk result (rows_with key m.rows row ≤ most)
  pub err : OnErr result (n ≡ m)
  pub why : IfErr result (WhyNotKeyed most key m.rows row)

pub record PutColumnar (most : ℕ) (row : List Value) (old new : List (List Value)) (result : Result (Unit {0}) TableRefusal) : Type 0 where
  pub ok : OnOk result (new ≡ old ++ row ∷ [])
  pub few : OnOk result (length old < most)
  pub err : OnErr result (new ≡ old)
  pub why : IfErr result (λ w. ((w ≡ Limit) × (most ≤ length old)) ⊎ ((w ≡ Memory) × (length old < most)))

pub record LoadKeyed {H : Type 0} (most : ℕ) (loaded : List (List Value)) (m n : KeyedRows H) (result : Result (Unit {0}) TableRefusal) (key : List ℕ) : Type 0 where
  pub own : OwnKeys key n
  pub ok : OnOk result (n.rows ≡ fold (put_by_key key) m.rows loaded)
  pub few : OnOk result (length (fold (put_by_key key) m.rows loaded) ≤ most)
  pub err : OnErr result (n ≡ m)
  pub why : IfErr result (λ w. ((w ≡ Limit) × (most < length (fold (put_by_key key) m.rows loaded))) ⊎ (w ≡ Memory))

pub record LoadColumnar (most : ℕ) (loaded old new : List (List Value)) (result : Result (Unit {0}) TableRefusal) : Type 0 where
  pub ok : OnOk result (new ≡ old ++ loaded)
  pub few : OnOk result (length old + length loaded ≤ most)
  pub err : OnErr result (new ≡ old)
  pub why : IfErr result (λ w. ((w ≡ Limit) × (most < length old + length loaded)) ⊎ (w ≡ Memory))

-- ---- an upsert

-- what an upsert leaves where the rows are in the end these
pub record Upserted {H : Type 0} (bounds : Bounds) (old : PlainTable) (row : List Value) (result : Result (Unit {0}) TableRefusal) (new : Storage H) : Type 0 where
  pub stored : IsStored old.schema new
  pub ok : OnOk result (IsPut old row (table old.schema (rows_of new)))
  pub taken : OnOk result (row_refusal bounds old row ≡ None)
  pub refused : IfErr result (WhyNotPut bounds old row)
  pub unchanged : OnErr result (table old.schema (rows_of new) ≡ old)

module _ (bounds : Bounds) (h : PlainSchema) (row : List Value) (fits : fits_columns h.columns row ≡ true) (no_null : has_null h.key row ≡ false) where
  refusal : (rows : List (List Value)) → row_refusal bounds (table h rows) row ≡ limit_refusal bounds.rows (put h.key rows row)
  refusal rows = past_fit (fits_columns h.columns row) (has_null h.key row) (limit_refusal bounds.rows (put h.key rows row)) fits no_null

put_none : (key : List ℕ) (rows : List (List Value)) (row : List Value) → key ≡ [] → put key rows row ≡ rows ++ row ∷ []
put_none [] rows row e = refl
put_none (column ∷ columns) rows row e = let none : ⊥ = cc in absurd none

replaces_columnar : (key : List ℕ) (rows : List (List Value)) (row : List Value) → key ≡ [] → replaces key rows row ≡ false
replaces_columnar [] rows row e = refl
replaces_columnar (column ∷ columns) rows row e = let none : ⊥ = cc in absurd none

module _ {H : Type 0} (bounds : Bounds) (limits : IsTrue (within_greatest bounds)) (h : PlainSchema) (row : List Value) (fits : fits_columns h.columns row ≡ true) (no_null : has_null h.key row ≡ false) where
  upserted_in : (m n : KeyedRows H) (result : Result (Unit {0}) TableRefusal) → IsStored h (Keyed m) → PutKeyed bounds.rows row m n result h.key → Upserted bounds (table h m.rows) row result (Keyed n)
  upserted_in m n (Ok u) stored p =
      let some = keyed_some h.key m stored.placed in
      let long = length-put h.key m.rows row some in
      let few : length (put h.key m.rows row) ≤ bounds.rows = subst (λ l. l ≤ bounds.rows) (sym long) p.few in
      let most = rows_limit bounds limits in
      let out = put_keyed_rows h.key m.rows n.rows row some p.ok in
      record {
        stored = record {
          valid = valid_put h m.rows n.rows row stored.valid fits (omega arith) out;
          placed = placed_again h.key n some p.own;
        };
        ok = record { schema = refl; rows = out };
        taken = refusal bounds h row fits no_null m.rows ∙ within bounds.rows (put h.key m.rows row) few;
        refused = tt;
        unchanged = tt;
      }
  upserted_in m n (Err why) stored p = record {
    stored = subst (λ v. IsStored h (Keyed v)) (sym p.err) stored;
    ok = tt;
    taken = tt;
    refused = reason p.why;
    unchanged = ap (λ v. table h (v.rows)) p.err;
  }
    where
      long : length (put h.key m.rows row) ≡ rows_with h.key m.rows row
      long = length-put h.key m.rows row (keyed_some h.key m stored.placed)

      reason : WhyNotKeyed bounds.rows h.key m.rows row why → WhyNotPut bounds (table h m.rows) row why
      reason (inl w) = inl (refusal bounds h row fits no_null m.rows ∙ over bounds.rows (put h.key m.rows row) (subst (λ l. bounds.rows < l) (sym long) w.1) ∙ ap Some (sym w.0))
      reason (inr w) = inr (w.0, refusal bounds h row fits no_null m.rows ∙ within bounds.rows (put h.key m.rows row) (subst (λ l. l ≤ bounds.rows) (sym long) w.1), replaces_none h.key m.rows row w.2)

  pub upserted_keyed : (m n : KeyedRows H) (result : Result (Unit {0}) TableRefusal) (key : List ℕ) → key ≡ h.key → IsStored h (Keyed m) → PutKeyed bounds.rows row m n result key → Upserted bounds (table h m.rows) row result (Keyed n)
  upserted_keyed m n result key e stored p = upserted_in m n result stored (subst (PutKeyed bounds.rows row m n result) e p)

  pub upserted_columnar : (r n : Storage H) (result : Result (Unit {0}) TableRefusal) → IsColumnar r → IsColumnar n → IsStored h r → PutColumnar bounds.rows row (rows_of r) (rows_of n) result → Upserted bounds (table h (rows_of r)) row result n
  upserted_columnar r n (Ok u) was is stored p =
      let none = columnar_key h.key r was stored.placed in
      let e = put_none h.key (rows_of r) row none in
      let long = ap length e ∙ length-append (rows_of r) (row ∷ []) in
      let few : length (put h.key (rows_of r) row) ≤ bounds.rows = (let few = p.few in omega arith) in
      let most = rows_limit bounds limits in
      let out : IsPermutation (put h.key (rows_of r) row) (rows_of n) = subst (IsPermutation (put h.key (rows_of r) row)) (e ∙ sym p.ok) (IsPermutation-refl (put h.key (rows_of r) row)) in
      record {
        stored = record {
          valid = valid_put h (rows_of r) (rows_of n) row stored.valid fits (omega arith) out;
          placed = subst (λ k. ArePlaced k n) (sym none) (columnar_placed n is);
        };
        ok = record { schema = refl; rows = out };
        taken = refusal bounds h row fits no_null (rows_of r) ∙ within bounds.rows (put h.key (rows_of r) row) few;
        refused = tt;
        unchanged = tt;
      }
  upserted_columnar r n (Err why) was is stored p = record {
    stored = record {
      valid = subst (λ rows. IsValidTable (table h rows)) (sym p.err) stored.valid;
      placed = subst (λ k. ArePlaced k n) (sym none) (columnar_placed n is);
    };
    ok = tt;
    taken = tt;
    refused = reason p.why;
    unchanged = ap (table h) p.err;
  }
    where
      none : h.key ≡ []
      none = columnar_key h.key r was stored.placed

      long : length (put h.key (rows_of r) row) ≡ length (rows_of r) + 1
      long = ap length (put_none h.key (rows_of r) row none) ∙ length-append (rows_of r) (row ∷ [])

      reason : ((why ≡ Limit) × (bounds.rows ≤ length (rows_of r))) ⊎ ((why ≡ Memory) × (length (rows_of r) < bounds.rows)) → WhyNotPut bounds (table h (rows_of r)) row why
      reason (inl w) = inl (refusal bounds h row fits no_null (rows_of r) ∙ over bounds.rows (put h.key (rows_of r) row) (let far = w.1 in omega (arith, long)) ∙ ap Some (sym w.0))
      reason (inr w) = inr (w.0, refusal bounds h row fits no_null (rows_of r) ∙ within bounds.rows (put h.key (rows_of r) row) (let near = w.1 in omega (arith, long)), replaces_columnar h.key (rows_of r) row none)

-- ---- a load

pub put_all_none : (key : List ℕ) (old rows : List (List Value)) → key ≡ [] → put_all key old rows ≡ old ++ rows
put_all_none (column ∷ columns) old rows e = let none : ⊥ = cc in absurd none
put_all_none [] old rows e = pushed old rows
  where
    pushed : (old rows : List (List Value)) → put_all [] old rows ≡ old ++ rows
    pushed old [] = sym (append-nil old)
    pushed old (row ∷ rows) = pushed (old ++ row ∷ []) rows ∙ append_assoc old (row ∷ []) rows

pub record LoadedTable {H : Type 0} (bounds : Bounds) (old : PlainTable) (loaded : List (List Value)) (result : Result (Unit {0}) TableRefusal) (new : Storage H) : Type 0 where
  pub stored : IsStored old.schema new
  pub ok : OnOk result (IsLoaded old loaded (table old.schema (rows_of new)))
  pub taken : OnOk result (load_refusal bounds old loaded ≡ None)
  pub refused : IfErr result (WhyNotLoaded bounds old loaded)
  pub unchanged : OnErr result (table old.schema (rows_of new) ≡ old)

module _ {H : Type 0} (bounds : Bounds) (limits : IsTrue (within_greatest bounds)) (h : PlainSchema) (rows : List (List Value)) (fits : list_all (fits_columns h.columns) rows ≡ true) where
  loaded_in : (m n : KeyedRows H) (result : Result (Unit {0}) TableRefusal) → IsStored h (Keyed m) → LoadKeyed bounds.rows rows m n result h.key → LoadedTable bounds (table h m.rows) rows result (Keyed n)
  loaded_in m n (Ok u) stored p =
      let most = rows_limit bounds limits in
      let some = keyed_some h.key m stored.placed in
      let all = put_all_keyed h.key m.rows rows some in
      let few : length (put_all h.key m.rows rows) ≤ bounds.rows = subst (λ l. length l ≤ bounds.rows) (sym all) p.few in
      let out : IsPermutation (put_all h.key m.rows rows) n.rows = subst (IsPermutation (put_all h.key m.rows rows)) (all ∙ sym p.ok) (IsPermutation-refl (put_all h.key m.rows rows)) in
      record {
        stored = record {
          valid = valid_loaded h m.rows rows n.rows stored.valid fits (omega arith) out;
          placed = placed_again h.key n some p.own;
        };
        ok = record { schema = refl; rows = out };
        taken = within bounds.rows (put_all h.key m.rows rows) few;
        refused = tt;
        unchanged = tt;
      }
  loaded_in m n (Err why) stored p = record {
    stored = subst (λ v. IsStored h (Keyed v)) (sym p.err) stored;
    ok = tt;
    taken = tt;
    refused = reason p.why;
    unchanged = ap (λ v. table h v.rows) p.err;
  }
    where
      all : put_all h.key m.rows rows ≡ fold (put_by_key h.key) m.rows rows
      all = put_all_keyed h.key m.rows rows (keyed_some h.key m stored.placed)

      reason : ((why ≡ Limit) × (bounds.rows < length (fold (put_by_key h.key) m.rows rows))) ⊎ (why ≡ Memory) → WhyNotLoaded bounds (table h m.rows) rows why
      reason (inl w) = inl (over bounds.rows (put_all h.key m.rows rows) (subst (λ l. bounds.rows < length l) (sym all) w.1) ∙ ap Some (sym w.0))
      reason (inr w) = inr w

  pub loaded_keyed : (m n : KeyedRows H) (result : Result (Unit {0}) TableRefusal) (key : List ℕ) → key ≡ h.key → IsStored h (Keyed m) → LoadKeyed bounds.rows rows m n result key → LoadedTable bounds (table h m.rows) rows result (Keyed n)
  loaded_keyed m n result key e stored p = loaded_in m n result stored (subst (LoadKeyed bounds.rows rows m n result) e p)

  pub loaded_columnar : (r n : Storage H) (result : Result (Unit {0}) TableRefusal) → IsColumnar r → IsColumnar n → IsStored h r → LoadColumnar bounds.rows rows (rows_of r) (rows_of n) result → LoadedTable bounds (table h (rows_of r)) rows result n
  loaded_columnar r n (Ok u) was is stored p =
      let none = columnar_key h.key r was stored.placed in
      let e = put_all_none h.key (rows_of r) rows none in
      let long = ap length e ∙ length-append (rows_of r) rows in
      let few : length (put_all h.key (rows_of r) rows) ≤ bounds.rows = (let few = p.few in omega arith) in
      let most = rows_limit bounds limits in
      let out : IsPermutation (put_all h.key (rows_of r) rows) (rows_of n) = subst (IsPermutation (put_all h.key (rows_of r) rows)) (e ∙ sym p.ok) (IsPermutation-refl (put_all h.key (rows_of r) rows)) in
      record {
        stored = record {
          valid = valid_loaded h (rows_of r) rows (rows_of n) stored.valid fits (omega arith) out;
          placed = subst (λ k. ArePlaced k n) (sym none) (columnar_placed n is);
        };
        ok = record { schema = refl; rows = out };
        taken = within bounds.rows (put_all h.key (rows_of r) rows) few;
        refused = tt;
        unchanged = tt;
      }
  loaded_columnar r n (Err why) was is stored p = record {
    stored = record {
      valid = subst (λ l. IsValidTable (table h l)) (sym p.err) stored.valid;
      placed = subst (λ k. ArePlaced k n) (sym (columnar_key h.key r was stored.placed)) (columnar_placed n is);
    };
    ok = tt;
    taken = tt;
    refused = reason p.why;
    unchanged = ap (table h) p.err;
  }
    where
      long : length (put_all h.key (rows_of r) rows) ≡ length (rows_of r) + length rows
      long = ap length (put_all_none h.key (rows_of r) rows (columnar_key h.key r was stored.placed)) ∙ length-append (rows_of r) rows

      reason : ((why ≡ Limit) × (bounds.rows < length (rows_of r) + length rows)) ⊎ (why ≡ Memory) → WhyNotLoaded bounds (table h (rows_of r)) rows why
      reason (inl w) = inl (over bounds.rows (put_all h.key (rows_of r) rows) (let far = w.1 in omega (arith, long)) ∙ ap Some (sym w.0))
      reason (inr w) = inr w

-- ---- a delete, and an empty table

pub deleted_keyed : {H : Type 0} (h : PlainSchema) (m n : KeyedRows H) (key : List ℕ) (k : List Value) → key ≡ h.key → IsStored h (Keyed m) → OwnKeys key n → IsPermutation (delete key m.rows k) n.rows → IsStored h (Keyed n)
deleted_keyed h m n key k e stored own moved = record {
  valid = valid_deleted h m.rows n.rows k stored.valid (subst (λ l. IsPermutation (delete l m.rows k) n.rows) e moved);
  placed = placed_again h.key n (keyed_some h.key m stored.placed) (subst (λ l. OwnKeys l n) e own);
}

pub stored_empty : {H : Type 0} (h : PlainSchema) (m : KeyedRows H) → IsTrue (is_schema h) → (h.key ≡ [] → ⊥) → m.index.keys ≡ [] → m.rows ≡ [] → IsStored h (Keyed m)
stored_empty h m schema some none no_rows = record {
  valid = subst (λ rows. IsValidTable (table h rows)) (sym no_rows) (record { schema = schema; fitting = refl; keyed = nothing_differs h.key; few = omega arith });
  placed = placed_again h.key m (some_long h.key some) (none ∙ ap (map (key_of h.key)) (sym no_rows));
}
  where
    nothing_differs : (key : List ℕ) → IsTrue (keys_differ key [])
    nothing_differs [] = refl
    nothing_differs (column ∷ columns) = refl

    some_long : (key : List ℕ) → (key ≡ [] → ⊥) → 0 < length key
    some_long [] k = absurd (k refl)
    some_long (column ∷ columns) k = omega arith

-- the rows of a table fit the columns of one with the same schema
pub staged_fit : {H : Type 0} (h g : PlainSchema) (r : Storage H) (rows : List (List Value)) → g ≡ h → IsStored g r → rows_of r ≡ rows → list_all (fits_columns h.columns) rows ≡ true
staged_fit h g r rows same stored is = subst (λ l. list_all (fits_columns h.columns) l ≡ true) is (subst (λ (x : PlainSchema). list_all (fits_columns x.columns) (rows_of r) ≡ true) same stored.valid.fitting)
