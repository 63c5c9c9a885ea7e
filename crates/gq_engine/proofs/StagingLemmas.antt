-- Rows that are put into a table of their own, and loaded from it.
use Rattle.std.proofs.Common.{◌≡◌, ◌⊎◌, inl, inr, ◌∙◌, ℕ, ◌+◌, Bool, true, false, cond, not, bytes_eq, IsTrue, List, [], ◌∷◌, ◌++◌, length, refl, sym, ap, subst, arith, None, Option, Some, IsPermutation, length-append, get_or}
use Rattle.std.specs.Prelude.{nat_le, option_map, Result, Ok, Err, IfSome, OnErr, OnOk, is_err}
use Rattle.std.proofs.lemmas.List.{get_or_default}
use Rattle.std.proofs.lemmas.List.Sorted.{IsPermutation-refl, IsPermutation-sym, IsPermutation-trans, length_permutation}
use Rattle.gq_row.specs.declared.value.Value.{Value}
use Rattle.gq_row.specs.declared.limits.Bounds.{Bounds}
use Rattle.gq_row.specs.Schemas.{PlainSchema}
use Rattle.gq_row.specs.Tables.{PlainTable, put, put_all, keys_differ}
use Rattle.gq_row.proofs.MovedLemmas.{keys_differ-permutation, put-same_rows}
use Rattle.gq_load.specs.declared.load_refusal.LoadRefusal.{LoadRefusal}
use Rattle.gq_load.specs.declared.row_fault.RowFault.{RowFault}
use Rattle.gq_load.specs.declared.row_fault.RowFault.TheVariants as row_fault
use Rattle.gq_load.specs.declared.short_records.Short.{Short}
use Rattle.gq_load.specs.Coming.{BeginWith, IsFaultOf}
use Rattle.gq_load.specs.Payloads.{load}
use Rattle.gq_load.proofs.Left.{Joined, joined_bad, joined_end, joined_more, joined_none}
use Rattle.gq_command.specs.Commands.{Bytes}
use Rattle.gq_command.specs.declared.command.Payload.{Payload}
use Rattle.gq_command.specs.declared.command.Payload.TheVariants as payload
use Rattle.gq_reply.specs.declared.refusal.Refusal.TheVariants.{Limit, Memory, NoTable}
use Rattle.gq_reply.specs.declared.reply.Reply.TheVariants as reply
use Rattle.gq_reply.specs.declared.refusal.Refused.{Refused}
use Rattle.gq_reply.specs.Refusals.{unnumbered}
use Rattle.gq_table.specs.Changes.{IsPut}
use Rattle.gq_table.proofs.StagedLemmas.{loaded_again}
use Rattle.gq_reply.proofs.StepLemmas.{gives, stops, finds, passes}
use Rattle.gq_engine.specs.Databases.{Database, IsKeyed, IsTableAt, table_at, with_table}
use Rattle.gq_engine.specs.declared.csv_fault.CsvFault.{CsvFault}
use Rattle.gq_engine.specs.declared.csv_fault.CsvFault.TheVariants as csv_fault
use Rattle.gq_engine.specs.Loading.{IsTold, payload_bytes, csv_fault_of, fault_refusal, is_lost, refused_by, refused_in, csv_rows}
use Rattle.gq_reply.specs.Outcomes.{◌>>=◌, true_or}
use Rattle.gq_engine.specs.Refusing.{put_all_within}
use Rattle.gq_engine.specs.Runs.{SameTables}
use Rattle.gq_engine.specs.Serving.{Changes, Comes}
use Rattle.gq_engine.specs.Staging.{HasLoaded, HasPut, HasStaged, IsStagedFrom}
use Rattle.gq_engine.specs.Steps.{load_table, with_rows}
use Rattle.gq_engine.proofs.FormLemmas.{load_faulty, load_none, rows_put, rows_refused}
use Rattle.gq_engine.proofs.OrderLemmas.{changed_alike, keys_differ-put_all, no_rows_differ, same_tables, tables_trans}

abbrev Rows : Type 0
Rows = List (List Value)

-- ---- row by row

put_all-push : (key : List ℕ) (old front : Rows) (row : List Value) → put_all key old (front ++ row ∷ []) ≡ put key (put_all key old front) row
put_all-push key old [] row = refl
put_all-push key old (first ∷ front) row = put_all-push key (put key old first) front row

-- so far these rows were read and put, and those are left
pub record SoFar (schema : PlainSchema) (staged : PlainTable) (count : ℕ) (left all : Option (Result Rows LoadRefusal)) : Type 0 where
  pub front : Rows
  pub told : Joined front left all
  pub counted : count ≡ length front
  pub same : staged.schema ≡ schema
  pub put : IsPermutation (put_all schema.key [] front) staged.rows

pub begun : (staged : PlainTable) (all : Option (Result Rows LoadRefusal)) → staged.rows ≡ [] → SoFar staged.schema staged 0 all all
begun staged all none = record {
  front = [];
  told = joined_none all;
  counted = refl;
  same = refl;
  put = subst (IsPermutation []) (sym none) (IsPermutation-refl []);
}

pub onward : (schema : PlainSchema) (staged new : PlainTable) (count : ℕ) (left others all : Option (Result Rows LoadRefusal)) (row : List Value) → SoFar schema staged count left all → BeginWith left row others → IsPut staged row new
    → SoFar schema new (count + 1) others all
onward schema staged new count left others all row h e p = record {
  front = h.front ++ row ∷ [];
  told = joined_more h.front row all left others h.told e;
  counted = omega (arith, h.counted, length-append h.front (row ∷ []));
  same = p.schema ∙ h.same;
  put = subst (λ l. IsPermutation l new.rows) (sym (put_all-push schema.key [] h.front row))
      (IsPermutation-trans _ _ _ (put-same_rows schema.key (put_all schema.key [] h.front) staged.rows row (keys_differ-put_all schema.key [] h.front (no_rows_differ schema.key)) h.put)
      (subst (λ (g : PlainSchema). IsPermutation (put g.key staged.rows row) new.rows) h.same p.rows));
}

told_rows : (all : Option (Result Rows LoadRefusal)) (rows : Rows) → IfSome all (λ read. read ≡ Ok rows) → IfSome (option_map refused_by all) (λ given. given ≡ Ok rows)
told_rows None rows h = tt
told_rows (Some read) rows h = ap refused_by h

pub ended : (schema : PlainSchema) (staged : PlainTable) (count : ℕ) (left all : Option (Result Rows LoadRefusal)) → SoFar schema staged count left all → IfSome left (λ read. read ≡ Ok []) → HasStaged (option_map refused_by all) schema staged count
ended schema staged count left all h e = record {
  rows = h.front;
  told = told_rows all h.front (joined_end h.front all left h.told e);
  counted = h.counted;
  same = h.same;
  put = h.put;
}

-- what reading rows is refused for, the text is
pub fault_told : (all : Option (Result Rows LoadRefusal)) (why : RowFault) → IsFaultOf all why → IsTold (option_map refused_by all) (csv_fault_of why)
fault_told all row_fault.Read h = tt
fault_told all (row_fault.Refused why) (inl m) = inl (ap fault_refusal m)
fault_told None (row_fault.Refused why) (inr h) = inr tt
fault_told (Some read) (row_fault.Refused why) (inr h) = inr (ap refused_by h)

pub failed : (schema : PlainSchema) (staged : PlainTable) (count : ℕ) (left all : Option (Result Rows LoadRefusal)) (why : RowFault) → SoFar schema staged count left all → IsFaultOf left why → IsTold (option_map refused_by all) (csv_fault_of why)
failed schema staged count left all why h e = fault_told all why (joined_bad h.front all left why h.told e)

-- the rows of a text, by what its reader has yet to give
pub staged_of : (short : Short) (limits : Bounds) (schema : PlainSchema) (text : Option Bytes) (all : Option (Result Rows LoadRefusal)) (staged : PlainTable) (count : ℕ)
    → IfSome text (λ bytes. all ≡ Some (load short schema limits bytes)) → HasStaged (option_map refused_by all) schema staged count → HasStaged (option_map (csv_rows short limits schema) text) schema staged count
staged_of short limits schema None all staged count e h = record { rows = h.rows; told = tt; counted = h.counted; same = h.same; put = h.put }
staged_of short limits schema (Some bytes) all staged count e h = subst (λ o. HasStaged (option_map refused_by o) schema staged count) e h

pub told_of : (short : Short) (limits : Bounds) (schema : PlainSchema) (text : Option Bytes) (all : Option (Result Rows LoadRefusal)) (why : CsvFault)
    → IfSome text (λ bytes. all ≡ Some (load short schema limits bytes)) → IsTold (option_map refused_by all) why → IsTold (option_map (csv_rows short limits schema) text) why
told_of short limits schema text all csv_fault.Read e h = tt
told_of short limits schema text all (csv_fault.Refused why) e (inl m) = inl m
told_of short limits schema None all (csv_fault.Refused why) e (inr h) = inr tt
told_of short limits schema (Some bytes) all (csv_fault.Refused why) e (inr h) = inr (subst (λ o. IfSome (option_map refused_by o) (λ given. given ≡ Err why)) e h)

pub begin_told : (short : Short) (limits : Bounds) (schema : PlainSchema) (text : Option Bytes) (why : RowFault) → IsFaultOf (option_map (load short schema limits) text) why → IsTold (option_map (csv_rows short limits schema) text) (csv_fault_of why)
begin_told short limits schema None why h = fault_told None why h
begin_told short limits schema (Some bytes) why h = fault_told (Some (load short schema limits bytes)) why h

-- bytes in memory are refused, or there was no memory
pub in_memory : {A : Type 0} (read : Result A Refused) (why : CsvFault) → IsTold (Some read) why → (refused_in why ≡ unnumbered Memory) ⊎ (read ≡ Err (refused_in why))
in_memory read (csv_fault.Refused why) h = h
in_memory read csv_fault.Read h = inl refl

-- ---- all at once

module _ (limits : Bounds) (db : Database) (name : List ℕ) (table : PlainTable) (found : table_at db name ≡ Some table) (differ : IsTrue (keys_differ table.schema.key table.rows)) (rows s : Rows)
    (put : IsPermutation (put_all table.schema.key [] rows) s) where
  moved : IsPermutation (put_all table.schema.key table.rows s) (put_all table.schema.key table.rows rows)
  moved =
      let key = table.schema.key in
      loaded_again key table.rows rows s differ (keys_differ-permutation key (put_all key [] rows) s put (keys_differ-put_all key [] rows (no_rows_differ key))) put

  as_many : length (put_all table.schema.key table.rows s) ≡ length (put_all table.schema.key table.rows rows)
  as_many = let e = length_permutation _ _ moved in omega arith

  within : (b : Bool) (new : Rows) → nat_le (length (put_all table.schema.key table.rows new)) limits.rows ≡ b
      → put_all_within limits table new ≡ (true_or Limit b >>= λ few. Ok (put_all table.schema.key table.rows new))
  within b new e = ap (λ x. true_or Limit x >>= λ few. Ok (put_all table.schema.key table.rows new)) e

  pub loaded_rows : {X : Type 0} (result : Result X Refused) (new : Database) → Changes (with_rows limits db name s) result db new → Changes (with_rows limits db name rows) result db new
  loaded_rows result new h = chosen (nat_le (length (put_all table.schema.key table.rows s)) limits.rows) refl (ap (λ n. nat_le n limits.rows) (sym as_many)) result h
    where
      chosen : {X : Type 0} (b : Bool) → nat_le (length (put_all table.schema.key table.rows s)) limits.rows ≡ b
          → nat_le (length (put_all table.schema.key table.rows rows)) limits.rows ≡ nat_le (length (put_all table.schema.key table.rows s)) limits.rows
          → (result : Result X Refused) → Changes (with_rows limits db name s) result db new → Changes (with_rows limits db name rows) result db new
      chosen true e f (Ok x) h =
          let there = rows_put limits db name s (put_all table.schema.key table.rows s) table found (within true s e) in
          let here = rows_put limits db name rows (put_all table.schema.key table.rows rows) table found (within true rows (f ∙ e)) in
          let last : h.0 ≡ with_table db name (record table { rows = put_all table.schema.key table.rows s }) = ok_is _ _ (sym h.1 ∙ there) in (
            with_table db name (record table { rows = put_all table.schema.key table.rows rows }),
            here,
            tables_trans _ _ _
                (changed_alike db db name (record table { rows = put_all table.schema.key table.rows rows }) (record table { rows = put_all table.schema.key table.rows s }) (same_tables db)
                (record { schema = refl; rows = IsPermutation-sym _ _ moved; keyed = keys_differ-put_all table.schema.key table.rows rows differ }))
                (subst (λ (d : Database). SameTables d new) last h.2),
          )
        where
          ok_is : (a b : Database) → ◌≡◌ {A = Result Database Refused} (Ok a) (Ok b) → a ≡ b
          ok_is a b e = cc
      chosen true e f (Err why) h = (h.0, left h.1)
        where
          left : (why ≡ unnumbered Memory) ⊎ (with_rows limits db name s ≡ Err why) → (why ≡ unnumbered Memory) ⊎ (with_rows limits db name rows ≡ Err why)
          left (inl m) = inl m
          left (inr k) =
              let there = rows_put limits db name s (put_all table.schema.key table.rows s) table found (within true s e) in
              let both = sym k ∙ there in
              let none : ⊥ = cc in
              absurd none
      chosen false e f (Ok x) h =
          let there = rows_refused limits db name s table (unnumbered Limit) found (within false s e) in
          let both = sym h.1 ∙ there in
          let none : ⊥ = cc in
          absurd none
      chosen false e f (Err why) h = (h.0, left h.1)
        where
          left : (why ≡ unnumbered Memory) ⊎ (with_rows limits db name s ≡ Err why) → (why ≡ unnumbered Memory) ⊎ (with_rows limits db name rows ≡ Err why)
          left (inl m) = inl m
          left (inr k) =
              let there = rows_refused limits db name s table (unnumbered Limit) found (within false s e) in
              let here = rows_refused limits db name rows table (unnumbered Limit) found (within false rows (f ∙ e)) in
              inr (here ∙ sym there ∙ k)

-- each table of a database has rows of different keys
pub keyed_at : (db : Database) (name : List ℕ) (table : PlainTable) → IsKeyed db → table_at db name ≡ Some table → IsTrue (keys_differ table.schema.key table.rows)
keyed_at [] name table k e = let none : ⊥ = cc in absurd none
keyed_at (entry ∷ db) name table k e = step (bytes_eq entry.0 name) e (keyed_at db name table k.1)
  where
    step : (b : Bool) → cond b (Some entry.1) (table_at db name) ≡ Some table → (table_at db name ≡ Some table → IsTrue (keys_differ table.schema.key table.rows)) → IsTrue (keys_differ table.schema.key table.rows)
    step true e rest = let same : entry.1 ≡ table = cc in subst (λ (t : PlainTable). IsTrue (keys_differ t.schema.key t.rows)) same k.0
    step false e rest = rest e

-- a load of what was staged is the load of the payload
module _ (short : Short) (limits : Bounds) (db : Database) (name : List ℕ) (table : PlainTable) (found : table_at db name ≡ Some table) (keyed : IsKeyed db) where
  -- the rows that were staged were put, whatever the bytes
  module _ (read : Option (Result Rows Refused)) (staged : PlainTable) (count : ℕ) (h : HasStaged read table.schema staged count) where
    as_all : {X : Type 0} (result : Result X Refused) (new : Database) → Changes (with_rows limits db name staged.rows) result db new → Changes (with_rows limits db name h.rows) result db new
    as_all result new changes = loaded_rows limits db name table found (keyed_at db name table keyed found) h.rows staged.rows h.put result new changes

    pub staged_put : {X : Type 0} (x : X) (new : Database) → Changes (with_rows limits db name staged.rows) (Ok x) db new → HasPut limits db name count new
    staged_put x new changes =
        let g = as_all (Ok x) new changes in
        record { rows = h.rows; counted = h.counted; last = g.0; done = g.1; same = g.2 }

  module _ (carried : Payload) (bytes : Bytes) (lost : is_lost carried ≡ false) (told : payload_bytes carried ≡ Ok bytes) (staged : PlainTable) (count : ℕ) (h : HasStaged (Some (csv_rows short limits table.schema bytes)) table.schema staged count) where
    load_as : load_table short limits db name carried ≡ (with_rows limits db name h.rows >>= λ new. Ok (new, reply.Done (length h.rows)))
    load_as =
        passes Memory (not (is_lost carried)) _ (ap not lost)
        ∙ finds NoTable (table_at db name) table _ found
        ∙ gives (payload_bytes carried) bytes _ told
        ∙ gives (csv_rows short limits table.schema bytes) h.rows _ h.told

    pub staged_done : {X : Type 0} (x : X) (new : Database) → Changes (with_rows limits db name staged.rows) (Ok x) db new → Comes (load_table short limits db name carried) (Ok (reply.Done count)) db new
    staged_done x new changes =
        let g = as_all (Some (csv_rows short limits table.schema bytes)) staged count h (Ok x) new changes in
        record {
          last = g.0;
          done = load_as ∙ gives (with_rows limits db name h.rows) g.0 _ g.1 ∙ ap (λ n. Ok (g.0, reply.Done n)) (sym h.counted);
          same = g.2;
          kept = tt;
        }

    pub staged_refused : (X : Type 0) (why : Refused) (new : Database) → Changes {X = X} (with_rows limits db name staged.rows) (Err why) db new → Comes (load_table short limits db name carried) (Err why) db new
    staged_refused X why new changes =
        let g = as_all (Some (csv_rows short limits table.schema bytes)) staged count h {X = X} (Err why) new changes in
        (g.0, left g.1)
      where
        left : (why ≡ unnumbered Memory) ⊎ (with_rows limits db name h.rows ≡ Err why) → (why ≡ unnumbered Memory) ⊎ (load_table short limits db name carried ≡ Err why)
        left (inl m) = inl m
        left (inr e) = inr (load_as ∙ stops (with_rows limits db name h.rows) why _ e)

-- ---- a text, whose bytes may be known

module _ (short : Short) (limits : Bounds) (db : Database) (name : List ℕ) where
  pub text_unfound : (text : Option Bytes) → table_at db name ≡ None → IsTold (option_map (λ bytes. load_table short limits db name (payload.Bytes bytes)) text) (csv_fault.Refused (unnumbered NoTable))
  text_unfound None none = inr tt
  text_unfound (Some bytes) none = inr (load_none short limits db name (payload.Bytes bytes) refl none)

  module _ (table : PlainTable) (found : table_at db name ≡ Some table) where
    pub text_told : (text : Option Bytes) (why : CsvFault) → IsTold (option_map (csv_rows short limits table.schema) text) why → IsTold (option_map (λ bytes. load_table short limits db name (payload.Bytes bytes)) text) why
    text_told text csv_fault.Read h = tt
    text_told text (csv_fault.Refused why) (inl m) = inl m
    text_told None (csv_fault.Refused why) (inr h) = inr tt
    text_told (Some bytes) (csv_fault.Refused why) (inr h) = inr (load_faulty short limits db name table found bytes why h)

  -- a text that is not loaded leaves the tables
  pub text_faulted : (text : Option Bytes) (why : CsvFault) → IsTold (option_map (λ bytes. load_table short limits db name (payload.Bytes bytes)) text) why → IfSome text (λ bytes. HasLoaded (load_table short limits db name (payload.Bytes bytes)) (Err why) db db)
  text_faulted None why h = tt
  text_faulted (Some bytes) csv_fault.Read h = same_tables db
  text_faulted (Some bytes) (csv_fault.Refused why) h = (same_tables db, h)

  module _ (keyed : IsKeyed db) (text : Option Bytes) (staged : PlainTable) (count : ℕ) where
    pub text_loaded : IsStagedFrom short limits db name text staged count → {X : Type 0} (x : X) (new : Database) → Changes (with_rows limits db name staged.rows) (Ok x) db new
        → IfSome text (λ bytes. HasLoaded (load_table short limits db name (payload.Bytes bytes)) (Ok count) db new)
    text_loaded own x new changes = by_text text own.staged
      where
        by_text : (text : Option Bytes) → HasStaged (option_map (csv_rows short limits own.table.schema) text) own.table.schema staged count → IfSome text (λ bytes. HasLoaded (load_table short limits db name (payload.Bytes bytes)) (Ok count) db new)
        by_text None h = tt
        by_text (Some bytes) h = staged_done short limits db name own.table own.found keyed (payload.Bytes bytes) bytes refl refl staged count h x new changes

    pub text_refused : IsStagedFrom short limits db name text staged count → (X : Type 0) (why : Refused) (new : Database) → Changes {X = X} (with_rows limits db name staged.rows) (Err why) db new
        → IfSome text (λ bytes. HasLoaded (load_table short limits db name (payload.Bytes bytes)) (Err (csv_fault.Refused why)) db new)
    text_refused own X why new changes = by_text text own.staged
      where
        by_text : (text : Option Bytes) → HasStaged (option_map (csv_rows short limits own.table.schema) text) own.table.schema staged count → IfSome text (λ bytes. HasLoaded (load_table short limits db name (payload.Bytes bytes)) (Err (csv_fault.Refused why)) db new)
        by_text None h = tt
        by_text (Some bytes) h = staged_refused short limits db name own.table own.found keyed (payload.Bytes bytes) bytes refl refl staged count h X why new changes

-- the table at the place of a name is the one of that name
pub schema_at : (db : Database) (name : List ℕ) (i : ℕ) (at : List ℕ × PlainTable) (h : PlainSchema) → IsTableAt db name i → at ≡ get_or db i at → IfSome (table_at db name) (λ table. h ≡ table.schema) → h ≡ at.1.schema
schema_at db name i at h s is asked =
    let same : at ≡ s.entry = is ∙ get_or_default db i at s.entry s.within ∙ sym s.here in
    subst (λ (e : List ℕ × PlainTable). h ≡ e.1.schema) (sym same) (subst (λ o. IfSome o (λ (table : PlainTable). h ≡ table.schema)) s.table asked)

-- what is so where there is no error
pub on_ok : {X E : Type 0} {P : Type 0} (r : Result X E) → is_err r ≡ false → OnOk r P → P
on_ok (Ok x) none h = h
on_ok (Err e) none h = let wrong : ⊥ = cc in absurd wrong

-- what is so is so where there is an error
pub any_err : {X E P : Type 0} (r : Result X E) → P → OnErr r P
any_err (Ok x) h = tt
any_err (Err e) h = h
