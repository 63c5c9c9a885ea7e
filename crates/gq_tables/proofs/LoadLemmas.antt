-- A database with one table more, and loads into that table.
use Rattle.std.proofs.Common.{◌≡◌, ◌∙◌, ℕ, Bool, true, false, cond, not, IsTrue, List, [], ◌∷◌, ◌++◌, length, Option, Some, None, IsPermutation, refl, sym, ap, subst}
use Rattle.std.specs.Prelude.{Result, Ok, Err, OnErr, bytes_eq, flat_map, nat_le, nat_lt, is_some}
use Rattle.std.proofs.lemmas.Bool.{true≢false}
use Rattle.std.proofs.lemmas.List.{append-nil, map-append}
use Rattle.std.proofs.lemmas.Option.{same_Some}
use Rattle.std.proofs.lemmas.List.Sums.{fold-append}
use Rattle.std.proofs.lemmas.List.Concat.{flat_map-append}
use Rattle.std.proofs.lemmas.List.Sorted.{IsPermutation-refl}
use Rattle.gq_row.specs.declared.limits.Bounds.{Bounds}
use Rattle.gq_row.specs.declared.schema.Column.{Column}
use Rattle.gq_row.specs.declared.value.Value.{Value}
use Rattle.gq_row.specs.Schemas.{PlainSchema, positions_of}
use Rattle.gq_row.specs.Tables.{PlainTable, keys_differ, put, put_all}
use Rattle.gq_row.proofs.MovedLemmas.{keys_differ-permutation, put-same_rows}
use Rattle.gq_row.proofs.TableLemmas.{keys_differ-put}
use Rattle.gq_load.specs.declared.load_refusal.LoadRefusal.{LoadRefusal}
use Rattle.gq_load.specs.declared.short_records.Short.{Short}
use Rattle.gq_load.specs.Payloads.{load}
use Rattle.gq_command.specs.Commands.{Bytes}
use Rattle.gq_command.specs.declared.command.Command.TheVariants.{Create, Drop}
use Rattle.gq_command.specs.declared.command.Payload.TheVariants as payload
use Rattle.gq_command.specs.declared.reader.Item.TheVariants as item
use Rattle.gq_reply.specs.declared.refusal.Refusal.TheVariants.{Limit, NoColumn, NoTable, TableExists}
use Rattle.gq_reply.specs.declared.refusal.Refused.{Refused}
use Rattle.gq_reply.specs.declared.reply.Reply.{Reply}
use Rattle.gq_reply.specs.declared.reply.Reply.TheVariants as reply
use Rattle.gq_reply.specs.Outcomes.{◌>>=◌, some_or, true_or}
use Rattle.gq_reply.specs.Refusals.{of_refused}
use Rattle.gq_reply.specs.Replies.{is_refusal}
use Rattle.gq_engine.specs.Databases.{Database, table_at, with_table, without_table}
use Rattle.gq_engine.specs.Loading.{refused_by, csv_rows}
use Rattle.gq_engine.specs.Refusing.{put_all_within}
use Rattle.gq_engine.specs.Runs.{AnsweredAsLists, LegalAnswer, AsListsAnswer, WantsMemory, StoreFailed, StoreLied, SameTables, Setting}
use Rattle.gq_engine.specs.Steps.{Outcome, create, load_table, settle, table_in, with_rows}
use Rattle.gq_engine.proofs.MapLemmas.{is_finite_map, itself}
use Rattle.gq_engine.proofs.OrderLemmas.{AlikeTables, changed_alike, keys_differ-put_all, no_rows_differ, tables_trans, without_alike}
use Rattle.gq_tables.specs.Made.{HasRowsOf}
use Rattle.gq_tables.specs.Steps.{HasDone, HasLoadedFile, IsEmpty, IsWith}

abbrev Rows : Type 0
Rows = List (List Value)

-- ---- the last table

with_last : (before : Database) (name : Bytes) (s t : PlainTable) → table_at before name ≡ None → with_table (before ++ (name, s) ∷ []) name t ≡ before ++ (name, t) ∷ []
with_last [] name s t none = ap (λ b. cond b ((name, t) ∷ []) ((name, s) ∷ (name, t) ∷ [])) (itself name)
with_last (entry ∷ before) name s t none = by (bytes_eq entry.0 name) refl none (with_last before name s t)
  where
    by : (b : Bool) → bytes_eq entry.0 name ≡ b → cond b (Some entry.1) (table_at before name) ≡ None → (table_at before name ≡ None → with_table (before ++ (name, s) ∷ []) name t ≡ before ++ (name, t) ∷ [])
        → cond b ((entry.0, t) ∷ (before ++ (name, s) ∷ [])) (entry ∷ with_table (before ++ (name, s) ∷ []) name t) ≡ entry ∷ (before ++ (name, t) ∷ [])
    by true e none again = let no : ⊥ = cc in absurd no
    by false e none again = ap (λ db. entry ∷ db) (again none)

without_last : (before : Database) (name : Bytes) (t : PlainTable) → table_at before name ≡ None → without_table (before ++ (name, t) ∷ []) name ≡ before
without_last [] name t none = ap (λ b. cond (not b) ((name, t) ∷ []) []) (itself name)
without_last (entry ∷ before) name t none = by (bytes_eq entry.0 name) refl none (without_last before name t)
  where
    by : (b : Bool) → bytes_eq entry.0 name ≡ b → cond b (Some entry.1) (table_at before name) ≡ None → (table_at before name ≡ None → without_table (before ++ (name, t) ∷ []) name ≡ before)
        → cond (not b) (entry ∷ without_table (before ++ (name, t) ∷ []) name) (without_table (before ++ (name, t) ∷ []) name) ≡ entry ∷ before
    by true e none again = let no : ⊥ = cc in absurd no
    by false e none again = ap (λ db. entry ∷ db) (again none)

at_last : (before : Database) (name : Bytes) (t : PlainTable) → table_at before name ≡ None → table_at (before ++ (name, t) ∷ []) name ≡ Some t
at_last [] name t none = ap (λ b. cond b (Some t) None) (itself name)
at_last (entry ∷ before) name t none = by (bytes_eq entry.0 name) refl none (at_last before name t)
  where
    by : (b : Bool) → bytes_eq entry.0 name ≡ b → cond b (Some entry.1) (table_at before name) ≡ None → (table_at before name ≡ None → table_at (before ++ (name, t) ∷ []) name ≡ Some t)
        → cond b (Some entry.1) (table_at (before ++ (name, t) ∷ []) name) ≡ Some t
    by true e none again = let no : ⊥ = cc in absurd no
    by false e none again = again none

-- a table of a database that is the same but for the order of rows
pub record FoundSame (s : PlainTable) (b : Database) (name : Bytes) : Type 0 where
  pub table : PlainTable
  pub found : table_at b name ≡ Some table
  pub schema : s.schema ≡ table.schema
  pub rows : IsPermutation s.rows table.rows

pub found_same : (a b : Database) (name : Bytes) (s : PlainTable) → SameTables a b → table_at a name ≡ Some s → FoundSame s b name
found_same [] b name s same h = let no : ⊥ = cc in absurd no
found_same (x ∷ a) [] name s same h = absurd same
found_same (x ∷ a) (y ∷ b) name s same h = by (bytes_eq x.0 name) refl h (found_same a b name s same.3)
  where
    here : (c : Bool) → bytes_eq x.0 name ≡ c → bytes_eq y.0 name ≡ c
    here c e = ap (λ n. bytes_eq n name) (sym same.0) ∙ e

    by : (c : Bool) → bytes_eq x.0 name ≡ c → cond c (Some x.1) (table_at a name) ≡ Some s → (table_at a name ≡ Some s → FoundSame s b name) → FoundSame s (y ∷ b) name
    by true e h again =
        let it : x.1 ≡ s = cc in
        record {
          table = y.1;
          found = ap (λ c. cond c (Some y.1) (table_at b name)) (here true e);
          schema = ap (λ (t : PlainTable). t.schema) (sym it) ∙ same.1;
          rows = subst (λ (t : PlainTable). IsPermutation t.rows y.1.rows) it same.2;
        }
    by false e h again =
        let f = again h in
        record { table = f.table; found = ap (λ c. cond c (Some y.1) (table_at b name)) (here false e) ∙ f.found; schema = f.schema; rows = f.rows }

-- ---- steps that are carried out

bound : {A B : Type 0} (r : Result A Refused) (f : A → Result B Refused) (y : B) → (r >>= f) ≡ Ok y → (x : A) × (r ≡ Ok x) × (f x ≡ Ok y)
bound (Ok x) f y h = (x, refl, h)
bound (Err e) f y h = let none : ⊥ = cc in absurd none

ok_same : {A : Type 0} (x y : A) → ◌≡◌ {A = Result A Refused} (Ok x) (Ok y) → x ≡ y
ok_same x y h = ap (λ r. elim r [ Ok z ↦ z | Err e ↦ x ]) h

some_found : {A : Type 0} (o : Option A) (x : A) (why : _) → some_or why o ≡ Ok x → o ≡ Some x
some_found None x why h = let none : ⊥ = cc in absurd none
some_found (Some y) x why h = ap Some (ok_same y x h)

-- what was answered without refusal is what the steps give
record Settled (old : Database) (steps : Outcome) (last : Database) : Type 0 where
  answer : Reply
  done : steps ≡ Ok (last, answer)

settled : (old : Database) (steps : Outcome) (last : Database) (answer : Reply) → (last, answer) ≡ settle old steps → is_refusal answer ≡ false → Settled old steps last
settled old (Ok done) last answer h fine = record { answer = answer; done = ap Ok (sym h) }
settled old (Err why) last answer h fine =
    let same : answer ≡ of_refused why = ap (λ (p : Database × Reply). p.1) h in
    absurd (true≢false (sym (ap is_refusal same) ∙ fine))

not_refused : (answer : Reply) (why : Refused) → answer ≡ of_refused why → is_refusal answer ≡ false → ⊥
not_refused answer why h fine = true≢false (sym (ap is_refusal h) ∙ fine)

-- a create that was carried out
pub created : (setting : Setting) (old new : Database) (name : Bytes) (columns : List Column) (key : List Bytes) → HasDone setting old (Create name columns key) new → IsWith old name (IsEmpty columns key) new
created setting old new name columns key h = by h.alike.legal
  where
    by : LegalAnswer setting old (item.Command (Create name columns key)) h.answer h.alike.last → IsWith old name (IsEmpty columns key) new
    by (AsListsAnswer e) =
        let s = settled old (create setting.limits old name columns key) h.alike.last h.answer e h.fine in
        let a = bound (true_or TableExists (not (is_some (table_at old name)))) _ (h.alike.last, s.answer) s.done in
        let b = bound (some_or NoColumn (positions_of columns key)) _ (h.alike.last, s.answer) a.2 in
        let c = bound (true_or Limit (nat_lt (length old) setting.limits.tables)) _ (h.alike.last, s.answer) b.2 in
        let last : old ++ (name, record { schema = record { columns = columns; key = b.0 }; rows = [] }) ∷ [] ≡ h.alike.last = ap (λ (p : Database × Reply). p.0) (ok_same _ _ c.2) in
        record {
          table = record { schema = record { columns = columns; key = b.0 }; rows = [] };
          is = record { columns_are = refl; key_is = some_found (positions_of columns key) b.0 NoColumn b.1; rows_are = refl };
          same = subst (λ (db : Database). SameTables db new) (sym last) h.alike.same;
        }
    by (WantsMemory e m) = absurd (not_refused h.answer _ m h.fine)
    by (StoreFailed e g m) = absurd (not_refused h.answer _ m h.fine)
    by (StoreLied e g l) = absurd (true≢false (sym g.0))

-- a drop of the last table
dropped_now : (limits : Bounds) (old new : Database) (name : Bytes) (table : PlainTable) (answer : Reply) → AnsweredAsLists limits old (item.Command (Drop name)) answer new → table_at old name ≡ Some table → SameTables (without_table old name) new
dropped_now limits old new name table answer h there = subst (λ (db : Database). SameTables db new) (by (table_at old name) refl there) h.same
  where
    by : (o : Option PlainTable) → table_at old name ≡ o → o ≡ Some table → (settle old (some_or NoTable o >>= λ t. Ok (without_table old name, reply.Done 0))).0 ≡ without_table old name
    by None e s = let none : ⊥ = cc in absurd none
    by (Some t) e s = refl

pub dropped_last : (limits : Bounds) (old new before : Database) (name : Bytes) (table : PlainTable) (answer : Reply) → AnsweredAsLists limits old (item.Command (Drop name)) answer new → table_at before name ≡ None → SameTables (before ++ (name, table) ∷ []) old → SameTables before new
dropped_last limits old new before name table answer h none same =
    tables_trans before (without_table old name) new
    (subst (λ (db : Database). SameTables db (without_table old name)) (without_last before name table none) (without_alike (before ++ (name, table) ∷ []) old name same))
    (dropped_now limits old new name (there.table) answer h there.found)
  where
    there : FoundSame table old name
    there = found_same (before ++ (name, table) ∷ []) old name table same (at_last before name table none)

-- ---- a load that was carried out

put_all-same_rows : (key : List ℕ) (xs ys new : Rows) → IsTrue (keys_differ key xs) → IsPermutation xs ys → IsPermutation (put_all key xs new) (put_all key ys new)
put_all-same_rows key xs ys [] differ moved = moved
put_all-same_rows key xs ys (row ∷ new) differ moved = put_all-same_rows key (put key xs row) (put key ys row) new (keys_differ-put key xs row differ) (put-same_rows key xs ys row differ moved)

rows_read : (r : Result Rows LoadRefusal) (rows : Rows) → refused_by r ≡ Ok rows → r ≡ Ok rows
rows_read (Ok x) rows h = ap Ok (ok_same x rows h)
rows_read (Err e) rows h = let none : ⊥ = cc in absurd none

table_found : (db : Database) (name : Bytes) (table : PlainTable) → table_in db name ≡ Ok table → table_at db name ≡ Some table
table_found db name table h = some_found (table_at db name) table NoTable h

-- rows that were put into the table of a name
record Put (limits : Bounds) (db : Database) (name : Bytes) (rows : Rows) (last : Database) : Type 0 where
  table : PlainTable
  found : table_at db name ≡ Some table
  changed : with_table db name (record table { rows = put_all table.schema.key table.rows rows }) ≡ last

all_put : (limits : Bounds) (db : Database) (name : Bytes) (rows : Rows) (last : Database) → with_rows limits db name rows ≡ Ok last → Put limits db name rows last
all_put limits db name rows last h = by (table_in db name) refl h
  where
    by_few : (t : PlainTable) → table_in db name ≡ Ok t → (b : Bool)
        → ((true_or Limit b >>= λ few. Ok (put_all t.schema.key t.rows rows)) >>= λ all. Ok (with_table db name (record t { rows = all }))) ≡ Ok last → Put limits db name rows last
    by_few t e false h = let none : ⊥ = cc in absurd none
    by_few t e true h = record { table = t; found = table_found db name t e; changed = ok_same _ last h }

    by : (r : Result PlainTable Refused) → table_in db name ≡ r → (r >>= λ table. put_all_within limits table rows >>= λ all. Ok (with_table db name (record table { rows = all }))) ≡ Ok last → Put limits db name rows last
    by (Err w) e h = let none : ⊥ = cc in absurd none
    by (Ok t) e h = by_few t e (nat_le (length (put_all t.schema.key t.rows rows)) limits.rows) h

abbrev counted : Database → Rows → Database × Reply
counted db rows = (db, reply.Done (length rows))

-- a load that was carried out
record Loaded (short : Short) (limits : Bounds) (db : Database) (name bytes : Bytes) (last : Database) : Type 0 where
  table : PlainTable
  rows : Rows
  found : table_at db name ≡ Some table
  read : load short table.schema limits bytes ≡ Ok rows
  put : Put limits db name rows last

loaded : (short : Short) (limits : Bounds) (db : Database) (name bytes : Bytes) (last : Database) (answer : Reply) → load_table short limits db name (payload.Bytes bytes) ≡ Ok (last, answer) → Loaded short limits db name bytes last
loaded short limits db name bytes last answer h = by (table_in db name) refl h
  where
    by_new : (t : PlainTable) → table_in db name ≡ Ok t → (rows : Rows) → csv_rows short limits t.schema bytes ≡ Ok rows → (r : Result Database Refused) → with_rows limits db name rows ≡ r
        → (r >>= λ new. Ok (counted new rows)) ≡ Ok (last, answer) → Loaded short limits db name bytes last
    by_new t e rows f (Err w) g h = let none : ⊥ = cc in absurd none
    by_new t e rows f (Ok new) g h =
        let same : new ≡ last = ap (λ (p : Database × Reply). p.0) (ok_same (new, reply.Done (length rows)) (last, answer) h) in
        record {
          table = t;
          rows = rows;
          found = table_found db name t e;
          read = rows_read (load short t.schema limits bytes) rows f;
          put = all_put limits db name rows last (g ∙ ap Ok same);
        }

    by_rows : (t : PlainTable) → table_in db name ≡ Ok t → (r : Result Rows Refused) → csv_rows short limits t.schema bytes ≡ r
        → (r >>= λ rows. with_rows limits db name rows >>= λ new. Ok (counted new rows)) ≡ Ok (last, answer) → Loaded short limits db name bytes last
    by_rows t e (Err w) f h = let none : ⊥ = cc in absurd none
    by_rows t e (Ok rows) f h = by_new t e rows f (with_rows limits db name rows) refl h

    by : (r : Result PlainTable Refused) → table_in db name ≡ r
        → (r >>= λ table. csv_rows short limits table.schema bytes >>= λ rows. with_rows limits db name rows >>= λ new. Ok (counted new rows)) ≡ Ok (last, answer) → Loaded short limits db name bytes last
    by (Err w) e h = let none : ⊥ = cc in absurd none
    by (Ok t) e h = by_rows t e (csv_rows short limits t.schema bytes) refl h

same_table : (db : Database) (name : Bytes) (u v : PlainTable) → table_at db name ≡ Some u → table_at db name ≡ Some v → u ≡ v
same_table db name u v e f = same_Some u v (sym e ∙ f)

-- the last table of a database has the rows of one file more
record LoadedLast (short : Short) (limits : Bounds) (before : Database) (name : Bytes) (t : PlainTable) (bytes : Bytes) (new : Database) : Type 0 where
  rows : Rows
  read : load short t.schema limits bytes ≡ Ok rows
  same : SameTables (before ++ (name, record t { rows = put_all t.schema.key t.rows rows }) ∷ []) new

abbrev with_more : PlainTable → Rows → PlainTable
with_more t rows = record t { rows = put_all t.schema.key t.rows rows }

loaded_last : (short : Short) (limits : Bounds) (before db new : Database) (name bytes : Bytes) (t : PlainTable) → table_at before name ≡ None → IsTrue (keys_differ t.schema.key t.rows) → SameTables (before ++ (name, t) ∷ []) db
    → HasLoadedFile short limits db name bytes new → LoadedLast short limits before name t bytes new
loaded_last short limits before db new name bytes t none keyed same h = from (loaded short limits db name bytes h.done.last (reply.Done h.count) h.done.done)
  where
    here : FoundSame t db name
    here = found_same (before ++ (name, t) ∷ []) db name t same (is_finite_map.added before name t none)

    alike : (rows : Rows) → AlikeTables (with_more t rows) (with_more here.table rows)
    alike rows = record {
      schema = here.schema;
      rows = subst (λ (g : PlainSchema). IsPermutation (put_all t.schema.key t.rows rows) (put_all g.key here.table.rows rows)) here.schema (put_all-same_rows t.schema.key t.rows here.table.rows rows keyed here.rows);
      keyed = keys_differ-put_all t.schema.key t.rows rows keyed;
    }

    moved : (rows : Rows) → SameTables (before ++ (name, with_more t rows) ∷ []) (with_table db name (with_more here.table rows))
    moved rows =
        subst (λ (d : Database). SameTables d (with_table db name (with_more here.table rows))) (with_last before name t (with_more t rows) none)
        (changed_alike (before ++ (name, t) ∷ []) db name (with_more t rows) (with_more here.table rows) same (alike rows))

    from : Loaded short limits db name bytes h.done.last → LoadedLast short limits before name t bytes new
    from l =
        let first = same_table db name here.table l.table here.found l.found in
        let second = same_table db name here.table l.put.table here.found l.put.found in
        let last : with_table db name (with_more here.table l.rows) ≡ h.done.last = ap (λ (u : PlainTable). with_table db name (with_more u l.rows)) second ∙ l.put.changed in
        record {
          rows = l.rows;
          read = ap (λ (g : PlainSchema). load short g limits bytes) (here.schema ∙ ap (λ (u : PlainTable). u.schema) first) ∙ l.read;
          same = tables_trans (before ++ (name, with_more t l.rows) ∷ []) h.done.last new (subst (SameTables (before ++ (name, with_more t l.rows) ∷ [])) last (moved l.rows)) h.done.same;
        }

-- ---- the rows of files

pub keyed_rows : (short : Short) (limits : Bounds) (files : List Bytes) (t : PlainTable) → HasRowsOf short limits files t → IsTrue (keys_differ t.schema.key t.rows)
keyed_rows short limits files t h =
    let key = t.schema.key in
    keys_differ-permutation key (put_all key [] (flat_map (λ rows. rows) h.parts)) t.rows h.put (keys_differ-put_all key [] (flat_map (λ rows. rows) h.parts) (no_rows_differ key))

pub no_files : (short : Short) (limits : Bounds) (t : PlainTable) → t.rows ≡ [] → HasRowsOf short limits [] t
no_files short limits t none = record { parts = []; read = refl; put = subst (λ (rows : Rows). IsPermutation [] rows) (sym none) (IsPermutation-refl []) }

one_file_more : (short : Short) (limits : Bounds) (files : List Bytes) (file : Bytes) (t : PlainTable) (rows : Rows) → HasRowsOf short limits files t → load short t.schema limits file ≡ Ok rows
    → HasRowsOf short limits (files ++ file ∷ []) (record t { rows = put_all t.schema.key t.rows rows })
one_file_more short limits files file t rows h read = record {
  parts = h.parts ++ rows ∷ [];
  read = map-append (load short t.schema limits) files (file ∷ []) ∙ rw (h.read, read) (sym (map-append Ok h.parts (rows ∷ [])));
  put = subst (λ (all : Rows). IsPermutation all (put_all key t.rows rows)) (sym whole) (put_all-same_rows key (put_all key [] flat) t.rows rows (keys_differ-put_all key [] flat (no_rows_differ key)) h.put);
}
  where
    key : List ℕ
    key = t.schema.key

    flat : Rows
    flat = flat_map (λ rows. rows) h.parts

    whole : put_all key [] (flat_map (λ rows. rows) (h.parts ++ rows ∷ [])) ≡ put_all key (put_all key [] flat) rows
    whole = ap (put_all key []) (flat_map-append (λ rows. rows) h.parts (rows ∷ []) ∙ ap (λ more. flat ++ more) (append-nil rows)) ∙ fold-append (put key) [] flat rows

-- a database with a table that has the rows of files, after a load of one file more
pub file_loaded : (short : Short) (limits : Bounds) (before db new : Database) (name bytes : Bytes) (files : List Bytes) (t : PlainTable) → table_at before name ≡ None → HasRowsOf short limits files t
    → SameTables (before ++ (name, t) ∷ []) db → HasLoadedFile short limits db name bytes new → IsWith before name (λ u. (u.schema ≡ t.schema) × HasRowsOf short limits (files ++ bytes ∷ []) u) new
file_loaded short limits before db new name bytes files t none h same done =
    let l = loaded_last short limits before db new name bytes t none (keyed_rows short limits files t h) same done in
    record { table = record t { rows = put_all t.schema.key t.rows l.rows }; is = (refl, one_file_more short limits files bytes t l.rows h l.read); same = l.same }

-- after an error, what holds anyway
pub on_err : {T E : Type 0} (r : Result T E) (P : Type 0) → P → OnErr r P
on_err (Ok x) P p = tt
on_err (Err e) P p = p
