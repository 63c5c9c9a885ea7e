-- Databases that are made table by table.
use Rattle.std.proofs.Common.{◌≡◌, ◌∙◌, ◌+◌, ◌<◌, ℕ, zero, suc, Bool, true, false, cond, not, List, [], ◌∷◌, ◌++◌, length, map, filter, take, get_or, Some, None, All, IsPermutation, refl, sym, ap, subst, arith}
use Rattle.std.specs.Prelude.{◌||◌, bytes_eq}
use Rattle.std.specs.List.{list_any}
use Rattle.std.proofs.lemmas.Bool.{true≢false}
use Rattle.std.proofs.lemmas.List.{map-append, take_more}
use Rattle.std.proofs.lemmas.List.Sorted.{IsPermutation-trans}
use Rattle.gq_row.specs.declared.limits.Bounds.{Bounds}
use Rattle.gq_row.specs.Schemas.{PlainSchema}
use Rattle.gq_row.specs.Repeats.{without_repeats}
use Rattle.gq_row.specs.Tables.{PlainTable}
use Rattle.gq_row.proofs.DistinctLemmas.{one_more, without_repeats-push}
use Rattle.gq_load.specs.declared.short_records.Short.{Short}
use Rattle.gq_command.specs.Commands.{Bytes}
use Rattle.gq_engine.specs.Databases.{Database, table_at}
use Rattle.gq_engine.specs.Runs.{SameTables}
use Rattle.gq_infer.specs.declared.word.TableWord.{TableWord}
use Rattle.gq_tables.specs.Made.{AreTablesOf, HasSchema, HasRowsOf, IsTableOf, files_of, of_name}
use Rattle.gq_tables.specs.Steps.{IsWith, MadeUpTo}

-- ---- names

abbrev names_in : List TableWord → List Bytes
names_in words = map (λ (word : TableWord). word.name) words

abbrev tables_in : Database → List Bytes
tables_in db = map (λ (entry : Bytes × PlainTable). entry.0) db

none_filtered : (p q : Bytes → Bool) (xs : List Bytes) → list_any p xs ≡ false → list_any p (filter q xs) ≡ false
none_filtered p q [] h = refl
none_filtered p q (x ∷ xs) h = by (p x) refl (q x) h (none_filtered p q xs)
  where
    by : (b : Bool) → p x ≡ b → (c : Bool) → b || (list_any p xs) ≡ false → (list_any p xs ≡ false → list_any p (filter q xs) ≡ false) → list_any p (cond c (x ∷ filter q xs) (filter q xs)) ≡ false
    by true e c h again = absurd (true≢false h)
    by false e true h again = rw e (again h)
    by false e false h again = again h

none_kept : (p : Bytes → Bool) (xs : List Bytes) → list_any p xs ≡ false → list_any p (without_repeats bytes_eq xs) ≡ false
none_kept p [] h = refl
none_kept p (x ∷ xs) h = by (p x) refl h (none_kept p xs)
  where
    by : (b : Bool) → p x ≡ b → b || (list_any p xs) ≡ false → (list_any p xs ≡ false → list_any p (without_repeats bytes_eq xs) ≡ false)
        → p x || (list_any p (filter (λ other. not (bytes_eq x other)) (without_repeats bytes_eq xs))) ≡ false
    by true e h again = absurd (true≢false h)
    by false e h again = rw e (none_filtered p (λ other. not (bytes_eq x other)) (without_repeats bytes_eq xs) (again h))

none_there : (db : Database) (name : Bytes) → list_any (λ n. bytes_eq n name) (tables_in db) ≡ false → table_at db name ≡ None
none_there [] name h = refl
none_there (entry ∷ db) name h = by (bytes_eq entry.0 name) refl h (none_there db name)
  where
    by : (b : Bool) → bytes_eq entry.0 name ≡ b → b || (list_any (λ n. bytes_eq n name) (tables_in db)) ≡ false → (list_any (λ n. bytes_eq n name) (tables_in db) ≡ false → table_at db name ≡ None)
        → cond b (Some entry.1) (table_at db name) ≡ None
    by true e h again = absurd (true≢false h)
    by false e h again = again h

any_named : (name : Bytes) (words : List TableWord) → list_any (λ n. bytes_eq n name) (names_in words) ≡ list_any (λ (word : TableWord). bytes_eq word.name name) words
any_named name [] = refl
any_named name (word ∷ words) = ap (λ b. bytes_eq word.name name || b) (any_named name words)

-- ---- tables that differ only in the order of rows

table_moved : (contents : Bytes → Bytes) (short : Short) (limits : Bounds) (words : List TableWord) (s t : PlainTable) → s.schema ≡ t.schema → IsPermutation s.rows t.rows → IsTableOf contents short limits words s → IsTableOf contents short limits words t
table_moved contents short limits [] s t e moved h = absurd h
table_moved contents short limits (first ∷ others) s t e moved h = (
  subst (HasSchema first.columns (files_of contents (first ∷ others))) e h.0,
  h.1,
  let P : PlainSchema → Type 0 = λ g. HasRowsOf short limits (files_of contents (first ∷ others)) (record { schema = g; rows = t.rows }) in
      subst P e (record { parts = h.2.parts; read = h.2.read; put = IsPermutation-trans _ _ _ h.2.put moved }),
)

module _ (contents : Bytes → Bytes) (short : Short) (limits : Bounds) (words : List TableWord) where
  abbrev IsAsked : Bytes × PlainTable → Type 0
  IsAsked entry = IsTableOf contents short limits (of_name entry.0 words) entry.1

  all_moved : (a b : Database) → SameTables a b → All IsAsked a → All IsAsked b
  all_moved [] [] same h = λ k d l. absurd (omega (arith, l))
  all_moved [] (y ∷ b) same h = absurd same
  all_moved (x ∷ a) [] same h = absurd same
  all_moved (x ∷ a) (y ∷ b) same h = λ k d l. by (all_moved a b same.3 (λ j c m. h (suc j) c (omega (arith, m)))) k d l
    where
      by : All IsAsked b → (k : ℕ) (d : Bytes × PlainTable) → k < length (y ∷ b) → IsAsked (get_or (y ∷ b) k d)
      by again zero d l =
          let first : IsTableOf contents short limits (of_name y.0 words) x.1 = subst (λ (n : Bytes). IsTableOf contents short limits (of_name n words) x.1) same.0 (h 0 x (omega arith)) in
          table_moved contents short limits (of_name y.0 words) x.1 y.1 same.1 same.2 first
      by again (suc k) d l = again k d (omega (arith, l))

  all_pushed : (db : Database) (entry : Bytes × PlainTable) → All IsAsked db → IsAsked entry → All IsAsked (db ++ entry ∷ [])
  all_pushed [] entry h one = λ k d l. by k d l
    where
      by : (k : ℕ) (d : Bytes × PlainTable) → k < 1 → IsAsked (get_or (entry ∷ []) k d)
      by zero d l = one
      by (suc k) d l = absurd (omega (arith, l))
  all_pushed (x ∷ db) entry h one = λ k d l. by (all_pushed db entry (λ j c m. h (suc j) c (omega (arith, m))) one) k d l
    where
      by : All IsAsked (db ++ entry ∷ []) → (k : ℕ) (d : Bytes × PlainTable) → k < length ((x ∷ db) ++ entry ∷ []) → IsAsked (get_or ((x ∷ db) ++ entry ∷ []) k d)
      by again zero d l = h 0 d (omega arith)
      by again (suc k) d l = again k d (omega (arith, l))

  names_moved : (a b : Database) → SameTables a b → tables_in b ≡ tables_in a
  names_moved [] [] same = refl
  names_moved [] (y ∷ b) same = absurd same
  names_moved (x ∷ a) [] same = absurd same
  names_moved (x ∷ a) (y ∷ b) same = λ i. sym same.0 i ∷ names_moved a b same.3 i

  pub made_none : (db : Database) → db ≡ [] → MadeUpTo contents short limits words 0 db
  made_none db none = record {
    names = ap tables_in none;
    tables = let P : Database → Type 0 = λ d. All IsAsked d in subst P (sym none) (λ k d l. absurd (omega (arith, l)));
  }

  pub made_all : (at : ℕ) (db : Database) → take at words ≡ words → MadeUpTo contents short limits words at db → AreTablesOf contents short limits words db
  made_all at db whole h = record { names = h.names ∙ ap (λ ws. without_repeats bytes_eq (names_in ws)) whole; tables = h.tables }

  named_more : (at : ℕ) (d : TableWord) → at < length words → names_in (take (at + 1) words) ≡ names_in (take at words) ++ (get_or words at d).name ∷ []
  named_more at d l = ap names_in (take_more words at d l) ∙ map-append (λ (word : TableWord). word.name) (take at words) (get_or words at d ∷ [])

  kept_more : (at : ℕ) (d : TableWord) (b : Bool) → at < length words → list_any (λ (word : TableWord). bytes_eq word.name (get_or words at d).name) (take at words) ≡ b
      → without_repeats bytes_eq (names_in (take (at + 1) words)) ≡ one_more b (without_repeats bytes_eq (names_in (take at words))) (get_or words at d).name
  kept_more at d b l there =
      ap (without_repeats bytes_eq) (named_more at d l) ∙ without_repeats-push bytes_eq (names_in (take at words)) (get_or words at d).name
      ∙ ap (λ c. one_more c (without_repeats bytes_eq (names_in (take at words))) (get_or words at d).name) (any_named (get_or words at d).name (take at words) ∙ there)

  -- a name that was there before
  pub made_same : (at : ℕ) (d : TableWord) (db : Database) → at < length words → list_any (λ (word : TableWord). bytes_eq word.name (get_or words at d).name) (take at words) ≡ true → MadeUpTo contents short limits words at db → MadeUpTo contents short limits words (at + 1) db
  made_same at d db l there h = record { names = h.names ∙ sym (kept_more at d true l there); tables = h.tables }

  pub not_made : (at : ℕ) (d : TableWord) (db : Database) → list_any (λ (word : TableWord). bytes_eq word.name (get_or words at d).name) (take at words) ≡ false → MadeUpTo contents short limits words at db → table_at db (get_or words at d).name ≡ None
  not_made at d db none h =
      none_there db (get_or words at d).name
      (ap (list_any (λ n. bytes_eq n (get_or words at d).name)) h.names ∙ none_kept (λ n. bytes_eq n (get_or words at d).name) (names_in (take at words)) (any_named (get_or words at d).name (take at words) ∙ none))

  -- and a new one
  pub made_more : (at : ℕ) (d : TableWord) (old new : Database) → at < length words → list_any (λ (word : TableWord). bytes_eq word.name (get_or words at d).name) (take at words) ≡ false → MadeUpTo contents short limits words at old
      → IsWith old (get_or words at d).name (IsTableOf contents short limits (of_name (get_or words at d).name words)) new → MadeUpTo contents short limits words (at + 1) new
  made_more at d old new l none h w =
      let name = (get_or words at d).name in
      record {
        names = names_moved (old ++ (name, w.table) ∷ []) new w.same ∙ map-append (λ (entry : Bytes × PlainTable). entry.0) old ((name, w.table) ∷ [])
            ∙ ap (λ ns. ns ++ name ∷ []) h.names ∙ sym (kept_more at d false l none);
        tables = all_moved (old ++ (name, w.table) ∷ []) new w.same (all_pushed old (name, w.table) h.tables w.is);
      }
