-- A database is a finite map.
use Rattle.std.proofs.Common.{◌≡◌, ◌+◌, ◌<◌, ℕ, Bool, true, false, cond, not, ◌||◌, IsTrue, List, [], ◌∷◌, ◌++◌, length, map, Some, None, refl, sym, ap, ◌∙◌, arith, bytes_eq, get_or, set, zero, suc, IsSome}
use Rattle.std.specs.List.{list_any}
use Rattle.std.specs.Prelude.{remove}
use Rattle.std.proofs.lemmas.Bool.{not-true, or_parts, or_from, or_left, or_right}
use Rattle.std.proofs.lemmas.Cmp.{nat_list_eq_equiv}
use Rattle.std.proofs.lemmas.Slice.Eq.{bytes_eq-Decides}
use Rattle.gq_row.specs.Repeats.{no_repeats}
use Rattle.gq_row.specs.Tables.{PlainTable}
use Rattle.gq_table.proofs.ValidTableLemmas.{two, both}
use Rattle.gq_engine.specs.Databases.{Database, table_at, with_table, without_table, names_differ, IsFiniteMap}

pub itself : (name : List ℕ) → bytes_eq name name ≡ true
itself name = (bytes_eq-Decides name name).1 refl

-- names that are one are unlike the same names
unlike : (a b c : List ℕ) → bytes_eq a b ≡ true → bytes_eq b c ≡ false → bytes_eq a c ≡ false
unlike a b c h k = ap (λ n. bytes_eq n c) ((bytes_eq-Decides a b).0 h) ∙ k

pub changed : (db : Database) (name : List ℕ) (table : PlainTable) → table_at (with_table db name table) name ≡ Some table
changed [] name table = ap (λ b. cond b (Some table) None) (itself name)
changed (entry ∷ db) name table = here (bytes_eq entry.0 name) refl (changed db name table)
  where
    here : (b : Bool) → bytes_eq entry.0 name ≡ b → table_at (with_table db name table) name ≡ Some table → table_at (cond b ((entry.0, table) ∷ db) (entry ∷ with_table db name table)) name ≡ Some table
    here true e h = ap (λ b. cond b (Some table) (table_at db name)) e
    here false e h = ap (λ b. cond b (Some entry.1) (table_at (with_table db name table) name)) e ∙ h

others : (db : Database) (name other : List ℕ) (table : PlainTable) → bytes_eq name other ≡ false → table_at (with_table db name table) other ≡ table_at db other
others [] name other table d = ap (λ b. cond b (Some table) None) d
others (entry ∷ db) name other table d = here (bytes_eq entry.0 name) refl (others db name other table d)
  where
    here : (b : Bool) → bytes_eq entry.0 name ≡ b → table_at (with_table db name table) other ≡ table_at db other
        → table_at (cond b ((entry.0, table) ∷ db) (entry ∷ with_table db name table)) other ≡ cond (bytes_eq entry.0 other) (Some entry.1) (table_at db other)
    here true e h = ap (λ b. cond b (Some table) (table_at db other)) (unlike entry.0 name other e d) ∙ sym (ap (λ b. cond b (Some entry.1) (table_at db other)) (unlike entry.0 name other e d))
    here false e h = ap (λ t. cond (bytes_eq entry.0 other) (Some entry.1) t) h

added : (db : Database) (name : List ℕ) (table : PlainTable) → table_at db name ≡ None → table_at (db ++ (name, table) ∷ []) name ≡ Some table
added [] name table none = ap (λ b. cond b (Some table) None) (itself name)
added (entry ∷ db) name table none = here (bytes_eq entry.0 name) refl (added db name table)
  where
    here : (b : Bool) → bytes_eq entry.0 name ≡ b → (table_at db name ≡ None → table_at (db ++ (name, table) ∷ []) name ≡ Some table) → cond (bytes_eq entry.0 name) (Some entry.1) (table_at (db ++ (name, table) ∷ []) name) ≡ Some table
    here true e h = let no : ⊥ = cc (sym (ap (λ b. cond b (Some entry.1) (table_at db name)) e) ∙ none) in absurd no
    here false e h = ap (λ b. cond b (Some entry.1) (table_at (db ++ (name, table) ∷ []) name)) e ∙ h (sym (ap (λ b. cond b (Some entry.1) (table_at db name)) e) ∙ none)

kept : (db : Database) (name other : List ℕ) (table : PlainTable) → bytes_eq name other ≡ false → table_at (db ++ (name, table) ∷ []) other ≡ table_at db other
kept [] name other table d = ap (λ b. cond b (Some table) None) d
kept (entry ∷ db) name other table d = ap (λ t. cond (bytes_eq entry.0 other) (Some entry.1) t) (kept db name other table d)

-- the names of a database
abbrev names : Database → List (List ℕ)
names db = map (λ (entry : List ℕ × PlainTable). entry.0) db

any_changed : (db : Database) (name other : List ℕ) (table : PlainTable) → bytes_eq other name ≡ false → list_any (bytes_eq other) (names (with_table db name table)) ≡ list_any (bytes_eq other) (names db)
any_changed [] name other table d = ap (λ b. b || false) d
any_changed (entry ∷ db) name other table d = here (bytes_eq entry.0 name) (any_changed db name other table d)
  where
    here : (b : Bool) → list_any (bytes_eq other) (names (with_table db name table)) ≡ list_any (bytes_eq other) (names db)
        → list_any (bytes_eq other) (names (cond b ((entry.0, table) ∷ db) (entry ∷ with_table db name table))) ≡ (bytes_eq other entry.0 || list_any (bytes_eq other) (names db))
    here true h = refl
    here false h = ap (λ b. bytes_eq other entry.0 || b) h

any_added : (db : Database) (name other : List ℕ) (table : PlainTable) → bytes_eq other name ≡ false → list_any (bytes_eq other) (names (db ++ (name, table) ∷ [])) ≡ list_any (bytes_eq other) (names db)
any_added [] name other table d = ap (λ b. b || false) d
any_added (entry ∷ db) name other table d = ap (λ b. bytes_eq other entry.0 || b) (any_added db name other table d)

pub differ : (db : Database) (name : List ℕ) (table : PlainTable) → IsTrue (names_differ db) → IsTrue (names_differ (with_table db name table))
differ [] name table h = refl
differ (entry ∷ db) name table h = here (bytes_eq entry.0 name) refl (differ db name table (two (not (list_any (bytes_eq entry.0) (names db))) (names_differ db) h).1)
  where
    here : (b : Bool) → bytes_eq entry.0 name ≡ b → names_differ (with_table db name table) ≡ true → names_differ (cond b ((entry.0, table) ∷ db) (entry ∷ with_table db name table)) ≡ true
    here true e rest = h
    here false e rest = both (not (list_any (bytes_eq entry.0) (names (with_table db name table)))) (names_differ (with_table db name table))
        (ap not (any_changed db name entry.0 table e) ∙ (two (not (list_any (bytes_eq entry.0) (names db))) (names_differ db) h).0) rest

-- a name that is not found is not the first's
not_first : (entry : List ℕ × PlainTable) (db : Database) (name : List ℕ) → table_at (entry ∷ db) name ≡ None → (bytes_eq entry.0 name ≡ false) × (table_at db name ≡ None)
not_first entry db name h = here (bytes_eq entry.0 name) refl
  where
    here : (b : Bool) → bytes_eq entry.0 name ≡ b → (bytes_eq entry.0 name ≡ false) × (table_at db name ≡ None)
    here true e = let no : ⊥ = cc (sym (ap (λ b. cond b (Some entry.1) (table_at db name)) e) ∙ h) in absurd no
    here false e = (e, sym (ap (λ b. cond b (Some entry.1) (table_at db name)) e) ∙ h)

pub still_differ : (db : Database) (name : List ℕ) (table : PlainTable) → table_at db name ≡ None → IsTrue (names_differ db) → IsTrue (names_differ (db ++ (name, table) ∷ []))
still_differ [] name table none h = refl
still_differ (entry ∷ db) name table none h =
    let other = not_first entry db name none in
    let rest = two (not (list_any (bytes_eq entry.0) (names db))) (names_differ db) h in
    both (not (list_any (bytes_eq entry.0) (names (db ++ (name, table) ∷ [])))) (names_differ (db ++ (name, table) ∷ []))
    (ap not (any_added db name entry.0 table other.0) ∙ rest.0) (still_differ db name table other.1 rest.1)

names_set : (db : Database) (i : ℕ) (entry : List ℕ × PlainTable) (table : PlainTable) → entry ≡ get_or db i entry → names (set db i (entry.0, table)) ≡ names db
names_set [] i entry table is = refl
names_set (first ∷ db) zero entry table is = ap (λ (e : List ℕ × PlainTable). e.0 ∷ names db) is
names_set (first ∷ db) (suc i) entry table is = ap (λ l. first.0 ∷ l) (names_set db i entry table is)

-- another table at a place changes no name
pub differ_set : (db : Database) (i : ℕ) (entry : List ℕ × PlainTable) (table : PlainTable) → entry ≡ get_or db i entry → IsTrue (names_differ db) → IsTrue (names_differ (set db i (entry.0, table)))
differ_set db i entry table is h = ap (no_repeats bytes_eq) (names_set db i entry table is) ∙ h

-- ---- without a table

gone : (db : Database) (name : List ℕ) → table_at (without_table db name) name ≡ None
gone [] name = refl
gone (entry ∷ db) name = here (bytes_eq entry.0 name) refl (gone db name)
  where
    here : (b : Bool) → bytes_eq entry.0 name ≡ b → table_at (without_table db name) name ≡ None → table_at (cond (not b) (entry ∷ without_table db name) (without_table db name)) name ≡ None
    here true e h = h
    here false e h = ap (λ b. cond b (Some entry.1) (table_at (without_table db name) name)) e ∙ h

stay : (db : Database) (name other : List ℕ) → bytes_eq name other ≡ false → table_at (without_table db name) other ≡ table_at db other
stay [] name other d = refl
stay (entry ∷ db) name other d = here (bytes_eq entry.0 name) refl (stay db name other d)
  where
    here : (b : Bool) → bytes_eq entry.0 name ≡ b → table_at (without_table db name) other ≡ table_at db other
        → table_at (cond (not b) (entry ∷ without_table db name) (without_table db name)) other ≡ cond (bytes_eq entry.0 other) (Some entry.1) (table_at db other)
    here true e h = h ∙ sym (ap (λ b. cond b (Some entry.1) (table_at db other)) (unlike entry.0 name other e d))
    here false e h = ap (λ t. cond (bytes_eq entry.0 other) (Some entry.1) t) h

-- a name that none has
pub none_without : (db : Database) (name : List ℕ) → list_any (bytes_eq name) (names db) ≡ false → without_table db name ≡ db
none_without [] name h = refl
none_without (entry ∷ db) name h =
    let parts = or_parts (bytes_eq name entry.0) (list_any (bytes_eq name) (names db)) h in
    ap (λ b. cond (not b) (entry ∷ without_table db name) (without_table db name)) ((nat_list_eq_equiv).symm entry.0 name ∙ parts.0)
    ∙ ap (λ l. entry ∷ l) (none_without db name parts.1)

-- the first has the name, and so no other has it
without_first : (entry : List ℕ × PlainTable) (db : Database) (name : List ℕ) → bytes_eq entry.0 name ≡ true → IsTrue (names_differ (entry ∷ db)) → without_table (entry ∷ db) name ≡ db
without_first entry db name e h =
    let differ = two (not (list_any (bytes_eq entry.0) (names db))) (names_differ db) h in
    let none : list_any (bytes_eq name) (names db) ≡ false = ap (λ n. list_any (bytes_eq n) (names db)) (sym ((bytes_eq-Decides entry.0 name).0 e)) ∙ not-true _ differ.0 in
    ap (λ b. cond (not b) (entry ∷ without_table db name) (without_table db name)) e ∙ none_without db name none

fewer : (db : Database) (name : List ℕ) → IsTrue (names_differ db) → IsSome (table_at db name) → length (without_table db name) + 1 ≡ length db
fewer [] name differ found = let none : ⊥ = cc in absurd none
fewer (entry ∷ db) name differ found =
    here (bytes_eq entry.0 name) refl differ found (fewer db name (two (not (list_any (bytes_eq entry.0) (names db))) (names_differ db) differ).1)
  where
    here : (b : Bool) → bytes_eq entry.0 name ≡ b → IsTrue (names_differ (entry ∷ db)) → IsSome (cond b (Some entry.1) (table_at db name)) → (IsSome (table_at db name) → length (without_table db name) + 1 ≡ length db)
        → length (without_table (entry ∷ db) name) + 1 ≡ length (entry ∷ db)
    here true e differ found rest =
        let whole : length (without_table (entry ∷ db) name) ≡ length db = ap (λ (l : Database). length l) (without_first entry db name e differ) in
        omega arith
    here false e differ found rest =
        let more : length (without_table (entry ∷ db) name) ≡ length (entry ∷ without_table db name) = ap (λ b. length (cond (not b) (entry ∷ without_table db name) (without_table db name))) e in
        let less = rest found in
        omega arith

any_without : (db : Database) (name other : List ℕ) → list_any (bytes_eq other) (names db) ≡ false → list_any (bytes_eq other) (names (without_table db name)) ≡ false
any_without [] name other h = refl
any_without (entry ∷ db) name other h =
    let parts = or_parts (bytes_eq other entry.0) (list_any (bytes_eq other) (names db)) h in
    here (bytes_eq entry.0 name) parts.0 (any_without db name other parts.1)
  where
    here : (b : Bool) → bytes_eq other entry.0 ≡ false → list_any (bytes_eq other) (names (without_table db name)) ≡ false
        → list_any (bytes_eq other) (names (cond (not b) (entry ∷ without_table db name) (without_table db name))) ≡ false
    here true first rest = rest
    here false first rest = or_from (bytes_eq other entry.0) (list_any (bytes_eq other) (names (without_table db name))) first rest

pub differ_without : (db : Database) (name : List ℕ) → IsTrue (names_differ db) → IsTrue (names_differ (without_table db name))
differ_without [] name h = refl
differ_without (entry ∷ db) name h =
    let parts = two (not (list_any (bytes_eq entry.0) (names db))) (names_differ db) h in
    here (bytes_eq entry.0 name) (not-true _ parts.0) (differ_without db name parts.1)
  where
    here : (b : Bool) → list_any (bytes_eq entry.0) (names db) ≡ false → names_differ (without_table db name) ≡ true → names_differ (cond (not b) (entry ∷ without_table db name) (without_table db name)) ≡ true
    here true none rest = rest
    here false none rest = both (not (list_any (bytes_eq entry.0) (names (without_table db name)))) (names_differ (without_table db name)) (ap not (any_without db name entry.0 none)) rest

-- a name at a place
at_place : (name : List ℕ) (db : Database) (i : ℕ) (entry : List ℕ × PlainTable) → i < length db → entry ≡ get_or db i entry → bytes_eq name entry.0 ≡ true → list_any (bytes_eq name) (names db) ≡ true
at_place name [] i entry lt is e = absurd (omega arith)
at_place name (first ∷ db) zero entry lt is e = or_left (bytes_eq name first.0) (list_any (bytes_eq name) (names db)) (ap (λ (x : List ℕ × PlainTable). bytes_eq name x.0) (sym is) ∙ e)
at_place name (first ∷ db) (suc i) entry lt is e = or_right (bytes_eq name first.0) (list_any (bytes_eq name) (names db)) (at_place name db i entry (omega arith) is e)

-- without the table at a place
pub without_at : (db : Database) (name : List ℕ) (i : ℕ) (entry : List ℕ × PlainTable) → i < length db → entry ≡ get_or db i entry → bytes_eq entry.0 name ≡ true → IsTrue (names_differ db)
    → without_table db name ≡ remove db i
without_at [] name i entry lt is e differ = absurd (omega arith)
without_at (first ∷ db) name zero entry lt is e differ = without_first first db name (ap (λ (x : List ℕ × PlainTable). bytes_eq x.0 name) (sym is) ∙ e) differ
without_at (first ∷ db) name (suc i) entry lt is e differ =
    let parts = two (not (list_any (bytes_eq first.0) (names db))) (names_differ db) differ in
    here (bytes_eq first.0 name) refl (not-true _ parts.0) (without_at db name i entry (omega arith) is e parts.1)
  where
    here : (b : Bool) → bytes_eq first.0 name ≡ b → list_any (bytes_eq first.0) (names db) ≡ false → without_table db name ≡ remove db i → cond (not b) (first ∷ without_table db name) (without_table db name) ≡ first ∷ remove db i
    here true h none rest =
        let there : list_any (bytes_eq first.0) (names db) ≡ true = at_place first.0 db i entry (omega arith) is (ap (λ n. bytes_eq n entry.0) ((bytes_eq-Decides first.0 name).0 h) ∙ (nat_list_eq_equiv).symm name entry.0 ∙ e) in
        let no : ⊥ = cc (sym there ∙ none) in absurd no
    here false h none rest = ap (λ l. first ∷ l) rest

pub is_finite_map : IsFiniteMap
is_finite_map = record { changed = changed; others = others; added = added; kept = kept; gone = gone; stay = stay; fewer = fewer; differ = differ; still_differ = still_differ; differ_without = differ_without }
