-- Groups in a map: one row more, and the list of all.
use Rattle.std.proofs.Common.{◌≡◌, ◌==◌, ℕ, suc, ◌+◌, ◌≤◌, Bool, true, false, cond, ◌||◌, List, [], ◌∷◌, ◌++◌, length, map, Option, Some, None, refl, sym, ap, subst, ◌∙◌, arith, count_by, IsPermutation, true≢false, append-nil, inl, inr, Result, Ok, Err}
use Rattle.std.specs.Prelude.{is_some, IsSome, OnOk, IfOk}
use Rattle.std.specs.List.{AllByRecursion, list_any, slice_get}
use Rattle.std.specs.Cmp.Lexicographic.{nat_list_cmp_total}
use Rattle.std.specs.FinMap.{insert, get, len, contains_key, empty, get-empty, get-insert, len-empty, len-insert}
use Rattle.std.proofs.lemmas.Bool.{cases_lt, or_parts, or_from}
use Rattle.std.proofs.lemmas.List.Folds.{list_any-append}
use Rattle.std.proofs.lemmas.List.{map-append, nil_from_length}
use Rattle.std.proofs.lemmas.Bool.Decides.{nat_tests}
use Rattle.std.proofs.lemmas.List.Sums.{sum_by-cons}
use Rattle.sw_table.specs.Entries.{Entries}
use Rattle.sw_flat.specs.Maps.{ListsAll}
use Rattle.sw_flat.proofs.Classes.{same, same_is, same_itself, some_is}
use Rattle.gq_row.specs.declared.value.Value.{Value}
use Rattle.gq_row.specs.Classes.{class_of}
use Rattle.gq_row.specs.Order.{same_key}
use Rattle.gq_row.specs.Repeats.{no_repeats}
use Rattle.gq_row.specs.Rows.{key_of}
use Rattle.gq_row.specs.Tables.{of_key}
use Rattle.gq_row.proofs.ClassLemmas.{class_tells, told_class}
use Rattle.gq_row.proofs.DistinctLemmas.{one, counted_none, none_counted, no_repeats-without, any_without_repeats, at_most_once}
use Rattle.gq_row.proofs.MovedLemmas.{IsPermutation-from_counts}
use Rattle.gq_row.proofs.OrderLemmas.{same_key_exact, same_key_itself, same_key_equiv}
use Rattle.gq_row.proofs.TableLemmas.{of_key-push}
use Rattle.gq_agg.specs.Running.{Running}
use Rattle.gq_group.specs.Entries.{Pair, listed, tallies, group_at, Grouped, AreTallied}
use Rattle.gq_group.specs.Groups.{Spec, keys_of}

-- ---- keys, with one row more

or_both : (a b : Bool) → (a || b) ≡ ((a || false) || b)
or_both true b = refl
or_both false b = refl

or_twice : (a : Bool) → (a || false) ≡ ((a || false) || a)
or_twice true = refl
or_twice false = refl

or_none : (b : Bool) → (b || false) ≡ b
or_none true = refl
or_none false = refl

or_true : (b : Bool) → (b || true) ≡ true
or_true true = refl
or_true false = refl

pub has_key-push : (by : List ℕ) (rows : List (List Value)) (row k : List Value) → list_any (same_key k) (keys_of by (rows ++ row ∷ [])) ≡ (list_any (same_key k) (keys_of by rows) || same_key k (key_of by row))
has_key-push [] rows row k = or_twice (same_key k [])
has_key-push (c ∷ cs) rows row k =
    any_without_repeats same_key_equiv k (map (key_of (c ∷ cs)) (rows ++ row ∷ []))
    ∙ ap (list_any (same_key k)) (map-append (key_of (c ∷ cs)) rows (row ∷ []))
    ∙ list_any-append (same_key k) (map (key_of (c ∷ cs)) rows) (key_of (c ∷ cs) row ∷ [])
    ∙ ap (λ b. list_any (same_key k) (map (key_of (c ∷ cs)) rows) || b) (or_none (same_key k (key_of (c ∷ cs) row)))
    ∙ ap (λ b. b || same_key k (key_of (c ∷ cs) row)) (sym (any_without_repeats same_key_equiv k (map (key_of (c ∷ cs)) rows)))

-- a key that no row has has no rows
none_of_key : (by : List ℕ) (rows : List (List Value)) (k : List Value) → list_any (same_key k) (map (key_of by) rows) ≡ false → of_key by rows k ≡ []
none_of_key by [] k none = refl
none_of_key by (row ∷ rows) k none =
    let parts = or_parts (same_key k (key_of by row)) (list_any (same_key k) (map (key_of by) rows)) none in
    ap (λ b. cond b (row ∷ of_key by rows k) (of_key by rows k)) ((same_key_equiv).symm (key_of by row) k ∙ parts.0) ∙ none_of_key by rows k parts.1

pub no_rows : (by : List ℕ) (rows : List (List Value)) (k : List Value) → list_any (same_key k) (keys_of by rows) ≡ false → (list_any (same_key k) (map (key_of by) rows) ≡ false → ⊥) → ⊥
no_rows [] rows k none some = some (empty_keys rows none)
  where
    empty_keys : (rs : List (List Value)) → (same_key k [] || false) ≡ false → list_any (same_key k) (map (key_of []) rs) ≡ false
    empty_keys [] h = refl
    empty_keys (r ∷ rs) h = or_from (same_key k []) (list_any (same_key k) (map (key_of []) rs)) (sym (or_none (same_key k [])) ∙ h) (empty_keys rs h)
no_rows (c ∷ cs) rows k none some = some (sym (any_without_repeats same_key_equiv k (map (key_of (c ∷ cs)) rows)) ∙ none)

bool_cases : (b : Bool) → (b ≡ false → ⊥) → b ≡ true
bool_cases true h = refl
bool_cases false h = absurd (h refl)

pub no_rows_of : (by : List ℕ) (rows : List (List Value)) (k : List Value) → list_any (same_key k) (keys_of by rows) ≡ false → of_key by rows k ≡ []
no_rows_of by rows k none = told (list_any (same_key k) (map (key_of by) rows)) refl
  where
    told : (b : Bool) → list_any (same_key k) (map (key_of by) rows) ≡ b → of_key by rows k ≡ []
    told true e = absurd (no_rows by rows k none (λ f. true≢false (sym e ∙ f)))
    told false e = none_of_key by rows k e

-- ---- the map, with one row more

pub classes_same : (a b : List Value) → same (class_of a) (class_of b) ≡ same_key a b
classes_same a b = told_class (same (class_of a) (class_of b)) a b (λ h. same_is (class_of a) (class_of b) h, λ e. same_itself (class_of a) (class_of b) e)

pub grouped-step : (spec : Spec) (rows : List (List Value)) (row : List Value) (old new : List Pair) → Grouped spec rows old
    → listed new ≡ insert (listed old) (class_of (key_of spec.by row)) (key_of spec.by row, tallies spec.aggs (of_key spec.by rows (key_of spec.by row) ++ row ∷ []))
    → Grouped spec (rows ++ row ∷ []) new
grouped-step spec rows row old new grouped put k =
    let mine : List Value = key_of spec.by row in
    ap (λ (m : Entries (List Value) (List Running)). get m (class_of k)) put
    ∙ get-insert nat_list_cmp_total (listed old) (class_of mine) (mine, tallies spec.aggs (of_key spec.by rows mine ++ row ∷ [])) (class_of k)
    ∙ told (same_key k mine) refl
  where
    told : (b : Bool) → same_key k (key_of spec.by row) ≡ b
        → cond (same (class_of k) (class_of (key_of spec.by row))) (Some (key_of spec.by row, tallies spec.aggs (of_key spec.by rows (key_of spec.by row) ++ row ∷ []))) (get (listed old) (class_of k))
        ≡ group_at spec (rows ++ row ∷ []) k
    told true e =
        let mine : List Value = key_of spec.by row in
        let is : k ≡ mine = same_key_exact k mine e in
        let there : list_any (same_key k) (keys_of spec.by (rows ++ row ∷ [])) ≡ true = has_key-push spec.by rows row k ∙ ap (λ b. list_any (same_key k) (keys_of spec.by rows) || b) e ∙ or_true (list_any (same_key k) (keys_of spec.by rows)) in
        let its : of_key spec.by (rows ++ row ∷ []) k ≡ of_key spec.by rows mine ++ row ∷ []
        = of_key-push spec.by rows row k ∙ ap (λ b. of_key spec.by rows k ++ cond b (row ∷ []) []) ((same_key_equiv).symm mine k ∙ e) ∙ ap (λ x. of_key spec.by rows x ++ row ∷ []) is in
        ap (λ b. cond b (Some (mine, tallies spec.aggs (of_key spec.by rows mine ++ row ∷ []))) (get (listed old) (class_of k))) (same_itself (class_of k) (class_of mine) (ap class_of is))
        ∙ (λ i. Some (sym is i, tallies spec.aggs (sym its i)))
        ∙ sym (ap (λ b. cond b (Some (k, tallies spec.aggs (of_key spec.by (rows ++ row ∷ []) k))) None) there)
    told false e =
        let mine : List Value = key_of spec.by row in
        let there : list_any (same_key k) (keys_of spec.by (rows ++ row ∷ [])) ≡ list_any (same_key k) (keys_of spec.by rows) = has_key-push spec.by rows row k ∙ ap (λ b. list_any (same_key k) (keys_of spec.by rows) || b) e ∙ or_none (list_any (same_key k) (keys_of spec.by rows)) in
        let its : of_key spec.by (rows ++ row ∷ []) k ≡ of_key spec.by rows k
        = of_key-push spec.by rows row k ∙ ap (λ b. of_key spec.by rows k ++ cond b (row ∷ []) []) ((same_key_equiv).symm mine k ∙ e) ∙ append-nil (of_key spec.by rows k) in
        ap (λ b. cond b (Some (mine, tallies spec.aggs (of_key spec.by rows mine ++ row ∷ []))) (get (listed old) (class_of k))) (apart (same (class_of k) (class_of mine)) refl)
        ∙ grouped k
        ∙ (λ i. cond (sym there i) (Some (k, tallies spec.aggs (sym its i))) None)
      where
        apart : (b : Bool) → same (class_of k) (class_of (key_of spec.by row)) ≡ b → b ≡ false
        apart true f = absurd (true≢false (sym (same_key_itself k) ∙ ap (same_key k) (class_tells k (key_of spec.by row) (same_is (class_of k) (class_of (key_of spec.by row)) f)) ∙ e))
        apart false f = refl

-- the entry of a row's key
pub stands : (spec : Spec) (rows : List (List Value)) (m : List Pair) (i : ℕ) (k : List Value) → Grouped spec rows m
    → get (listed m) (class_of k) ≡ slice_get m i → IsSome (slice_get m i) → slice_get m i ≡ Some (k, tallies spec.aggs (of_key spec.by rows k))
stands spec rows m i k grouped found full = told (list_any (same_key k) (keys_of spec.by rows)) (slice_get m i) (sym (grouped k) ∙ found) full
  where
    told : (b : Bool) (o : Option Pair) → cond b (Some (k, tallies spec.aggs (of_key spec.by rows k))) None ≡ o → IsSome o → o ≡ Some (k, tallies spec.aggs (of_key spec.by rows k))
    told true o e some = sym e
    told false None e some = absurd (true≢false (sym some))
    told false (Some p) e some = let none : ⊥ = true≢false (sym (ap is_some e)) in absurd none

pub few_of_key : (by : List ℕ) (rows : List (List Value)) (k : List Value) → length (of_key by rows k) ≤ length rows
few_of_key by [] k = omega arith
few_of_key by (row ∷ rows) k = kept (same_key (key_of by row) k) (few_of_key by rows k)
  where
    kept : (b : Bool) → length (of_key by rows k) ≤ length rows → length (cond b (row ∷ of_key by rows k) (of_key by rows k)) ≤ length (row ∷ rows)
    kept true h = omega arith
    kept false h = omega arith

-- a row whose key is not there
pub grouped-vacant : (spec : Spec) (rows : List (List Value)) (row : List Value) (old new : List Pair) → Grouped spec rows old
    → get (listed old) (class_of (key_of spec.by row)) ≡ None
    → listed new ≡ insert (listed old) (class_of (key_of spec.by row)) (key_of spec.by row, tallies spec.aggs (row ∷ []))
    → Grouped spec (rows ++ row ∷ []) new
grouped-vacant spec rows row old new grouped absent put =
    let mine : List Value = key_of spec.by row in
    let none : of_key spec.by rows mine ≡ [] = no_rows_of spec.by rows mine (told (list_any (same_key mine) (keys_of spec.by rows)) (sym (grouped mine) ∙ absent)) in
    grouped-step spec rows row old new grouped (put ∙ ap (λ l. insert (listed old) (class_of mine) (mine, tallies spec.aggs (l ++ row ∷ []))) (sym none))
  where
    told : (b : Bool) → cond {A = Option Pair} b (Some (key_of spec.by row, tallies spec.aggs (of_key spec.by rows (key_of spec.by row)))) None ≡ None → b ≡ false
    told true e = absurd (true≢false (ap is_some e))
    told false e = refl

-- ---- the start

abbrev pub nothing : Entries (List Value) (List Running)
nothing = empty

no_keys : (by : List ℕ) → (length by == 0) ≡ false → keys_of by [] ≡ []
no_keys [] h = absurd (true≢false h)
no_keys (c ∷ cs) h = refl

pub grouped-start : (spec : Spec) (m : List Pair) → (length spec.by == 0) ≡ false → listed m ≡ nothing → Grouped spec [] m
grouped-start spec m some none k =
    ap (λ (e : Entries (List Value) (List Running)). get e (class_of k)) none ∙ get-empty _ (class_of k)
    ∙ sym (ap (λ l. cond {A = Option Pair} (list_any (same_key k) l) (Some (k, tallies spec.aggs (of_key spec.by [] k))) None) (no_keys spec.by some))

zero_length : (n : ℕ) → (n == 0) ≡ true → n ≡ 0
zero_length n h = grind (arith, nat_tests)

alone_at : (value : List Running) (k : List Value) (b : Bool) → same_key k [] ≡ b
    → cond {A = Option Pair} (same (class_of k) (class_of [])) (Some ([], value)) (get nothing (class_of k)) ≡ cond {A = Option Pair} (b || false) (Some (k, value)) None
alone_at value k true e =
    ap (λ b. cond {A = Option Pair} b (Some ([], value)) (get nothing (class_of k))) (same_itself (class_of k) (class_of []) (ap class_of (same_key_exact k [] e)))
    ∙ ap (λ x. Some (x, value)) (sym (same_key_exact k [] e))
alone_at value k false e =
    ap (λ b. cond {A = Option Pair} b (Some ([], value)) (get nothing (class_of k))) (apart (same (class_of k) (class_of [])) refl)
    ∙ get-empty _ (class_of k)
  where
    apart : (b : Bool) → same (class_of k) (class_of []) ≡ b → b ≡ false
    apart true f = absurd (true≢false (sym (same_key_itself k) ∙ ap (same_key k) (class_tells k [] (same_is (class_of k) (class_of []) f)) ∙ e))
    apart false f = refl

pub grouped-start_alone : (spec : Spec) (m : List Pair) → (length spec.by == 0) ≡ true → listed m ≡ insert nothing (class_of []) ([], tallies spec.aggs []) → Grouped spec [] m
grouped-start_alone spec m none put k =
    let by : spec.by ≡ [] = nil_from_length spec.by (zero_length (length spec.by) none) in
    ap (λ (e : Entries (List Value) (List Running)). get e (class_of k)) put
    ∙ get-insert nat_list_cmp_total nothing (class_of []) ([], tallies spec.aggs []) (class_of k)
    ∙ alone_at (tallies spec.aggs []) k (same_key k []) refl
    ∙ sym (ap (λ l. cond {A = Option Pair} (list_any (same_key k) (keys_of l [])) (Some (k, tallies spec.aggs [])) None) by)

-- ---- the entries as a list that names no class twice

len_listed : {V : Type 0} (xs : List (List Value × V)) → len (listed xs) ≤ length xs
len_listed [] = rw len-empty (omega arith)
len_listed (x ∷ xs) = bounded (contains_key (listed xs) (class_of x.0)) (len-insert nat_list_cmp_total (listed xs) (class_of x.0) x) (len_listed xs)
  where
    bounded : (b : Bool) → len (insert (listed xs) (class_of x.0) x) ≡ cond b (len (listed xs)) (len (listed xs) + 1) → len (listed xs) ≤ length xs → len (insert (listed xs) (class_of x.0) x) ≤ suc (length xs)
    bounded true e h = omega arith
    bounded false e h = omega arith

pub first_new : {V : Type 0} (x : List Value × V) (xs : List (List Value × V)) → suc (length xs) ≡ len (listed (x ∷ xs)) → (contains_key (listed xs) (class_of x.0) ≡ false) × (length xs ≡ len (listed xs))
first_new x xs h = told (contains_key (listed xs) (class_of x.0)) refl (len-insert nat_list_cmp_total (listed xs) (class_of x.0) x) (len_listed xs)
  where
    told : (b : Bool) → contains_key (listed xs) (class_of x.0) ≡ b → len (insert (listed xs) (class_of x.0) x) ≡ cond b (len (listed xs)) (len (listed xs) + 1) → len (listed xs) ≤ length xs
        → (contains_key (listed xs) (class_of x.0) ≡ false) × (length xs ≡ len (listed xs))
    told true is e most = absurd (omega arith)
    told false is e most = (is, omega arith)

-- the list has what it has without its first
pub listed_behind : {V : Type 0} (x : List Value × V) (xs : List (List Value × V)) (c : List ℕ) (p : List Value × V) → contains_key (listed xs) (class_of x.0) ≡ false → get (listed xs) c ≡ Some p → get (listed (x ∷ xs)) c ≡ Some p
listed_behind {V} x xs c p new e = get-insert nat_list_cmp_total (listed xs) (class_of x.0) x c ∙ other (same c (class_of x.0)) refl
  where
    other : (b : Bool) → same c (class_of x.0) ≡ b → cond b (Some x) (get (listed xs) c) ≡ Some p
    other true is = let none : ⊥ = true≢false (sym (ap is_some (ap (get (listed xs)) (sym (same_is c (class_of x.0) is)) ∙ e)) ∙ new) in absurd none
    other false is = e

-- and its first
pub listed_first : {V : Type 0} (x : List Value × V) (xs : List (List Value × V)) → get (listed (x ∷ xs)) (class_of x.0) ≡ Some x
listed_first x xs = get-insert nat_list_cmp_total (listed xs) (class_of x.0) x (class_of x.0) ∙ ap (λ b. cond b (Some x) (get (listed xs) (class_of x.0))) (same_itself (class_of x.0) (class_of x.0) refl)

-- how often a key occurs among those of the entries
counted : (xs : List Pair) (k : List Value) → length xs ≡ len (listed xs) → count_by (same_key k) (map (λ (p : Pair). p.0) xs) ≡ one (is_some (get (listed xs) (class_of k)))
counted [] k h = sym (ap (λ o. one (is_some o)) (get-empty _ (class_of k)))
counted (x ∷ xs) k h =
    let parts = first_new x xs h in
    sum_by-cons (λ y. one (same_key k y)) x.0 (map (λ (p : Pair). p.0) xs)
    ∙ step (same_key k x.0) refl parts.0 (counted xs k parts.1)
    ∙ sym (ap (λ o. one (is_some o)) (get-insert nat_list_cmp_total (listed xs) (class_of x.0) x (class_of k)))
  where
    step : (b : Bool) → same_key k x.0 ≡ b → contains_key (listed xs) (class_of x.0) ≡ false
        → count_by (same_key k) (map (λ (p : Pair). p.0) xs) ≡ one (is_some (get (listed xs) (class_of k)))
        → one b + count_by (same_key k) (map (λ (p : Pair). p.0) xs) ≡ one (is_some (cond (same (class_of k) (class_of x.0)) (Some x) (get (listed xs) (class_of k))))
    step true e new rest =
        let is : class_of k ≡ class_of x.0 = ap class_of (same_key_exact k x.0 e) in
        let none : count_by (same_key k) (map (λ (p : Pair). p.0) xs) ≡ 0 = rest ∙ ap (λ c. one (is_some (get (listed xs) c))) is ∙ ap one new in
        let here : one (is_some (cond (same (class_of k) (class_of x.0)) (Some x) (get (listed xs) (class_of k)))) ≡ 1 = ap (λ b. one (is_some (cond b (Some x) (get (listed xs) (class_of k))))) (same_itself (class_of k) (class_of x.0) is) in
        omega (arith, none, here)
    step false e new rest =
        let here : one (is_some (cond (same (class_of k) (class_of x.0)) (Some x) (get (listed xs) (class_of k)))) ≡ one (is_some (get (listed xs) (class_of k))) = ap (λ b. one (is_some (cond b (Some x) (get (listed xs) (class_of k))))) (apart (same (class_of k) (class_of x.0)) refl) in
        omega (arith, rest, here)
      where
        apart : (b : Bool) → same (class_of k) (class_of x.0) ≡ b → b ≡ false
        apart true f = absurd (true≢false (sym (same_key_itself k) ∙ ap (same_key k) (class_tells k x.0 (same_is (class_of k) (class_of x.0) f)) ∙ e))
        apart false f = refl

-- what the map has for keys holds of each entry
pub each_listed : {V : Type 0} (Q : List Value × V → Type 0) (xs : List (List Value × V)) → length xs ≡ len (listed xs) → ((k : List Value) (p : List Value × V) → get (listed xs) (class_of k) ≡ Some p → Q p) → AllByRecursion Q xs
each_listed Q [] h known = tt
each_listed Q (x ∷ xs) h known =
    let parts = first_new x xs h in (
      known x.0 x (listed_first x xs),
      each_listed Q xs parts.1 (λ k p e. known k p (listed_behind x xs (class_of k) p parts.0 e)),
    )

-- ---- what the list says of the groups

pub all_tallied : (spec : Spec) (rows : List (List Value)) (m : List Pair) (xs : List Pair) → Grouped spec rows m → ListsAll class_of xs (listed m) → AreTallied spec rows xs
all_tallied spec rows m xs grouped all =
    each_listed (λ (p : Pair). p.1 ≡ tallies spec.aggs (of_key spec.by rows p.0)) xs (all.once ∙ ap len (sym all.all))
    (λ k p e. told (list_any (same_key k) (keys_of spec.by rows)) p k (sym (grouped k) ∙ ap (λ (n : Entries (List Value) (List Running)). get n (class_of k)) (sym all.all) ∙ e))
  where
    told : (b : Bool) (p : Pair) (k : List Value) → cond b (Some (k, tallies spec.aggs (of_key spec.by rows k))) None ≡ Some p → p.1 ≡ tallies spec.aggs (of_key spec.by rows p.0)
    told true p k e = subst (λ (q : Pair). q.1 ≡ tallies spec.aggs (of_key spec.by rows q.0)) (some_is (k, tallies spec.aggs (of_key spec.by rows k)) p e) refl
    told false p k e = absurd (true≢false (sym (ap is_some e)))

different_keys : (by : List ℕ) (rows : List (List Value)) → no_repeats same_key (keys_of by rows) ≡ true
different_keys [] rows = refl
different_keys (c ∷ cs) rows = no_repeats-without same_key (map (key_of (c ∷ cs)) rows)

once : (ks : List (List Value)) (k : List Value) → count_by (same_key k) ks ≤ 1 → count_by (same_key k) ks ≡ one (list_any (same_key k) ks)
once ks k most = told (list_any (same_key k) ks) refl
  where
    told : (b : Bool) → list_any (same_key k) ks ≡ b → count_by (same_key k) ks ≡ one b
    told true e = elim (cases_lt 0 (count_by (same_key k) ks)) [
      | inl some ↦ omega arith
      | inr none ↦ absurd (true≢false (sym e ∙ none_counted (same_key k) ks (omega arith)))
    ]
    told false e = counted_none (same_key k) ks e

pub all_keys : (spec : Spec) (rows : List (List Value)) (m : List Pair) (xs : List Pair) → Grouped spec rows m → ListsAll class_of xs (listed m) → IsPermutation (keys_of spec.by rows) (map (λ (p : Pair). p.0) xs)
all_keys spec rows m xs grouped all =
    IsPermutation-from_counts same_key_equiv same_key_exact (keys_of spec.by rows) (map (λ (p : Pair). p.0) xs) (λ k.
    once (keys_of spec.by rows) k (at_most_once same_key_equiv (keys_of spec.by rows) (different_keys spec.by rows) k)
    ∙ sym (counted xs k (all.once ∙ ap len (sym all.all))
    ∙ ap (λ (n : Entries (List Value) (List Running)). one (is_some (get n (class_of k)))) all.all
    ∙ ap (λ o. one (is_some o)) (grouped k)
    ∙ told (list_any (same_key k) (keys_of spec.by rows)) k))
  where
    told : (b : Bool) (k : List Value) → one (is_some {T = Pair} (cond b (Some (k, tallies spec.aggs (of_key spec.by rows k))) None)) ≡ one b
    told true k = refl
    told false k = refl

-- what follows from what holds on success
pub on_ok : {T E : Type 0} (P Q : Type 0) (r : Result T E) → (P → Q) → OnOk r P → OnOk r Q
on_ok P Q (Ok x) f h = f h
on_ok P Q (Err e) f h = tt

pub if_ok : {T E : Type 0} (P Q : T → Type 0) (r : Result T E) → ((x : T) → P x → Q x) → IfOk r P → IfOk r Q
if_ok P Q (Ok x) f h = f x h
if_ok P Q (Err e) f h = tt
