-- Groups that are sorted, and counts that join them.
use Rattle.std.proofs.Common.{◌≡◌, ◌<◌, ◌+◌, ℕ, zero, suc, Bool, true, false, ◌||◌, List, [], ◌∷◌, ◌++◌, length, map, min, take, drop, get_or, All, refl, sym, ap, subst, ◌∙◌, arith, Option, Some, None, IsTrue, slice_index_or}
use Rattle.std.specs.Prelude.{IsPermutation, insert, nat_lt, option_map, option_and_then}
use Rattle.std.specs.List.{list_any, list_all}
use Rattle.std.specs.List.Sorted.{IsSortedByKey}
use Rattle.std.proofs.lemmas.Bool.{false≢true, and_parts, and_from, ltb-true}
use Rattle.std.proofs.lemmas.List.{drop_min, get_or-map, length-map, take_min}
use Rattle.std.proofs.lemmas.List.Elements.{All-nil, All-cons, All-head, All-tail}
use Rattle.std.proofs.lemmas.List.Sorted.{All-permutation, IsPermutation-map, IsPermutation-trans, list_any-IsPermutation}
use Rattle.gq_row.specs.declared.value.Value.{Value}
use Rattle.gq_row.specs.declared.value.Value.TheVariants.{Null}
use Rattle.gq_row.specs.Order.{compare_keys, same_key}
use Rattle.gq_row.specs.Ordered.{in_order}
use Rattle.gq_row.specs.Repeats.{no_repeats}
use Rattle.gq_row.specs.Tables.{keys, of_key}
use Rattle.gq_row.proofs.ArrangeLemmas.{in_order-alone, in_order-permutation}
use Rattle.gq_row.specs.declared.schema.Column.{Column}
use Rattle.gq_agg.specs.declared.kind.AggKind.{AggKind}
use Rattle.gq_agg.specs.Aggregates.{aggregate}
use Rattle.gq_group.specs.Groups.{Group, Spec, keys_of, column_of, group_of, answers, answered, groups, is_none, out_of_range}
use Rattle.gq_select.specs.declared.output_column.OutputColumn.{OutputColumn}
use Rattle.gq_select.specs.declared.output_column.OutputColumn.TheVariants.{Aggregate, CountDistinct}
use Rattle.gq_query.specs.Answers.{shown_value}
use Rattle.gq_select.specs.Asking.{all_of}
use Rattle.gq_select.specs.Asking.{can_take, is_valid_for}
use Rattle.gq_query.specs.Cells.{aggs_of}
use Rattle.gq_group.specs.Distinct.{distinct_group, distinct_groups}
use Rattle.gq_query.specs.Joining.{shown_of, AreShown, aggregates_of, so_far, first_of, joined, row_of, folded_row, folded_answer, folded_keys}
use Rattle.gq_select.specs.Distinct.{bare_keys}
use Rattle.gq_query.proofs.Unseen.{different_told, keys_told}

abbrev Told : Type 0
Told = List Value × List (Option Value)

pub cons_head : {X : Type 0} (x y : X) (xs ys : List X) → x ∷ xs ≡ y ∷ ys → x ≡ y
cons_head x y xs ys h = cc

pub cons_tail : {X : Type 0} (x y : X) (xs ys : List X) → x ∷ xs ≡ y ∷ ys → xs ≡ ys
cons_tail x y xs ys h = cc

-- ---- sorted by their keys

module _ (f : List Value → List (Option Value)) where
  paired_keys : (ks : List (List Value)) → map (λ (p : Told). p.0) (map (λ k. (k, f k)) ks) ≡ ks
  paired_keys [] = refl
  paired_keys (k ∷ ks) = ap (λ l. k ∷ l) (paired_keys ks)

  all_paired : (ks : List (List Value)) → All (λ (p : Told). p.1 ≡ f p.0) (map (λ k. (k, f k)) ks)
  all_paired [] = All-nil (λ (p : Told). p.1 ≡ f p.0)
  all_paired (k ∷ ks) = All-cons (λ (p : Told). p.1 ≡ f p.0) (k, f k) (map (λ j. (j, f j)) ks) refl (all_paired ks)

  rebuilt : (ps : List Told) → All (λ (p : Told). p.1 ≡ f p.0) ps → ps ≡ map (λ k. (k, f k)) (map (λ (p : Told). p.0) ps)
  rebuilt [] h = refl
  rebuilt (p ∷ ps) h = λ i. (p.0, All-head (λ (q : Told). q.1 ≡ f q.0) p ps h i) ∷ rebuilt ps (All-tail (λ (q : Told). q.1 ≡ f q.0) p ps h) i

answered_keys : (gs : List Group) → map (λ (p : Told). p.0) (map answered gs) ≡ map (λ (g : Group). g.0) gs
answered_keys [] = refl
answered_keys (g ∷ gs) = ap (λ l. g.0 ∷ l) (answered_keys gs)

keys_ascend : (gs : List Group) → IsSortedByKey (λ (g : Group). g.0) compare_keys gs → IsSortedByKey (λ key. key) compare_keys (map (λ (g : Group). g.0) gs)
keys_ascend gs up = λ k d low high.
    let within : k + 1 < length gs = omega (arith, high, length-map gs (λ (g : Group). g.0)) in
    rw (get_or-map (λ (g : Group). g.0) gs (k + 1) (d, []) d within, get_or-map (λ (g : Group). g.0) gs k (d, []) d (omega (arith, within))) (up k (d, []) low within)

pub sorted_told : (f : List Value → List (Option Value)) (ks : List (List Value)) (out sorted : List Group) → IsTrue (no_repeats same_key (map (λ key. key) ks))
    → IsPermutation (map (λ k. (k, f k)) ks) (map answered out) → IsPermutation out sorted → IsSortedByKey (λ (g : Group). g.0) compare_keys sorted
    → map answered sorted ≡ map (λ k. (k, f k)) (in_order (λ key. key) ks)
sorted_told f ks out sorted differ found moved up =
    let all : IsPermutation (map (λ k. (k, f k)) ks) (map answered sorted) = IsPermutation-trans _ _ _ found (IsPermutation-map answered out sorted moved) in
    let firsts = IsPermutation-map (λ (p : Told). p.0) (map (λ k. (k, f k)) ks) (map answered sorted) all in
    let keys : IsPermutation ks (map (λ (g : Group). g.0) sorted) = subst (λ l. IsPermutation l (map (λ (g : Group). g.0) sorted)) (paired_keys f ks) (subst (IsPermutation (map (λ (p : Told). p.0) (map (λ k. (k, f k)) ks))) (answered_keys sorted) firsts) in
    let ordered : map (λ (g : Group). g.0) sorted ≡ in_order (λ key. key) ks = in_order-alone (λ key. key) ks (map (λ (g : Group). g.0) sorted) differ (record { same_rows = keys; ascending = keys_ascend sorted up }) in
    rebuilt f (map answered sorted) (All-permutation (λ (p : Told). p.1 ≡ f p.0) (map (λ k. (k, f k)) ks) (map answered sorted) all (all_paired f ks))
    ∙ ap (map (λ k. (k, f k))) (answered_keys sorted ∙ ordered)

aggs_shown : (shown : List OutputColumn) (rows : List (List Value)) → answers (aggs_of shown) rows ≡ map (λ s. shown_value s rows) (aggregates_of shown)
aggs_shown [] rows = refl
aggs_shown (Aggregate k c ∷ shown) rows = ap (λ l. aggregate k (column_of c rows) ∷ l) (aggs_shown shown rows)
aggs_shown (CountDistinct c ∷ shown) rows = aggs_shown shown rows

-- the aggregates of sorted groups
pub groups_shown : (by : List ℕ) (shown : List OutputColumn) (rows : List (List Value)) (out sorted : List Group) → IsPermutation (groups (record { by = by; aggs = aggs_of shown }) rows) (map answered out)
    → IsPermutation out sorted → IsSortedByKey (λ (g : Group). g.0) compare_keys sorted → AreShown by (aggregates_of shown) rows sorted
groups_shown by shown rows out sorted found moved up =
    sorted_told (λ k. answers (aggs_of shown) (of_key by rows k)) (keys_of by rows) out sorted (keys_told by rows) found moved up
    ∙ each (in_order (λ key. key) (keys_of by rows))
  where
    each : (ks : List (List Value)) → map (λ k. (k, answers (aggs_of shown) (of_key by rows k))) ks ≡ map (shown_of by (aggregates_of shown) rows) ks
    each [] = refl
    each (k ∷ ks) = λ i. (k, aggs_shown shown (of_key by rows k) i) ∷ each ks i

-- the counts of sorted groups
pub counts_shown : (by : List ℕ) (column : ℕ) (rows : List (List Value)) (out sorted : List Group) → IsPermutation (distinct_groups by column rows) out
    → IsPermutation out sorted → IsSortedByKey (λ (g : Group). g.0) compare_keys sorted → AreShown by (CountDistinct column ∷ []) rows sorted
counts_shown by column rows out sorted found moved up =
    sorted_told (λ k. shown_value (CountDistinct column) (of_key by rows k) ∷ []) (keys_of by rows) out sorted (keys_told by rows)
    (subst (λ l. IsPermutation l (map answered out)) (each (keys_of by rows)) (IsPermutation-map answered (distinct_groups by column rows) out found)) moved up
  where
    each : (ks : List (List Value)) → map answered (map (distinct_group by column rows) ks) ≡ map (λ k. (k, shown_value (CountDistinct column) (of_key by rows k) ∷ [])) ks
    each [] = refl
    each (k ∷ ks) = ap (λ l. (k, shown_value (CountDistinct column) (of_key by rows k) ∷ []) ∷ l) (each ks)

-- ---- counts put among the values of their groups

module _ (s : OutputColumn) (B : List OutputColumn) (rows : List (List Value)) (y : Value) (is : Some y ≡ shown_value s rows) where
  inserted : (A : List OutputColumn) (xs : List Value) → map Some xs ≡ map (λ t. shown_value t rows) (A ++ B)
      → map Some (take (length A) xs ++ y ∷ drop (length A) xs) ≡ map (λ t. shown_value t rows) (A ++ s ∷ B)
  inserted [] xs h = λ i. is i ∷ h i
  inserted (a ∷ A) [] h = let none : ⊥ = cc in absurd none
  inserted (a ∷ A) (x ∷ xs) h = λ i.
      cons_head (Some x) (shown_value a rows) (map Some xs) (map (λ t. shown_value t rows) (A ++ B)) h i
      ∷ inserted A xs (cons_tail (Some x) (shown_value a rows) (map Some xs) (map (λ t. shown_value t rows) (A ++ B)) h) i

only_one : (values : List Value) (o : Option Value) → map Some values ≡ o ∷ [] → Some (slice_index_or values 0 Null) ≡ o
only_one [] o h = let none : ⊥ = cc in absurd none
only_one (v ∷ values) o h = cons_head (Some v) o (map Some values) [] h

module _ (by : List ℕ) (rows : List (List Value)) (A B : List OutputColumn) (s : OutputColumn) where
  joined_each : (ks : List (List Value)) (gs cs : List Group) → map answered gs ≡ map (shown_of by (A ++ B) rows) ks → map answered cs ≡ map (shown_of by (s ∷ []) rows) ks
      → map answered (joined (length A) gs cs) ≡ map (shown_of by (A ++ s ∷ B) rows) ks
  joined_each [] [] cs h e = refl
  joined_each [] (g ∷ gs) cs h e = let none : ⊥ = cc in absurd none
  joined_each (k ∷ ks) [] cs h e = let none : ⊥ = cc in absurd none
  joined_each (k ∷ ks) (g ∷ gs) [] h e = let none : ⊥ = cc in absurd none
  joined_each (k ∷ ks) (g ∷ gs) (c ∷ cs) h e =
      let group : answered g ≡ shown_of by (A ++ B) rows k = cons_head (answered g) (shown_of by (A ++ B) rows k) (map answered gs) (map (shown_of by (A ++ B) rows) ks) h in
      let count : answered c ≡ shown_of by (s ∷ []) rows k = cons_head (answered c) (shown_of by (s ∷ []) rows k) (map answered cs) (map (shown_of by (s ∷ []) rows) ks) e in
      let key : g.0 ≡ k = ap (λ (p : Told). p.0) group in
      let values : map Some g.1 ≡ map (λ t. shown_value t (of_key by rows k)) (A ++ B) = ap (λ (p : Told). p.1) group in
      let one : Some (first_of c) ≡ shown_value s (of_key by rows k) = only_one c.1 (shown_value s (of_key by rows k)) (ap (λ (p : Told). p.1) count) in
      let rest = joined_each ks gs cs (cons_tail (answered g) (shown_of by (A ++ B) rows k) (map answered gs) (map (shown_of by (A ++ B) rows) ks) h) (cons_tail (answered c) (shown_of by (s ∷ []) rows k) (map answered cs) (map (shown_of by (s ∷ []) rows) ks) e) in
      λ i. (key i, inserted s B (of_key by rows k) (first_of c) one A g.1 values i) ∷ rest i

pub as_many : (by : List ℕ) (rows : List (List Value)) (A B : List OutputColumn) (ks : List (List Value)) (gs cs : List Group) → map answered gs ≡ map (shown_of by A rows) ks → map answered cs ≡ map (shown_of by B rows) ks → length gs ≡ length cs
as_many by rows A B ks gs cs h e =
    sym (length-map gs answered) ∙ ap length h ∙ length-map ks (shown_of by A rows) ∙ sym (length-map ks (shown_of by B rows)) ∙ sym (ap length e) ∙ length-map cs answered

prefix_length : {X : Type 0} (i : ℕ) (xs : List X) → i < length xs → length (take i xs) ≡ i
prefix_length zero [] h = refl
prefix_length zero (x ∷ xs) h = refl
prefix_length (suc i) [] h = absurd (omega arith)
prefix_length (suc i) (x ∷ xs) h = ap (λ n. suc n) (prefix_length i xs (omega arith))

-- an aggregate is there
pub next_aggregate : (i : ℕ) (shown : List OutputColumn) (d : OutputColumn) (k : AggKind) (c : ℕ) → i < length shown → get_or shown i d ≡ Aggregate k c → so_far (suc i) shown ≡ so_far i shown
next_aggregate i [] d k c less e = absurd (omega arith)
next_aggregate zero (s ∷ shown) d k c less e = ap (λ t. t ∷ aggregates_of shown) e ∙ sym (ap (λ t. aggregates_of (t ∷ shown)) e)
next_aggregate (suc i) (s ∷ shown) d k c less e = ap (λ l. s ∷ l) (next_aggregate i shown d k c (omega arith) e)

-- a count comes in
next_count : (i : ℕ) (shown : List OutputColumn) (d : OutputColumn) (c : ℕ) → i < length shown → get_or shown i d ≡ CountDistinct c
    → (so_far i shown ≡ take i shown ++ aggregates_of (drop (suc i) shown)) × (so_far (suc i) shown ≡ take i shown ++ CountDistinct c ∷ aggregates_of (drop (suc i) shown))
next_count i [] d c less e = absurd (omega arith)
next_count zero (s ∷ shown) d c less e = (ap (λ t. aggregates_of (t ∷ shown)) e, ap (λ t. t ∷ aggregates_of shown) e)
next_count (suc i) (s ∷ shown) d c less e =
    let rest = next_count i shown d c (omega arith) e in
    (ap (λ l. s ∷ l) rest.0, ap (λ l. s ∷ l) rest.1)

pub joined_shown : (by : List ℕ) (rows : List (List Value)) (shown : List OutputColumn) (i : ℕ) (d : OutputColumn) (c : ℕ) (gs cs : List Group) → i < length shown → get_or shown i d ≡ CountDistinct c
    → AreShown by (so_far i shown) rows gs → AreShown by (CountDistinct c ∷ []) rows cs → AreShown by (so_far (suc i) shown) rows (joined i gs cs)
joined_shown by rows shown i d c gs cs less e h k =
    let next = next_count i shown d c less e in
    let rest : List OutputColumn = aggregates_of (drop (suc i) shown) in
    let put : AreShown by (take i shown ++ CountDistinct c ∷ rest) rows (joined (length (take i shown)) gs cs)
    = joined_each by rows (take i shown) rest (CountDistinct c) (in_order (λ key. key) (keys_of by rows)) gs cs (subst (λ l. AreShown by l rows gs) next.0 h) k in
    subst (λ l. AreShown by l rows (joined i gs cs)) (sym next.1) (subst (λ n. AreShown by (take i shown ++ CountDistinct c ∷ rest) rows (joined n gs cs)) (prefix_length i shown less) put)

pub so_far_none : (shown : List OutputColumn) → so_far 0 shown ≡ aggregates_of shown
so_far_none shown = refl

pub so_far_all : (shown : List OutputColumn) → so_far (length shown) shown ≡ shown
so_far_all [] = refl
so_far_all (s ∷ shown) = ap (λ l. s ∷ l) (so_far_all shown)

-- ---- one count after the other

pub joined_more : (place : ℕ) (gs cs : List Group) (i : ℕ) (d e : Group) → i < length gs → i < length cs
    → joined place (take (i + 1) gs) (take (i + 1) cs) ≡ joined place (take i gs) (take i cs) ++ ((get_or gs i d).0, insert (get_or gs i d).1 place (first_of (get_or cs i e))) ∷ []
joined_more place gs cs i d e less there = rw (one_more) (each gs cs i less there)
  where
    one_more : i + 1 ≡ suc i
    one_more = omega arith

    each : (gs cs : List Group) (i : ℕ) → i < length gs → i < length cs
        → joined place (take (suc i) gs) (take (suc i) cs) ≡ joined place (take i gs) (take i cs) ++ ((get_or gs i d).0, insert (get_or gs i d).1 place (first_of (get_or cs i e))) ∷ []
    each [] cs i less there = absurd (omega (arith, less))
    each (g ∷ gs) [] i less there = absurd (omega (arith, there))
    each (g ∷ gs) (c ∷ cs) zero less there = refl
    each (g ∷ gs) (c ∷ cs) (suc i) less there = ap (λ l. (g.0, insert g.1 place (first_of c)) ∷ l) (each gs cs i (omega (arith, less)) (omega (arith, there)))

-- past all values a count follows them
pub inserted_within : {X : Type 0} (xs : List X) (place : ℕ) (x : X) → insert xs (min place (length xs)) x ≡ insert xs place x
inserted_within xs place x = λ i. take_min place xs i ++ x ∷ drop_min place xs i

-- ---- the answer

pub all_some : (values : List Value) → all_of (map Some values) ≡ Some values
all_some [] = refl
all_some (v ∷ values) = ap (option_map (λ vs. v ∷ vs)) (all_some values)

pub answered_rows : (by : List ℕ) (shown : List OutputColumn) (rows ks : List (List Value)) (gs : List Group) → map answered gs ≡ map (shown_of by shown rows) ks → all_of (map (folded_row by shown rows) ks) ≡ Some (map row_of gs)
answered_rows by shown rows [] [] h = refl
answered_rows by shown rows [] (g ∷ gs) h = let none : ⊥ = cc in absurd none
answered_rows by shown rows (k ∷ ks) [] h = let none : ⊥ = cc in absurd none
answered_rows by shown rows (k ∷ ks) (g ∷ gs) h =
    let group : answered g ≡ shown_of by shown rows k = cons_head (answered g) (shown_of by shown rows k) (map answered gs) (map (shown_of by shown rows) ks) h in
    let rest = answered_rows by shown rows ks gs (cons_tail (answered g) (shown_of by shown rows k) (map answered gs) (map (shown_of by shown rows) ks) h) in
    let values : all_of (map (λ s. shown_value s (of_key by rows k)) shown) ≡ Some g.1 = ap all_of (sym (ap (λ (p : Told). p.1) group)) ∙ all_some g.1 in
    let row : folded_row by shown rows k ≡ Some (row_of g) = ap (option_map (λ vs. k ++ vs)) values ∙ ap (λ key. Some (key ++ g.1)) (sym (ap (λ (p : Told). p.0) group)) in
    λ i. option_and_then (λ x. option_map (λ xs. x ∷ xs) (rest i)) (row i)

pub shown_answer : (by : List ℕ) (shown : List OutputColumn) (rows : List (List Value)) (gs : List Group) → AreShown by shown rows gs → folded_answer by shown rows ≡ Some (map row_of gs)
shown_answer by shown rows gs h = answered_rows by shown rows (in_order (λ key. key) (keys_of by rows)) gs h

-- ---- sums that are out of range

after_none : {X Y : Type 0} (f : X → Option Y) (o : Option X) → ((x : X) → f x ≡ None) → option_and_then f o ≡ None
after_none f None h = refl
after_none f (Some x) h = h x

pub rest_none : {X : Type 0} (o : Option X) (os : List (Option X)) → all_of os ≡ None → all_of (o ∷ os) ≡ None
rest_none o os h = after_none (λ x. option_map (λ xs. x ∷ xs) (all_of os)) o (λ x. ap (option_map (λ xs. x ∷ xs)) h)

values_none : (shown : List OutputColumn) (rows : List (List Value)) → list_any is_none (answers (aggs_of shown) rows) ≡ true → all_of (map (λ s. shown_value s rows) shown) ≡ None
values_none [] rows h = absurd (false≢true h)
values_none (Aggregate k c ∷ shown) rows h = told (aggregate k (column_of c rows)) h (values_none shown rows)
  where
    told : (o : Option Value) → (is_none o || list_any is_none (answers (aggs_of shown) rows)) ≡ true
        → (list_any is_none (answers (aggs_of shown) rows) ≡ true → all_of (map (λ s. shown_value s rows) shown) ≡ None) → all_of (o ∷ map (λ s. shown_value s rows) shown) ≡ None
    told None e later = refl
    told (Some v) e later = rest_none (Some v) (map (λ s. shown_value s rows) shown) (later e)
values_none (CountDistinct c ∷ shown) rows h = rest_none (shown_value (CountDistinct c) rows) (map (λ s. shown_value s rows) shown) (values_none shown rows h)

rows_none : (by : List ℕ) (shown : List OutputColumn) (rows ks : List (List Value)) → list_any (λ (g : Told). list_any is_none g.1) (map (group_of (record { by = by; aggs = aggs_of shown }) rows) ks) ≡ true
    → all_of (map (folded_row by shown rows) ks) ≡ None
rows_none by shown rows [] h = absurd (false≢true h)
rows_none by shown rows (k ∷ ks) h = told (list_any is_none (answers (aggs_of shown) (of_key by rows k))) refl h (rows_none by shown rows ks)
  where
    told : (b : Bool) → list_any is_none (answers (aggs_of shown) (of_key by rows k)) ≡ b
        → (b || list_any (λ (g : Told). list_any is_none g.1) (map (group_of (record { by = by; aggs = aggs_of shown }) rows) ks)) ≡ true
        → (list_any (λ (g : Told). list_any is_none g.1) (map (group_of (record { by = by; aggs = aggs_of shown }) rows) ks) ≡ true → all_of (map (folded_row by shown rows) ks) ≡ None)
        → all_of (map (folded_row by shown rows) (k ∷ ks)) ≡ None
    told true e t later = ap (option_and_then (λ x. option_map (λ xs. x ∷ xs) (all_of (map (folded_row by shown rows) ks)))) (ap (option_map (λ vs. k ++ vs)) (values_none shown (of_key by rows k) e))
    told false e t later = rest_none (folded_row by shown rows k) (map (folded_row by shown rows) ks) (later t)

pub no_answer : (by : List ℕ) (shown : List OutputColumn) (rows : List (List Value)) → out_of_range (record { by = by; aggs = aggs_of shown }) rows ≡ true → folded_answer by shown rows ≡ None
no_answer by shown rows h =
    let spec : Spec = record { by = by; aggs = aggs_of shown } in
    rows_none by shown rows (in_order (λ key. key) (keys_of by rows))
    (sym (list_any-IsPermutation (λ (g : Told). list_any is_none g.1) (map (group_of spec rows) (keys_of by rows)) (map (group_of spec rows) (in_order (λ key. key) (keys_of by rows)))
    (IsPermutation-map (group_of spec rows) (keys_of by rows) (in_order (λ key. key) (keys_of by rows)) (in_order-permutation (λ key. key) (keys_of by rows)))) ∙ h)

-- ---- what may be shown

pub can_take_aggs : (columns : List Column) (shown : List OutputColumn) → list_all (is_valid_for columns) shown ≡ true → list_all (can_take columns) (aggs_of shown) ≡ true
can_take_aggs columns [] h = refl
can_take_aggs columns (Aggregate k c ∷ shown) h =
    let parts = and_parts (can_take columns (k, c)) (list_all (is_valid_for columns) shown) h in
    and_from (can_take columns (k, c)) (list_all (can_take columns) (aggs_of shown)) parts.0 (can_take_aggs columns shown parts.1)
can_take_aggs columns (CountDistinct c ∷ shown) h = can_take_aggs columns shown (and_parts (nat_lt c (length columns)) (list_all (is_valid_for columns) shown) h).1

pub counted_within : (columns : List Column) (shown : List OutputColumn) (i : ℕ) (d : OutputColumn) (c : ℕ) → list_all (is_valid_for columns) shown ≡ true → i < length shown → get_or shown i d ≡ CountDistinct c → c < length columns
counted_within columns [] i d c h less e = absurd (omega arith)
counted_within columns (s ∷ shown) zero d c h less e = ltb-true c (length columns) (ap (is_valid_for columns) (sym e) ∙ (and_parts (is_valid_for columns s) (list_all (is_valid_for columns) shown) h).0)
counted_within columns (s ∷ shown) (suc i) d c h less e = counted_within columns shown i d c (and_parts (is_valid_for columns s) (list_all (is_valid_for columns) shown) h).1 (omega arith) e

-- ---- different keys

no_values : (values : List Value) → map Some values ≡ [] → values ≡ []
no_values [] h = refl
no_values (v ∷ values) h = let none : ⊥ = cc in absurd none

pub nothing_behind : (values : List Value) → values ++ [] ≡ values
nothing_behind [] = refl
nothing_behind (v ∷ values) = ap (λ l. v ∷ l) (nothing_behind values)

bare_rows : (ks : List (List Value)) (gs : List Group) → map answered gs ≡ map (λ k. (k, [])) ks → map row_of gs ≡ ks
bare_rows [] [] h = refl
bare_rows [] (g ∷ gs) h = let none : ⊥ = cc in absurd none
bare_rows (k ∷ ks) [] h = let none : ⊥ = cc in absurd none
bare_rows (k ∷ ks) (g ∷ gs) h =
    let bare : List Value → Told = λ key. (key, []) in
    let group : answered g ≡ bare k = cons_head (answered g) (bare k) (map answered gs) (map bare ks) h in
    let row : row_of g ≡ k = (λ i. (group i).0 ++ g.1) ∙ ap (λ l. k ++ l) (no_values g.1 (ap (λ (p : Told). p.1) group)) ∙ nothing_behind k in
    λ i. row i ∷ bare_rows ks gs (cons_tail (answered g) (bare k) (map answered gs) (map bare ks) h) i

bare_answered : (ks : List (List Value)) → map answered (map (λ key. (key, [])) ks) ≡ map (λ k. (k, [])) ks
bare_answered [] = refl
bare_answered (k ∷ ks) = ap (λ l. (k, []) ∷ l) (bare_answered ks)

-- the rows of sorted keys are the different keys in their order
pub distinct_shown : (on : List ℕ) (rows : List (List Value)) (out sorted : List Group) → IsPermutation (bare_keys on rows) out
    → IsPermutation out sorted → IsSortedByKey (λ (g : Group). g.0) compare_keys sorted → map row_of sorted ≡ folded_keys on rows
distinct_shown on rows out sorted found moved up =
    bare_rows (in_order (λ key. key) (keys on rows)) sorted
    (sorted_told (λ k. []) (keys on rows) out sorted (different_told on rows)
    (subst (λ l. IsPermutation l (map answered out)) (bare_answered (keys on rows)) (IsPermutation-map answered (bare_keys on rows) out found)) moved up)
