-- Rows that are the first of their key and their value in a column: one row more, and what their groups are.
use Rattle.std.proofs.Common.{◌≡◌, ◌≤◌, ℕ, pos, Bool, true, false, cond, not, ◌&&◌, ◌||◌, List, [], ◌∷◌, ◌++◌, length, map, Option, Some, None, refl, sym, ap, subst, ◌∙◌, arith, append-nil, length-append, true≢false, IsPermutation}
use Rattle.std.specs.List.{list_any}
use Rattle.std.proofs.lemmas.List.{map-append}
use Rattle.std.proofs.lemmas.List.Elements.{filter-append}
use Rattle.std.proofs.lemmas.List.Sorted.{IsPermutation-map}
use Rattle.gq_row.specs.declared.value.Value.{Value}
use Rattle.gq_row.specs.declared.value.Value.TheVariants.{Null, Int}
use Rattle.gq_row.specs.Fitting.{is_null}
use Rattle.gq_row.specs.Order.{same_key, same_value}
use Rattle.gq_row.specs.Repeats.{without_repeats}
use Rattle.gq_row.specs.Rows.{cell, key_of}
use Rattle.gq_row.specs.Sameness.{same_value_equiv}
use Rattle.gq_row.specs.Tables.{keys, of_key}
use Rattle.gq_row.proofs.DistinctLemmas.{one_more, without_repeats-push, any_without_repeats}
use Rattle.gq_row.proofs.OrderLemmas.{same_key_equiv}
use Rattle.gq_row.proofs.TableLemmas.{keys-push, of_key-push}
use Rattle.gq_agg.specs.declared.kind.AggKind.TheVariants.{Count}
use Rattle.gq_agg.specs.Values.{present}
use Rattle.gq_agg.proofs.Different.{null_apart}
use Rattle.gq_group.specs.Distinct.{distinct_group, distinct_groups, PushesDistinct, with_column}
use Rattle.gq_group.specs.Groups.{Spec, Group, keys_of, column_of, group_of, groups, answered, Pushes}

-- by which columns rows are grouped, and of which one the different values are counted
pub record Pairing : Type 0 where
  pub by : List ℕ
  pub column : ℕ

-- each group's count of that column
abbrev pub count_of : Pairing → Spec
count_of p = record { by = p.by; aggs = (Count, p.column) ∷ [] }

-- Rows have the keys of all, and for each key its different values in the column, each once.
pub record AreFirsts (p : Pairing) (rows firsts : List (List Value)) : Type 0 where
  pub same_keys : keys_of p.by firsts ≡ keys_of p.by rows
  pub values : (key : List Value) → present (column_of p.column (of_key p.by firsts key)) ≡ without_repeats same_value (present (column_of p.column (of_key p.by rows key)))
  pub no_more : length firsts ≤ length rows

and_true : (b : Bool) → (b && true) ≡ b
and_true true = refl
and_true false = refl

and_assoc : (a b c : Bool) → (a && (b && c)) ≡ ((a && b) && c)
and_assoc true b c = refl
and_assoc false b c = refl

or_none : (b : Bool) → (b || false) ≡ b
or_none true = refl
or_none false = refl

or_true : (b : Bool) → (b || true) ≡ true
or_true true = refl
or_true false = refl

-- ---- a key with a value after it

-- two rows are the same in some columns and one more where they are in those and in that
same_pair : (by : List ℕ) (c : ℕ) (a b : List Value) → same_key (key_of (with_column by c) a) (key_of (with_column by c) b) ≡ (same_key (key_of by a) (key_of by b) && same_value (cell a c) (cell b c))
same_pair [] c a b = and_true (same_value (cell a c) (cell b c))
same_pair (d ∷ by) c a b =
    ap (λ t. same_value (cell a d) (cell b d) && t) (same_pair by c a b)
    ∙ and_assoc (same_value (cell a d) (cell b d)) (same_key (key_of by a) (key_of by b)) (same_value (cell a c) (cell b c))

-- whether some row has a row's key and value
abbrev pub has_pair : List ℕ → ℕ → List (List Value) → List Value → Bool
has_pair by c rows row = list_any (same_key (key_of (with_column by c) row)) (map (key_of (with_column by c)) rows)

-- the values that the rows of a key have
abbrev pub values_of : List ℕ → ℕ → List (List Value) → List Value → List Value
values_of by c rows k = present (column_of c (of_key by rows k))

-- among the rows of its key, a value that is not null is found where some row has both
among : (by : List ℕ) (c : ℕ) (k row : List Value) (rows : List (List Value)) → same_key (key_of by row) k ≡ true → is_null (cell row c) ≡ false
    → list_any (λ v. same_value v (cell row c)) (values_of by c rows k) ≡ has_pair by c rows row
among by c k row [] is some = refl
among by c k row (r ∷ rows) is some =
    step (same_key (key_of by r) k) (among by c k row rows is some)
    ∙ ap (λ b. b || has_pair by c rows row) (sym alike)
  where
    alike : same_key (key_of (with_column by c) row) (key_of (with_column by c) r) ≡ (same_key (key_of by r) k && same_value (cell r c) (cell row c))
    alike =
        same_pair by c row r
        ∙ (λ i. ((same_key_equiv).congr (key_of by row) k (key_of by r) is ∙ (same_key_equiv).symm k (key_of by r)) i && (same_value_equiv).symm (cell row c) (cell r c) i)

    kept : (b : Bool) → is_null (cell r c) ≡ b → list_any (λ v. same_value v (cell row c)) (values_of by c rows k) ≡ has_pair by c rows row
        → list_any (λ v. same_value v (cell row c)) (cond (not b) (cell r c ∷ values_of by c rows k) (values_of by c rows k)) ≡ (same_value (cell r c) (cell row c) || has_pair by c rows row)
    kept true e h = h ∙ ap (λ b. b || has_pair by c rows row) (sym (null_apart (cell r c) (cell row c) e some))
    kept false e h = ap (λ b. same_value (cell r c) (cell row c) || b) h

    step : (b : Bool) → list_any (λ v. same_value v (cell row c)) (values_of by c rows k) ≡ has_pair by c rows row
        → list_any (λ v. same_value v (cell row c)) (present (column_of c (cond b (r ∷ of_key by rows k) (of_key by rows k))))
        ≡ ((b && same_value (cell r c) (cell row c)) || has_pair by c rows row)
    step true h = kept (is_null (cell r c)) refl h
    step false h = h

-- ---- one row more

-- what a row adds to the values of a key, if it has that key
abbrev added : Bool → Value → List Value
added b v = cond b (cond (not (is_null v)) (v ∷ []) []) []

values-push : (by : List ℕ) (c : ℕ) (k row : List Value) (rows : List (List Value)) → values_of by c (rows ++ row ∷ []) k ≡ values_of by c rows k ++ added (same_key (key_of by row) k) (cell row c)
values-push by c k row rows =
    ap (λ l. present (column_of c l)) (of_key-push by rows row k)
    ∙ ap present (map-append (λ r. cell r c) (of_key by rows k) (cond (same_key (key_of by row) k) (row ∷ []) []))
    ∙ filter-append (λ v. not (is_null v)) (column_of c (of_key by rows k)) (column_of c (cond (same_key (key_of by row) k) (row ∷ []) []))
    ∙ ap (λ l. values_of by c rows k ++ l) (told (same_key (key_of by row) k))
  where
    told : (b : Bool) → present (column_of c (cond b (row ∷ []) [])) ≡ added b (cell row c)
    told true = refl
    told false = refl

-- a key and a value that were there add no different value to any key, and others add theirs
old_value : (by : List ℕ) (c : ℕ) (k row : List Value) (rows : List (List Value)) → has_pair by c rows row ≡ true
    → without_repeats same_value (values_of by c (rows ++ row ∷ []) k) ≡ without_repeats same_value (values_of by c rows k)
old_value by c k row rows there = ap (without_repeats same_value) (values-push by c k row rows) ∙ told (same_key (key_of by row) k) (is_null (cell row c)) refl refl
  where
    told : (b n : Bool) → same_key (key_of by row) k ≡ b → is_null (cell row c) ≡ n
        → without_repeats same_value (values_of by c rows k ++ cond b (cond (not n) (cell row c ∷ []) []) []) ≡ without_repeats same_value (values_of by c rows k)
    told false n e f = ap (without_repeats same_value) (append-nil (values_of by c rows k))
    told true true e f = ap (without_repeats same_value) (append-nil (values_of by c rows k))
    told true false e f =
        without_repeats-push same_value (values_of by c rows k) (cell row c)
        ∙ ap (λ b. one_more b (without_repeats same_value (values_of by c rows k)) (cell row c)) (among by c k row rows e f ∙ there)

new_value : (by : List ℕ) (c : ℕ) (k row : List Value) (rows : List (List Value)) → has_pair by c rows row ≡ false
    → without_repeats same_value (values_of by c (rows ++ row ∷ []) k) ≡ without_repeats same_value (values_of by c rows k) ++ added (same_key (key_of by row) k) (cell row c)
new_value by c k row rows none = ap (without_repeats same_value) (values-push by c k row rows) ∙ told (same_key (key_of by row) k) (is_null (cell row c)) refl refl
  where
    told : (b n : Bool) → same_key (key_of by row) k ≡ b → is_null (cell row c) ≡ n
        → without_repeats same_value (values_of by c rows k ++ cond b (cond (not n) (cell row c ∷ []) []) [])
        ≡ without_repeats same_value (values_of by c rows k) ++ cond b (cond (not n) (cell row c ∷ []) []) []
    told false n e f = ap (without_repeats same_value) (append-nil (values_of by c rows k)) ∙ sym (append-nil (without_repeats same_value (values_of by c rows k)))
    told true true e f = ap (without_repeats same_value) (append-nil (values_of by c rows k)) ∙ sym (append-nil (without_repeats same_value (values_of by c rows k)))
    told true false e f =
        without_repeats-push same_value (values_of by c rows k) (cell row c)
        ∙ ap (λ b. one_more b (without_repeats same_value (values_of by c rows k)) (cell row c)) (among by c k row rows e f ∙ none)

-- a key that is there with a value is there
has_key : (by : List ℕ) (c : ℕ) (row : List Value) (rows : List (List Value)) → has_pair by c rows row ≡ true → list_any (same_key (key_of by row)) (map (key_of by) rows) ≡ true
has_key by c row [] there = absurd (true≢false (sym there))
has_key by c row (r ∷ rows) there =
    step (same_key (key_of by row) (key_of by r)) (ap (λ b. b || has_pair by c rows row) (sym (same_pair by c row r)) ∙ there) (has_key by c row rows)
  where
    step : (b : Bool) → ((b && same_value (cell row c) (cell r c)) || has_pair by c rows row) ≡ true
        → (has_pair by c rows row ≡ true → list_any (same_key (key_of by row)) (map (key_of by) rows) ≡ true)
        → (b || list_any (same_key (key_of by row)) (map (key_of by) rows)) ≡ true
    step true h later = refl
    step false h later = later h

old_key : (by : List ℕ) (c : ℕ) (row : List Value) (rows : List (List Value)) → has_pair by c rows row ≡ true → keys_of by (rows ++ row ∷ []) ≡ keys_of by rows
old_key [] c row rows there = refl
old_key (b ∷ by) c row rows there =
    keys-push (b ∷ by) rows row
    ∙ ap (λ t. one_more t (keys (b ∷ by) rows) (key_of (b ∷ by) row)) (any_without_repeats same_key_equiv (key_of (b ∷ by) row) (map (key_of (b ∷ by)) rows) ∙ has_key (b ∷ by) c row rows there)

new_key : (by : List ℕ) (row : List Value) (rows firsts : List (List Value)) → keys_of by firsts ≡ keys_of by rows → keys_of by (firsts ++ row ∷ []) ≡ keys_of by (rows ++ row ∷ [])
new_key [] row rows firsts is = refl
new_key (b ∷ by) row rows firsts is =
    keys-push (b ∷ by) firsts row
    ∙ ap (λ l. one_more (list_any (same_key (key_of (b ∷ by) row)) l) l (key_of (b ∷ by) row)) is
    ∙ sym (keys-push (b ∷ by) rows row)

pub firsts-start : (p : Pairing) → AreFirsts p [] []
firsts-start p = record { same_keys = refl; values = λ k. refl; no_more = omega arith }

pub firsts-old : (p : Pairing) (rows firsts : List (List Value)) (row : List Value) → AreFirsts p rows firsts → has_pair p.by p.column rows row ≡ true → AreFirsts p (rows ++ row ∷ []) firsts
firsts-old p rows firsts row are there = record {
  same_keys = are.same_keys ∙ sym (old_key p.by p.column row rows there);
  values = λ k. are.values k ∙ sym (old_value p.by p.column k row rows there);
  no_more = omega (arith, are.no_more, length-append rows (row ∷ []));
}

pub firsts-new : (p : Pairing) (rows firsts : List (List Value)) (row : List Value) → AreFirsts p rows firsts → has_pair p.by p.column rows row ≡ false → AreFirsts p (rows ++ row ∷ []) (firsts ++ row ∷ [])
firsts-new p rows firsts row are none = record {
  same_keys = new_key p.by row rows firsts are.same_keys;
  values = λ k.
      values-push p.by p.column k row firsts
      ∙ ap (λ l. l ++ added (same_key (key_of p.by row) k) (cell row p.column)) (are.values k)
      ∙ sym (new_value p.by p.column k row rows none);
  no_more = omega (arith, are.no_more, length-append rows (row ∷ []), length-append firsts (row ∷ []));
}

-- ---- the groups of the first rows

-- the group that was answered
abbrev value_in : Option Value → Value
value_in None = Null
value_in (Some v) = v

abbrev group_in : List Value × List (Option Value) → Group
group_in g = (g.0, map value_in g.1)

group_again : (gs : List Group) → map group_in (map answered gs) ≡ gs
group_again [] = refl
group_again (g ∷ gs) = (λ i. (g.0, values g.1 i) ∷ group_again gs i)
  where
    values : (vs : List Value) → map value_in (map Some vs) ≡ vs
    values [] = refl
    values (v ∷ vs) = ap (λ l. v ∷ l) (values vs)

first_groups : (p : Pairing) (rows firsts : List (List Value)) → AreFirsts p rows firsts → groups (count_of p) firsts ≡ map answered (distinct_groups p.by p.column rows)
first_groups p rows firsts are = ap (map (group_of (count_of p) firsts)) are.same_keys ∙ each (keys_of p.by rows)
  where
    each : (ks : List (List Value)) → map (group_of (count_of p) firsts) ks ≡ map answered (map (distinct_group p.by p.column rows) ks)
    each [] = refl
    each (k ∷ ks) = (λ i. (k, Some (Int (pos (length (are.values k i)))) ∷ []) ∷ each ks i)

pub firsts_pushed : (p : Pairing) (rows firsts : List (List Value)) (holds : List Group → Type 0) → AreFirsts p rows firsts → Pushes (count_of p) firsts holds → PushesDistinct p.by p.column rows holds
firsts_pushed p rows firsts holds are pushes =
    let out = pushes.0 in (
      out,
      subst (λ l. IsPermutation (distinct_groups p.by p.column rows) l) (group_again out)
          (subst (λ l. IsPermutation l (map group_in (map answered out))) (group_again (distinct_groups p.by p.column rows))
          (IsPermutation-map group_in (map answered (distinct_groups p.by p.column rows)) (map answered out)
          (subst (λ l. IsPermutation l (map answered out)) (first_groups p rows firsts are) pushes.1))),
      pushes.2,
    )
