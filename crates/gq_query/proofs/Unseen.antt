-- The order of a table's rows is unseen.
use Rattle.std.proofs.Common.{◌≡◌, ◌++◌, ◌&&◌, not, filter, None, ℕ, pos, Bool, true, false, length, take, List, [], ◌∷◌, map, refl, sym, ap, subst, ◌∙◌, IsTrue, Some}
use Rattle.std.specs.List.{flat_map, list_any}
use Rattle.std.specs.Prelude.{IsPermutation, if◌then◌else◌, Option, option_map}
use Rattle.std.proofs.lemmas.List.Sorted.{IsPermutation-refl, IsPermutation-map, list_any-IsPermutation}
use Rattle.gq_row.specs.declared.value.Value.{Value}
use Rattle.gq_row.specs.declared.value.Value.TheVariants.{Int}
use Rattle.gq_row.specs.Fitting.{is_null}
use Rattle.gq_row.specs.Schemas.{PlainSchema}
use Rattle.gq_row.specs.Order.{same_key}
use Rattle.gq_row.specs.Ordered.{in_order}
use Rattle.gq_row.specs.Repeats.{no_repeats}
use Rattle.gq_row.specs.Rows.{cell, key_of}
use Rattle.gq_row.specs.Tables.{keys, keys_differ, of_key}
use Rattle.gq_row.proofs.ArrangeLemmas.{in_order-same_rows, in_order-same_rows_by_row}
use Rattle.gq_row.proofs.DistinctLemmas.{no_repeats-without}
use Rattle.gq_row.proofs.MovedLemmas.{IsPermutation-filter, keys-permutation, of_key-permutation}
use Rattle.gq_row.proofs.OrderLemmas.{same_key_equiv, same_key_exact}
use Rattle.gq_agg.specs.declared.kind.AggKind.TheVariants.{Min}
use Rattle.gq_agg.specs.Values.{least}
use Rattle.gq_agg.proofs.Different.{different_moved}
use Rattle.gq_agg.proofs.Unseen.{order_unseen}
use Rattle.gq_group.specs.Groups.{keys_of, column_of}
use Rattle.gq_select.specs.declared.output_column.OutputColumn.{OutputColumn}
use Rattle.gq_select.specs.declared.output_column.OutputColumn.TheVariants.{Aggregate, CountDistinct}
use Rattle.gq_select.specs.declared.condition.Test.{Test}
use Rattle.gq_select.specs.declared.matching.Matching.{Matching}
use Rattle.gq_select.specs.Truths.{keeps}
use Rattle.gq_query.specs.Answers.{shown_value, shown_key, has_match, rows_kept, result_row, answer, answer_having, distinct_keys, ordered_by}
use Rattle.gq_select.specs.Asking.{all_of}
use Rattle.gq_query.specs.Laws.{OrderIsUnseen}
use Rattle.gq_query.specs.Rollups.{filled, group_answer, level_rows, levels}

pub map_itself : {X : Type 0} (xs : List X) → map (λ x. x) xs ≡ xs
map_itself [] = refl
map_itself (x ∷ xs) = ap (λ l. x ∷ l) (map_itself xs)

-- no two of the keys are the same
pub keys_apart : (by : List ℕ) (rows : List (List Value)) → IsTrue (no_repeats same_key (keys_of by rows))
keys_apart [] rows = refl
keys_apart (c ∷ cs) rows = no_repeats-without same_key (map (key_of (c ∷ cs)) rows)

pub keys_told : (by : List ℕ) (rows : List (List Value)) → IsTrue (no_repeats same_key (map (λ key. key) (keys_of by rows)))
keys_told by rows = subst (λ ks. IsTrue (no_repeats same_key ks)) (sym (map_itself (keys_of by rows))) (keys_apart by rows)

keys_moved : (by : List ℕ) (xs ys : List (List Value)) → IsPermutation xs ys → IsPermutation (keys_of by xs) (keys_of by ys)
keys_moved [] xs ys moved = IsPermutation-refl ([] ∷ [])
keys_moved (c ∷ cs) xs ys moved = keys-permutation (c ∷ cs) xs ys moved

keys_ordered : (by : List ℕ) (xs ys : List (List Value)) → IsPermutation xs ys → in_order (λ key. key) (keys_of by xs) ≡ in_order (λ key. key) (keys_of by ys)
keys_ordered by xs ys moved = sym (in_order-same_rows (λ key. key) (keys_of by xs) (keys_of by ys) (keys_told by xs) (keys_moved by xs ys moved))

-- what is shown of the same rows in another order
shown_moved : (s : OutputColumn) (xs ys : List (List Value)) → IsPermutation xs ys → shown_value s xs ≡ shown_value s ys
shown_moved (Aggregate kind column) xs ys moved = order_unseen kind (column_of column xs) (column_of column ys) (IsPermutation-map (λ row. cell row column) xs ys moved)
shown_moved (CountDistinct column) xs ys moved = ap (λ n. Some (Int (pos n))) (different_moved (column_of column xs) (column_of column ys) (IsPermutation-map (λ row. cell row column) xs ys moved))

values_moved : (shown : List OutputColumn) (xs ys : List (List Value)) → IsPermutation xs ys → map (λ s. shown_value s xs) shown ≡ map (λ s. shown_value s ys) shown
values_moved [] xs ys moved = refl
values_moved (s ∷ shown) xs ys moved = λ i. shown_moved s xs ys moved i ∷ values_moved shown xs ys moved i

-- a key is shown alike
some_same : (x y : Value) → Some x ≡ Some y → x ≡ y
some_same x y h = cc

shown_key_moved : (by : List ℕ) (xs ys : List (List Value)) → IsPermutation xs ys → shown_key by xs ≡ shown_key by ys
shown_key_moved [] xs ys moved = refl
shown_key_moved (c ∷ by) xs ys moved = λ i.
    some_same (least (column_of c xs)) (least (column_of c ys)) (shown_moved (Aggregate Min c) xs ys moved) i ∷ shown_key_moved by xs ys moved i

rows_moved : (by : List ℕ) (shown : List OutputColumn) (xs ys ks : List (List Value)) → IsPermutation xs ys → map (result_row by shown xs) ks ≡ map (result_row by shown ys) ks
rows_moved by shown xs ys [] moved = refl
rows_moved by shown xs ys (k ∷ ks) moved =
    let mine = of_key-permutation by xs ys k moved in
    λ i. option_map (λ values. shown_key_moved by (of_key by xs k) (of_key by ys k) mine i ++ values) (all_of (values_moved shown (of_key by xs k) (of_key by ys k) mine i)) ∷ rows_moved by shown xs ys ks moved i

pub answer_moved : (by : List ℕ) (shown : List OutputColumn) (xs ys : List (List Value)) → IsPermutation xs ys → answer by shown xs ≡ answer by shown ys
answer_moved by shown xs ys moved =
    ap all_of (rows_moved by shown xs ys (in_order (λ key. key) (keys_of by xs)) moved)
    ∙ ap (λ ks. all_of (map (result_row by shown ys) ks)) (keys_ordered by xs ys moved)

-- a row's match among other rows in another order
match_moved : (m : Option Matching) (us vs : List (List Value)) (row : List Value) → IsPermutation us vs → has_match m us row ≡ has_match m vs row
match_moved None us vs row moved = refl
match_moved (Some m) us vs row moved =
    let key : List Value = key_of m.ours row in
    ap (λ b. if m.negated then not (not (list_any is_null key) && b) else (not (list_any is_null key) && b))
    (list_any-IsPermutation (λ other. same_key (key_of m.theirs other) key) us vs moved)

-- the rows that a query is about, where both tables are in another order
kept_moved : (tests : List Test) (m : Option Matching) (us vs xs ys : List (List Value)) → IsPermutation us vs → IsPermutation xs ys → IsPermutation (rows_kept tests m us xs) (rows_kept tests m vs ys)
kept_moved tests m us vs xs ys others moved =
    subst (IsPermutation (rows_kept tests m us xs)) (λ i. filter (λ row. keeps tests row && match_moved m us vs row others i) ys)
    (IsPermutation-filter same_key_equiv same_key_exact (λ row. keeps tests row && has_match m us row) xs ys moved)

having_moved : (by : List ℕ) (shown : List OutputColumn) (having : List Test) (xs ys : List (List Value)) → IsPermutation xs ys → answer_having by shown having xs ≡ answer_having by shown having ys
having_moved by shown having xs ys moved = ap (option_map (filter (keeps having))) (answer_moved by shown xs ys moved)

levels_moved : (by : List ℕ) (shown : List OutputColumn) (having : List Test) (xs ys : List (List Value)) (levels : List ℕ) → IsPermutation xs ys → map (level_rows by shown having xs) levels ≡ map (level_rows by shown having ys) levels
levels_moved by shown having xs ys [] moved = refl
levels_moved by shown having xs ys (n ∷ levels) moved = λ i.
    option_map (λ found. map (λ row. Int (pos n) ∷ row) (filter (keeps having) (map (filled n (length by)) found))) (answer_moved (take n by) shown xs ys moved i)
    ∷ levels_moved by shown having xs ys levels moved i

group_moved : (rollup : Bool) (by : List ℕ) (shown : List OutputColumn) (having : List Test) (xs ys : List (List Value)) → IsPermutation xs ys → group_answer rollup by shown having xs ≡ group_answer rollup by shown having ys
group_moved false by shown having xs ys moved = having_moved by shown having xs ys moved
group_moved true by shown having xs ys moved = ap (λ told. option_map (flat_map (λ rows. rows)) (all_of told)) (levels_moved by shown having xs ys (levels by) moved)

-- no two of the different keys are the same
pub different_told : (on : List ℕ) (rows : List (List Value)) → IsTrue (no_repeats same_key (map (λ key. key) (keys on rows)))
different_told on rows = subst (λ ks. IsTrue (no_repeats same_key ks)) (sym (map_itself (keys on rows))) (no_repeats-without same_key (map (key_of on) rows))

distinct_moved : (on : List ℕ) (xs ys : List (List Value)) → IsPermutation xs ys → distinct_keys on xs ≡ distinct_keys on ys
distinct_moved on xs ys moved =
    each (in_order (λ key. key) (keys on xs))
    ∙ ap (map (λ key. shown_key on (of_key on ys key))) (sym (in_order-same_rows (λ key. key) (keys on xs) (keys on ys) (different_told on xs) (keys-permutation on xs ys moved)))
  where
    each : (ks : List (List Value)) → map (λ key. shown_key on (of_key on xs key)) ks ≡ map (λ key. shown_key on (of_key on ys key)) ks
    each [] = refl
    each (k ∷ ks) = λ i. shown_key_moved on (of_key on xs k) (of_key on ys k) (of_key-permutation on xs ys k moved) i ∷ each ks i

-- the rows shown of the same rows in another order
listed_moved : (key : List ℕ) (xs ys : List (List Value)) → IsTrue (keys_differ key xs) → IsPermutation xs ys → in_order (ordered_by key) xs ≡ in_order (ordered_by key) ys
listed_moved [] xs ys differ moved = sym (in_order-same_rows_by_row xs ys moved)
listed_moved (column ∷ columns) xs ys differ moved = sym (in_order-same_rows (key_of (column ∷ columns)) xs ys differ moved)

pub order_is_unseen : OrderIsUnseen
order_is_unseen = record {
  grouped = λ rollup by shown having tests m us vs xs ys others moved. group_moved rollup by shown having (rows_kept tests m us xs) (rows_kept tests m vs ys) (kept_moved tests m us vs xs ys others moved);
  told_apart = λ on tests m us vs xs ys others moved. distinct_moved on (rows_kept tests m us xs) (rows_kept tests m vs ys) (kept_moved tests m us vs xs ys others moved);
  listed = λ s t schema differ moved. listed_moved s.schema.key s.rows t.rows differ moved ∙ ap (λ (h : PlainSchema). in_order (ordered_by h.key) t.rows) schema;
}
