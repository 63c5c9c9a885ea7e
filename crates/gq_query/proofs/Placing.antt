-- A grouping of rows of some cells alone is that of the rows.
use Rattle.std.proofs.Common.{◌≡◌, ◌<◌, ◌+◌, ℕ, zero, suc, pos, Bool, true, false, cond, not, ◌||◌, ◌&&◌, List, [], ◌∷◌, ◌++◌, length, map, All, nat_lt, refl, sym, ap, ◌∙◌, arith, Some, None, slice_index_or, eq-eqb}
use Rattle.std.specs.Prelude.{nat_eq, unwrap_or}
use Rattle.std.specs.List.{fold, list_all, list_any, position_or_len}
use Rattle.std.proofs.lemmas.Bool.{false≢true, eqb-true, ltb-true, lt-ltb, and_parts, and_from}
use Rattle.std.proofs.lemmas.List.{length-map, map-append}
use Rattle.std.proofs.lemmas.List.Folds.{list_any-append}
use Rattle.std.proofs.lemmas.List.Elements.{All-nil, All-cons, All-head, All-tail}
use Rattle.gq_row.specs.declared.value.Value.{Value}
use Rattle.gq_row.specs.declared.value.Value.TheVariants.{Null, Int, Text, NoCase}
use Rattle.gq_row.specs.declared.schema.Column.{Column}
use Rattle.gq_row.specs.declared.schema.Kind.{Kind}
use Rattle.gq_row.specs.declared.schema.Kind.TheVariants as kind
use Rattle.gq_row.specs.Fitting.{goes_in, fits_columns}
use Rattle.gq_row.specs.Folding.{folded}
use Rattle.gq_row.proofs.FittingLemmas.{as_long}
use Rattle.gq_row.specs.Order.{same_key}
use Rattle.gq_row.specs.Repeats.{without_repeats}
use Rattle.gq_row.specs.Rows.{cell, cells_in, key_of}
use Rattle.gq_row.specs.Tables.{keys, of_key}
use Rattle.gq_agg.specs.declared.kind.AggKind.{AggKind}
use Rattle.gq_agg.specs.declared.kind.AggKind.TheVariants as agg
use Rattle.gq_agg.specs.Aggregates.{aggregate, takes, is_text}
use Rattle.gq_agg.specs.Values.{different}
use Rattle.gq_group.specs.Groups.{Spec, keys_of, column_of, answers, group_of, groups, counts_all, fits_cell, has_columns, fits_spec, all_fit}
use Rattle.gq_group.specs.Distinct.{distinct_group, distinct_groups, all_have}
use Rattle.gq_group.specs.Distinct as distinct
use Rattle.gq_select.specs.Asking.{kind_at, takes_kind, can_take}
use Rattle.gq_query.specs.Cells.{is_used, with_column, with_agg, columns_used, place_of, placed_columns, placed_aggs, placed}

or_true : (b : Bool) → (b || true) ≡ true
or_true true = refl
or_true false = refl

or_then : (b c d : Bool) → (b || c) ≡ true → (c ≡ true → d ≡ true) → (b || d) ≡ true
or_then true c d h f = refl
or_then false c d h f = f h

all_weaker : {X : Type 0} (p q : X → Bool) → ((x : X) → p x ≡ true → q x ≡ true) → (xs : List X) → list_all p xs ≡ true → list_all q xs ≡ true
all_weaker p q f [] h = refl
all_weaker p q f (x ∷ xs) h =
    let parts = and_parts (p x) (list_all p xs) h in
    and_from (q x) (list_all q xs) (f x parts.0) (all_weaker p q f xs parts.1)

all_push : {X : Type 0} (p : X → Bool) (xs : List X) (x : X) → list_all p xs ≡ true → p x ≡ true → list_all p (xs ++ x ∷ []) ≡ true
all_push p [] x h k = and_from (p x) true k refl
all_push p (y ∷ xs) x h k =
    let parts = and_parts (p y) (list_all p xs) h in
    and_from (p y) (list_all p (xs ++ x ∷ [])) parts.0 (all_push p xs x parts.1 k)

-- ---- each column that is asked for is used

with_keeps : (columns : List ℕ) (c x : ℕ) → is_used columns x ≡ true → is_used (with_column columns c) x ≡ true
with_keeps columns c x h = told (is_used columns c)
  where
    told : (b : Bool) → is_used (cond b columns (columns ++ c ∷ [])) x ≡ true
    told true = h
    told false = list_any-append (λ other. nat_eq other x) columns (c ∷ []) ∙ ap (λ b. b || list_any (λ other. nat_eq other x) (c ∷ [])) h

with_itself : (columns : List ℕ) (c : ℕ) → is_used (with_column columns c) c ≡ true
with_itself columns c = told (is_used columns c) refl
  where
    told : (b : Bool) → is_used columns c ≡ b → is_used (cond b columns (columns ++ c ∷ [])) c ≡ true
    told true e = e
    told false e = list_any-append (λ other. nat_eq other c) columns (c ∷ []) ∙ ap (λ b. is_used columns c || (b || false)) (eq-eqb c c refl) ∙ or_true (is_used columns c)

agg_keeps : (columns : List ℕ) (a : AggKind × ℕ) (x : ℕ) → is_used columns x ≡ true → is_used (with_agg columns a) x ≡ true
agg_keeps columns a x h = told (counts_all a.0)
  where
    told : (b : Bool) → is_used (cond b columns (with_column columns a.1)) x ≡ true
    told true = h
    told false = with_keeps columns a.1 x h

agg_itself : (columns : List ℕ) (a : AggKind × ℕ) → (counts_all a.0 || is_used (with_agg columns a) a.1) ≡ true
agg_itself columns a = told (counts_all a.0)
  where
    told : (b : Bool) → (b || is_used (cond b columns (with_column columns a.1)) a.1) ≡ true
    told true = refl
    told false = with_itself columns a.1

columns_keep : (more columns : List ℕ) (x : ℕ) → is_used columns x ≡ true → is_used (fold with_column columns more) x ≡ true
columns_keep [] columns x h = h
columns_keep (c ∷ more) columns x h = columns_keep more (with_column columns c) x (with_keeps columns c x h)

aggs_keep : (aggs : List (AggKind × ℕ)) (columns : List ℕ) (x : ℕ) → is_used columns x ≡ true → is_used (fold with_agg columns aggs) x ≡ true
aggs_keep [] columns x h = h
aggs_keep (a ∷ aggs) columns x h = aggs_keep aggs (with_agg columns a) x (agg_keeps columns a x h)

columns_there : (by columns : List ℕ) → list_all (is_used (fold with_column columns by)) by ≡ true
columns_there [] columns = refl
columns_there (c ∷ by) columns =
    let all : List ℕ = fold with_column (with_column columns c) by in
    and_from (is_used all c) (list_all (is_used all) by) (columns_keep by (with_column columns c) c (with_itself columns c)) (columns_there by (with_column columns c))

aggs_there : (aggs : List (AggKind × ℕ)) (columns : List ℕ) → list_all (λ a. counts_all a.0 || is_used (fold with_agg columns aggs) a.1) aggs ≡ true
aggs_there [] columns = refl
aggs_there (a ∷ aggs) columns =
    let all : List ℕ = fold with_agg (with_agg columns a) aggs in
    and_from (counts_all a.0 || is_used all a.1) (list_all (λ b. counts_all b.0 || is_used all b.1) aggs)
    (or_then (counts_all a.0) (is_used (with_agg columns a) a.1) (is_used all a.1) (agg_itself columns a) (aggs_keep aggs (with_agg columns a) a.1))
    (aggs_there aggs (with_agg columns a))

pub by_used : (spec : Spec) → list_all (is_used (columns_used spec)) spec.by ≡ true
by_used spec = all_weaker (is_used (fold with_column [] spec.by)) (is_used (columns_used spec)) (λ x h. aggs_keep spec.aggs (fold with_column [] spec.by) x h) spec.by (columns_there spec.by [])

pub aggs_used : (spec : Spec) → list_all (λ a. counts_all a.0 || is_used (columns_used spec) a.1) spec.aggs ≡ true
aggs_used spec = aggs_there spec.aggs (fold with_column [] spec.by)

-- ---- and each that is used is a column

module _ (width : ℕ) where
  abbrev within : ℕ → Bool
  within column = nat_lt column width

  with_within : (columns : List ℕ) (c : ℕ) → list_all within columns ≡ true → within c ≡ true → list_all within (with_column columns c) ≡ true
  with_within columns c h k = told (is_used columns c)
    where
      told : (b : Bool) → list_all within (cond b columns (columns ++ c ∷ [])) ≡ true
      told true = h
      told false = all_push within columns c h k

  columns_within : (more columns : List ℕ) → list_all within columns ≡ true → list_all within more ≡ true → list_all within (fold with_column columns more) ≡ true
  columns_within [] columns h k = h
  columns_within (c ∷ more) columns h k =
      let parts = and_parts (within c) (list_all within more) k in
      columns_within more (with_column columns c) (with_within columns c h parts.0) parts.1

  agg_within : (columns : List ℕ) (a : AggKind × ℕ) → list_all within columns ≡ true → (counts_all a.0 || within a.1) ≡ true → list_all within (with_agg columns a) ≡ true
  agg_within columns a h k = told (counts_all a.0) k
    where
      told : (b : Bool) → (b || within a.1) ≡ true → list_all within (cond b columns (with_column columns a.1)) ≡ true
      told true e = h
      told false e = with_within columns a.1 h e

  aggs_within : (aggs : List (AggKind × ℕ)) (columns : List ℕ) → list_all within columns ≡ true → list_all (λ a. counts_all a.0 || within a.1) aggs ≡ true → list_all within (fold with_agg columns aggs) ≡ true
  aggs_within [] columns h k = h
  aggs_within (a ∷ aggs) columns h k =
      let parts = and_parts (counts_all a.0 || within a.1) (list_all (λ b. counts_all b.0 || within b.1) aggs) k in
      aggs_within aggs (with_agg columns a) (agg_within columns a h parts.0) parts.1

  from_tests : (columns : List ℕ) → list_all within columns ≡ true → All (λ column. column < width) columns
  from_tests [] h = All-nil (λ column. column < width)
  from_tests (c ∷ columns) h =
      let parts = and_parts (within c) (list_all within columns) h in
      All-cons (λ column. column < width) c columns (ltb-true c width parts.0) (from_tests columns parts.1)

  to_tests : (columns : List ℕ) → All (λ column. column < width) columns → list_all within columns ≡ true
  to_tests [] h = refl
  to_tests (c ∷ columns) h = and_from (within c) (list_all within columns) (lt-ltb c width (All-head (λ column. column < width) c columns h)) (to_tests columns (All-tail (λ column. column < width) c columns h))

taken_within : (columns : List Column) (a : AggKind × ℕ) → can_take columns a ≡ true → (counts_all a.0 || nat_lt a.1 (length columns)) ≡ true
taken_within columns a h = told (counts_all a.0) h
  where
    told : (b : Bool) → (b || (nat_lt a.1 (length columns) && takes_kind a.0 (kind_at columns a.1))) ≡ true → (b || nat_lt a.1 (length columns)) ≡ true
    told true e = refl
    told false e = (and_parts (nat_lt a.1 (length columns)) (takes_kind a.0 (kind_at columns a.1)) e).0

pub used_within : (columns : List Column) (spec : Spec) → All (λ column. column < length columns) spec.by → list_all (can_take columns) spec.aggs ≡ true → All (λ column. column < length columns) (columns_used spec)
used_within columns spec h k =
    from_tests (length columns) (columns_used spec) (aggs_within (length columns) spec.aggs (fold with_column [] spec.by)
    (columns_within (length columns) spec.by [] refl (to_tests (length columns) spec.by h))
    (all_weaker (can_take columns) (λ a. counts_all a.0 || nat_lt a.1 (length columns)) (taken_within columns) spec.aggs k))

-- ---- a cell at its place

first_there : (columns : List ℕ) (column : ℕ) (row : List Value) → is_used columns column ≡ true
    → (position_or_len (λ other. nat_eq other column) columns < length columns) × (slice_index_or (map (cell row) columns) (position_or_len (λ other. nat_eq other column) columns) Null ≡ cell row column)
first_there [] column row h = absurd (false≢true h)
first_there (c ∷ columns) column row h = told (nat_eq c column) refl h (first_there columns column row)
  where
    told : (b : Bool) → nat_eq c column ≡ b → (b || is_used columns column) ≡ true
        → (is_used columns column ≡ true → (position_or_len (λ other. nat_eq other column) columns < length columns) × (slice_index_or (map (cell row) columns) (position_or_len (λ other. nat_eq other column) columns) Null ≡ cell row column))
        → (cond (not b) (1 + position_or_len (λ other. nat_eq other column) columns) 0 < length (c ∷ columns))
        × (slice_index_or (cell row c ∷ map (cell row) columns) (cond (not b) (1 + position_or_len (λ other. nat_eq other column) columns) 0) Null ≡ cell row column)
    told true e u later = (omega arith, ap (cell row) (eqb-true c column e))
    told false e u later =
        let rest = later u in
        let more : 1 + position_or_len (λ other. nat_eq other column) columns ≡ suc (position_or_len (λ other. nat_eq other column) columns) = omega arith in
        (omega (arith, rest.0), ap (λ n. slice_index_or (cell row c ∷ map (cell row) columns) n Null) more ∙ rest.1)

pub record IsPlaced (columns : List ℕ) (column : ℕ) (row : List Value) : Type 0 where
  pub within : place_of columns column < length columns
  pub is : cell (cells_in columns row) (place_of columns column) ≡ cell row column

pub is_placed : (columns : List ℕ) (column : ℕ) (row : List Value) → is_used columns column ≡ true → IsPlaced columns column row
is_placed columns column row h =
    let it = first_there columns column row h in
    let first : ℕ = position_or_len (λ other. nat_eq other column) columns in
    let less : first < length columns = it.0 in
    let there : place_of columns column ≡ first = ap (λ b. unwrap_or (cond b (Some first) None) 0) (lt-ltb first (length columns) less) in
    record {
      within = omega (arith, less, there);
      is = ap (λ n. slice_index_or (map (cell row) columns) n Null) there ∙ it.1;
    }

module _ (columns : List ℕ) where
  abbrev narrow : List Value → List Value
  narrow row = cells_in columns row

  key_placed : (by : List ℕ) (row : List Value) → list_all (is_used columns) by ≡ true → key_of (placed_columns columns by) (narrow row) ≡ key_of by row
  key_placed [] row h = refl
  key_placed (c ∷ by) row h =
      let parts = and_parts (is_used columns c) (list_all (is_used columns) by) h in
      λ i. folded ((is_placed columns c row parts.0).is i) ∷ key_placed by row parts.1 i

  column_placed : (c : ℕ) (rows : List (List Value)) → is_used columns c ≡ true → column_of (place_of columns c) (map narrow rows) ≡ column_of c rows
  column_placed c [] h = refl
  column_placed c (row ∷ rows) h = λ i. (is_placed columns c row h).is i ∷ column_placed c rows h i

  of_key_placed : (by : List ℕ) (rows : List (List Value)) (k : List Value) → list_all (is_used columns) by ≡ true → of_key (placed_columns columns by) (map narrow rows) k ≡ map narrow (of_key by rows k)
  of_key_placed by [] k h = refl
  of_key_placed by (row ∷ rows) k h =
      ap (λ key. cond (same_key key k) (narrow row ∷ of_key (placed_columns columns by) (map narrow rows) k) (of_key (placed_columns columns by) (map narrow rows) k)) (key_placed by row h)
      ∙ kept (same_key (key_of by row) k) (of_key_placed by rows k h)
    where
      kept : (b : Bool) → of_key (placed_columns columns by) (map narrow rows) k ≡ map narrow (of_key by rows k)
          → cond b (narrow row ∷ of_key (placed_columns columns by) (map narrow rows) k) (of_key (placed_columns columns by) (map narrow rows) k) ≡ map narrow (cond b (row ∷ of_key by rows k) (of_key by rows k))
      kept true e = ap (λ l. narrow row ∷ l) e
      kept false e = e

  each_key : (by : List ℕ) (rows : List (List Value)) → list_all (is_used columns) by ≡ true → map (key_of (placed_columns columns by)) (map narrow rows) ≡ map (key_of by) rows
  each_key by [] h = refl
  each_key by (row ∷ rows) h = λ i. key_placed by row h i ∷ each_key by rows h i

  keys_placed : (by : List ℕ) (rows : List (List Value)) → list_all (is_used columns) by ≡ true → keys_of (placed_columns columns by) (map narrow rows) ≡ keys_of by rows
  keys_placed [] rows h = refl
  keys_placed (c ∷ by) rows h = ap (without_repeats same_key) (each_key (c ∷ by) rows h)

  agg_placed : (k : AggKind) (c : ℕ) (rows : List (List Value)) → (counts_all k || is_used columns c) ≡ true → aggregate k (column_of (place_of columns c) (map narrow rows)) ≡ aggregate k (column_of c rows)
  agg_placed agg.CountAll c rows h =
      ap (λ n. Some (Int (pos n)))
      (length-map (map narrow rows) (λ row. cell row (place_of columns c)) ∙ length-map rows narrow ∙ sym (length-map rows (λ row. cell row c)))
  agg_placed agg.Count c rows h = ap (aggregate agg.Count) (column_placed c rows h)
  agg_placed agg.Sum c rows h = ap (aggregate agg.Sum) (column_placed c rows h)
  agg_placed agg.Min c rows h = ap (aggregate agg.Min) (column_placed c rows h)
  agg_placed agg.Max c rows h = ap (aggregate agg.Max) (column_placed c rows h)

  answers_placed : (aggs : List (AggKind × ℕ)) (rows : List (List Value)) → list_all (λ a. counts_all a.0 || is_used columns a.1) aggs ≡ true → answers (placed_aggs columns aggs) (map narrow rows) ≡ answers aggs rows
  answers_placed [] rows h = refl
  answers_placed (a ∷ aggs) rows h =
      let parts = and_parts (counts_all a.0 || is_used columns a.1) (list_all (λ b. counts_all b.0 || is_used columns b.1) aggs) h in
      λ i. agg_placed a.0 a.1 rows parts.0 i ∷ answers_placed aggs rows parts.1 i

  each_group : (spec : Spec) (rows ks : List (List Value)) → list_all (is_used columns) spec.by ≡ true → list_all (λ a. counts_all a.0 || is_used columns a.1) spec.aggs ≡ true
      → map (group_of (placed columns spec) (map narrow rows)) ks ≡ map (group_of spec rows) ks
  each_group spec rows [] h g = refl
  each_group spec rows (k ∷ ks) h g = λ i.
      (k, (ap (answers (placed_aggs columns spec.aggs)) (of_key_placed spec.by rows k h) ∙ answers_placed spec.aggs (of_key spec.by rows k) g) i)
      ∷ each_group spec rows ks h g i

  -- ---- and it can be had

  has_placed : (by : List ℕ) (row : List Value) → list_all (is_used columns) by ≡ true → has_columns (placed_columns columns by) (narrow row) ≡ true
  has_placed [] row h = refl
  has_placed (c ∷ by) row h =
      let parts = and_parts (is_used columns c) (list_all (is_used columns) by) h in
      let placed_there = is_placed columns c row parts.0 in
      and_from (nat_lt (place_of columns c) (length (narrow row))) (has_columns (placed_columns columns by) (narrow row))
      (lt-ltb (place_of columns c) (length (narrow row)) (omega (arith, placed_there.within, length-map columns (cell row))))
      (has_placed by row parts.1)

  fits_placed_cell : (k : AggKind) (c : ℕ) (row : List Value) → (counts_all k || is_used columns c) ≡ true → (counts_all k || takes k (cell row c)) ≡ true → fits_cell (narrow row) (k, place_of columns c) ≡ true
  fits_placed_cell k c row h g = told (counts_all k) h g
    where
      told : (b : Bool) → (b || is_used columns c) ≡ true → (b || takes k (cell row c)) ≡ true → (b || (nat_lt (place_of columns c) (length (narrow row)) && takes k (cell (narrow row) (place_of columns c)))) ≡ true
      told true u t = refl
      told false u t =
          let placed_there = is_placed columns c row u in
          and_from (nat_lt (place_of columns c) (length (narrow row))) (takes k (cell (narrow row) (place_of columns c)))
          (lt-ltb (place_of columns c) (length (narrow row)) (omega (arith, placed_there.within, length-map columns (cell row))))
          (ap (takes k) placed_there.is ∙ t)

  fits_placed_cells : (aggs : List (AggKind × ℕ)) (row : List Value) → list_all (λ a. counts_all a.0 || is_used columns a.1) aggs ≡ true → list_all (λ a. counts_all a.0 || takes a.0 (cell row a.1)) aggs ≡ true
      → list_all (fits_cell (narrow row)) (placed_aggs columns aggs) ≡ true
  fits_placed_cells [] row h g = refl
  fits_placed_cells (a ∷ aggs) row h g =
      let used = and_parts (counts_all a.0 || is_used columns a.1) (list_all (λ b. counts_all b.0 || is_used columns b.1) aggs) h in
      let taken = and_parts (counts_all a.0 || takes a.0 (cell row a.1)) (list_all (λ b. counts_all b.0 || takes b.0 (cell row b.1)) aggs) g in
      and_from (fits_cell (narrow row) (a.0, place_of columns a.1)) (list_all (fits_cell (narrow row)) (placed_aggs columns aggs))
      (fits_placed_cell a.0 a.1 row used.0 taken.0) (fits_placed_cells aggs row used.1 taken.1)

-- the groups of the rows of these cells are those of the rows
pub groups_placed : (spec : Spec) (rows : List (List Value)) → groups (placed (columns_used spec) spec) (map (cells_in (columns_used spec)) rows) ≡ groups spec rows
groups_placed spec rows =
    let columns : List ℕ = columns_used spec in
    ap (map (group_of (placed columns spec) (map (cells_in columns) rows))) (keys_placed columns spec.by rows (by_used spec))
    ∙ each_group columns spec rows (keys_of spec.by rows) (by_used spec) (aggs_used spec)

-- and so are the keys of these rows
pub same_keys : (spec : Spec) (rows : List (List Value)) → keys_of (placed_columns (columns_used spec) spec.by) (map (cells_in (columns_used spec)) rows) ≡ keys_of spec.by rows
same_keys spec rows = keys_placed (columns_used spec) spec.by rows (by_used spec)

-- ---- the cells of a table's rows

sum_cell : (k : Kind) (v : Value) → goes_in k v ≡ true → takes_kind agg.Sum k ≡ true → not (is_text v) ≡ true
sum_cell k Null h t = refl
sum_cell k (Int n) h t = refl
sum_cell kind.Int (Text s) h t = absurd (false≢true h)
sum_cell kind.Int (NoCase s) h t = absurd (false≢true h)
sum_cell kind.Text (Text s) h t = absurd (false≢true t)
sum_cell kind.Text (NoCase s) h t = absurd (false≢true t)
sum_cell kind.NoCase (Text s) h t = absurd (false≢true t)
sum_cell kind.NoCase (NoCase s) h t = absurd (false≢true t)

no_text : (columns : List Column) (row : List Value) (c : ℕ) → fits_columns columns row ≡ true → nat_lt c (length columns) ≡ true → takes_kind agg.Sum (kind_at columns c) ≡ true → not (is_text (cell row c)) ≡ true
no_text [] row c fits less t = let below : c < 0 = ltb-true c 0 less in absurd (omega arith)
no_text (col ∷ columns) [] c fits less t = absurd (false≢true fits)
no_text (col ∷ columns) (v ∷ row) zero fits less t = sum_cell col.kind v (and_parts (goes_in col.kind v) (fits_columns columns row) fits).0 t
no_text (col ∷ columns) (v ∷ row) (suc c) fits less t =
    let below : suc c < suc (length columns) = ltb-true (suc c) (suc (length columns)) less in
    no_text columns row c (and_parts (goes_in col.kind v) (fits_columns columns row) fits).1 (lt-ltb c (length columns) (omega arith)) t

takes_cell : (columns : List Column) (row : List Value) (k : AggKind) (c : ℕ) → fits_columns columns row ≡ true → can_take columns (k, c) ≡ true → (counts_all k || takes k (cell row c)) ≡ true
takes_cell columns row agg.CountAll c fits h = refl
takes_cell columns row agg.Count c fits h = refl
takes_cell columns row agg.Sum c fits h =
    let parts = and_parts (nat_lt c (length columns)) (takes_kind agg.Sum (kind_at columns c)) h in
    no_text columns row c fits parts.0 parts.1
takes_cell columns row agg.Min c fits h = refl
takes_cell columns row agg.Max c fits h = refl

pub all_fit_placed : (columns : List Column) (spec : Spec) (rows : List (List Value)) → list_all (fits_columns columns) rows ≡ true → list_all (can_take columns) spec.aggs ≡ true
    → all_fit (placed (columns_used spec) spec) (map (cells_in (columns_used spec)) rows) ≡ true
all_fit_placed columns spec [] fits h = refl
all_fit_placed columns spec (row ∷ rows) fits h =
    let parts = and_parts (fits_columns columns row) (list_all (fits_columns columns) rows) fits in
    let used : List ℕ = columns_used spec in
    and_from (fits_spec (placed used spec) (cells_in used row)) (all_fit (placed used spec) (map (cells_in used) rows))
    (and_from (has_columns (placed_columns used spec.by) (cells_in used row)) (list_all (fits_cell (cells_in used row)) (placed_aggs used spec.aggs))
    (has_placed used spec.by row (by_used spec))
    (fits_placed_cells used spec.aggs row (aggs_used spec) (all_weaker (can_take columns) (λ a. counts_all a.0 || takes a.0 (cell row a.1)) (λ a k. takes_cell columns row a.0 a.1 parts.0 k) spec.aggs h)))
    (all_fit_placed columns spec rows parts.1 h)

-- each row of a table has the cells that are used
pub rows_ready : (columns : List Column) (used : List ℕ) (rows : List (List Value)) → list_all (fits_columns columns) rows ≡ true → All (λ column. column < length columns) used
    → All (λ row. All (λ column. column < length row) used) rows
rows_ready columns used [] fits h = All-nil (λ row. All (λ column. column < length row) used)
rows_ready columns used (row ∷ rows) fits h =
    let parts = and_parts (fits_columns columns row) (list_all (fits_columns columns) rows) fits in
    All-cons (λ r. All (λ column. column < length r) used) row rows
    (λ k d less. let below = h k d less in omega (arith, below, as_long columns row parts.0))
    (rows_ready columns used rows parts.1 h)

-- ---- a column whose different values are counted

abbrev pub counting : List ℕ → ℕ → Spec
counting by column = record { by = by; aggs = (agg.Count, column) ∷ [] }

counted_used : (by : List ℕ) (column : ℕ) → is_used (columns_used (counting by column)) column ≡ true
counted_used by column = (and_parts (is_used (columns_used (counting by column)) column) true (aggs_used (counting by column))).0

pub counting_within : (columns : List Column) (by : List ℕ) (column : ℕ) → All (λ c. c < length columns) by → column < length columns → All (λ c. c < length columns) (columns_used (counting by column))
counting_within columns by column h less =
    used_within columns (counting by column) h
    (and_from (nat_lt column (length columns) && true) true (and_from (nat_lt column (length columns)) true (lt-ltb column (length columns) less) refl) refl)

distinct_each : (by : List ℕ) (column : ℕ) (rows ks : List (List Value)) → let used = columns_used (counting by column) in
    map (distinct_group (placed_columns used by) (place_of used column) (map (cells_in used) rows)) ks ≡ map (distinct_group by column rows) ks
distinct_each by column rows [] = refl
distinct_each by column rows (k ∷ ks) =
    let used : List ℕ = columns_used (counting by column) in
    let values : column_of (place_of used column) (of_key (placed_columns used by) (map (cells_in used) rows) k) ≡ column_of column (of_key by rows k)
    = ap (column_of (place_of used column)) (of_key_placed used by rows k (by_used (counting by column))) ∙ column_placed used column (of_key by rows k) (counted_used by column) in
    λ i. (k, Int (pos (different (values i))) ∷ []) ∷ distinct_each by column rows ks i

-- the counts of the rows of these cells are those of the rows
pub distinct_placed : (by : List ℕ) (column : ℕ) (rows : List (List Value)) → let used = columns_used (counting by column) in
    distinct_groups (placed_columns used by) (place_of used column) (map (cells_in used) rows) ≡ distinct_groups by column rows
distinct_placed by column rows =
    let used : List ℕ = columns_used (counting by column) in
    ap (map (distinct_group (placed_columns used by) (place_of used column) (map (cells_in used) rows))) (keys_placed used by rows (by_used (counting by column)))
    ∙ distinct_each by column rows (keys_of by rows)

pub all_have_placed : (by : List ℕ) (column : ℕ) (rows : List (List Value)) → let used = columns_used (counting by column) in
    all_have (distinct.with_column (placed_columns used by) (place_of used column)) (map (cells_in used) rows) ≡ true
all_have_placed by column [] = refl
all_have_placed by column (row ∷ rows) =
    let used : List ℕ = columns_used (counting by column) in
    let both = all_push (is_used used) by column (by_used (counting by column)) (counted_used by column) in
    and_from (has_columns (distinct.with_column (placed_columns used by) (place_of used column)) (cells_in used row)) (all_have (distinct.with_column (placed_columns used by) (place_of used column)) (map (cells_in used) rows))
    (ap (λ l. has_columns l (cells_in used row)) (sym (map-append (λ c. place_of used c) by (column ∷ []))) ∙ has_placed used (by ++ column ∷ []) row both)
    (all_have_placed by column rows)

-- ---- different keys

abbrev pub bare : List ℕ → Spec
bare by = record { by = by; aggs = [] }

pub bare_within : (columns : List Column) (by : List ℕ) → All (λ c. c < length columns) by → All (λ c. c < length columns) (columns_used (bare by))
bare_within columns by h = used_within columns (bare by) h refl

-- the different keys of the rows of these cells are those of the rows
pub keys_of_placed : (by : List ℕ) (rows : List (List Value)) → 0 < length by → let used = columns_used (bare by) in keys (placed_columns used by) (map (cells_in used) rows) ≡ keys by rows
keys_of_placed [] rows some = absurd (omega (arith, some))
keys_of_placed (c ∷ by) rows some = keys_placed (columns_used (bare (c ∷ by))) (c ∷ by) rows (by_used (bare (c ∷ by)))

pub bare_have : (by : List ℕ) (rows : List (List Value)) → let used = columns_used (bare by) in all_have (placed_columns used by) (map (cells_in used) rows) ≡ true
bare_have by [] = refl
bare_have by (row ∷ rows) =
    let used : List ℕ = columns_used (bare by) in
    and_from (has_columns (placed_columns used by) (cells_in used row)) (all_have (placed_columns used by) (map (cells_in used) rows))
    (has_placed used by row (by_used (bare by))) (bare_have by rows)
