-- Keys as shown, and the minimum values that take their place.
use Rattle.std.proofs.Common.{◌≡◌, ◌<◌, ℕ, zero, suc, Bool, true, false, cond, ◌||◌, List, [], ◌∷◌, ◌++◌, length, map, fold, get_or, All, refl, sym, ap, ◌∙◌, arith, Option, Some, None, IsTrue}
use Rattle.std.specs.Prelude.{option_map, option_and_then, nat_lt}
use Rattle.std.specs.List.{list_any, list_all}
use Rattle.std.proofs.lemmas.Bool.{false≢true, and_parts, and_from, or_parts, or_from, lt-ltb}
use Rattle.std.proofs.lemmas.List.Elements.{All-nil, All-cons, All-head, All-tail}
use Rattle.std.proofs.lemmas.List.Folds.{list_any_at}
use Rattle.std.proofs.lemmas.List.Sorted.{All-permutation}
use Rattle.gq_row.specs.declared.value.Value.{Value}
use Rattle.gq_row.specs.declared.value.Value.TheVariants.{Null, Int, Text, NoCase}
use Rattle.gq_row.specs.declared.schema.Column.{Column}
use Rattle.gq_row.specs.declared.schema.Kind.{Kind}
use Rattle.gq_row.specs.declared.schema.Kind.TheVariants as kind
use Rattle.gq_row.specs.Fitting.{fits_columns, goes_in}
use Rattle.gq_row.specs.Folding.{has_case}
use Rattle.gq_row.specs.Order.{same_key}
use Rattle.gq_row.specs.Ordered.{in_order}
use Rattle.gq_row.specs.Rows.{cell, cells_in, key_of}
use Rattle.gq_row.specs.Tables.{keys, of_key}
use Rattle.gq_row.proofs.ArrangeLemmas.{in_order-permutation}
use Rattle.gq_row.proofs.DistinctLemmas.{any_without_repeats}
use Rattle.gq_row.proofs.FoldLemmas.{key_plain}
use Rattle.gq_row.proofs.OrderLemmas.{same_key_equiv, same_key_exact, same_key_itself}
use Rattle.gq_agg.specs.declared.kind.AggKind.TheVariants.{Min}
use Rattle.gq_agg.specs.Values.{least, lesser, is_less}
use Rattle.gq_spill.specs.Runs.{Runs}
use Rattle.gq_group.specs.Access.{GroupCause, HasCause}
use Rattle.gq_group.specs.declared.refusal.Refusal.{Refusal}
use Rattle.gq_group.specs.declared.refusal.Refusal.TheVariants.{SumRange, Memory, StoreFault, Damaged}
use Rattle.gq_group.specs.Phases.{as_damaged}
use Rattle.gq_group.specs.Groups.{Group, keys_of, column_of, answered}
use Rattle.gq_select.specs.Asking.{all_of, kind_at, is_valid_for}
use Rattle.gq_select.specs.declared.output_column.OutputColumn.{OutputColumn}
use Rattle.gq_select.specs.declared.output_column.OutputColumn.TheVariants.{Aggregate}
use Rattle.gq_query.specs.Answers.{shown_value, shown_key, result_row, answer, distinct_keys}
use Rattle.gq_query.specs.Joining.{row_of, shown_of, AreShown, folded_row, folded_answer, folded_keys}
use Rattle.gq_query.specs.Spelling.{is_nocase, has_spellings, least_shown}
use Rattle.gq_query.proofs.Joined.{cons_head, cons_tail, all_some, rest_none, nothing_behind}

abbrev Told : Type 0
Told = List Value × List (Option Value)

-- ---- the least values before what is shown

-- what is shown of some rows
abbrev values_of : List (List Value) → List OutputColumn → List (Option Value)
values_of rows shown = map (λ s. shown_value s rows) shown

least_told : (by : List ℕ) (rows : List (List Value)) → values_of rows (least_shown by) ≡ map Some (shown_key by rows)
least_told [] rows = refl
least_told (c ∷ by) rows = ap (λ l. Some (least (column_of c rows)) ∷ l) (least_told by rows)

-- values before others
before_some : (ys : List Value) (xs : List (Option Value)) → all_of (map Some ys ++ xs) ≡ option_map (λ vs. ys ++ vs) (all_of xs)
before_some [] xs = sym (itself (all_of xs))
  where
    itself : (o : Option (List Value)) → option_map (λ vs. vs) o ≡ o
    itself None = refl
    itself (Some vs) = refl
before_some (y ∷ ys) xs = ap (option_map (λ vs. y ∷ vs)) (before_some ys xs) ∙ told (all_of xs)
  where
    told : (o : Option (List Value)) → option_map (λ vs. y ∷ vs) (option_map (λ vs. ys ++ vs) o) ≡ option_map (λ vs. (y ∷ ys) ++ vs) o
    told None = refl
    told (Some vs) = refl

values_append : (mine : List (List Value)) (firsts others : List OutputColumn) → values_of mine (firsts ++ others) ≡ values_of mine firsts ++ values_of mine others
values_append mine [] others = refl
values_append mine (a ∷ firsts) others = ap (λ l. shown_value a mine ∷ l) (values_append mine firsts others)

module _ (by : List ℕ) (shown : List OutputColumn) (rows : List (List Value)) where
  abbrev with_least : List OutputColumn
  with_least = least_shown by ++ shown

  -- the least values and what is shown are the result row of a key
  told_row : (k : List Value) → all_of (values_of (of_key by rows k) with_least) ≡ result_row by shown rows k
  told_row k =
      let mine = of_key by rows k in
      ap all_of (values_append mine (least_shown by) shown ∙ ap (λ l. l ++ values_of mine shown) (least_told by mine))
      ∙ before_some (shown_key by mine) (values_of mine shown)

  spelled_one : (k : List Value) (g : Group) → answered g ≡ shown_of by with_least rows k → result_row by shown rows k ≡ Some g.1
  spelled_one k g h = sym (told_row k) ∙ ap all_of (sym (ap (λ (p : Told). p.1) h)) ∙ all_some g.1

  spelled_all : (ks : List (List Value)) (gs : List Group) → map answered gs ≡ map (shown_of by with_least rows) ks
      → all_of (map (result_row by shown rows) ks) ≡ Some (map row_of (map (λ g. ([], g.1)) gs))
  spelled_all [] [] h = refl
  spelled_all [] (g ∷ gs) h = let none : ⊥ = cc in absurd none
  spelled_all (k ∷ ks) [] h = let none : ⊥ = cc in absurd none
  spelled_all (k ∷ ks) (g ∷ gs) h =
      let first = spelled_one k g (cons_head (answered g) (shown_of by with_least rows k) (map answered gs) (map (shown_of by with_least rows) ks) h) in
      let rest = spelled_all ks gs (cons_tail (answered g) (shown_of by with_least rows k) (map answered gs) (map (shown_of by with_least rows) ks) h) in
      λ i. option_and_then (λ x. option_map (λ xs. x ∷ xs) (rest i)) (first i)

  -- groups that have the least values before what is shown are the answer, without their keys
  pub spelled_answer : (gs : List Group) → AreShown by with_least rows gs → answer by shown rows ≡ Some (map row_of (map (λ g. ([], g.1)) gs))
  spelled_answer gs h = spelled_all (in_order (λ key. key) (keys_of by rows)) gs h

  -- ---- where some sum is out of range there is no answer, whether keys are asked for or not

  row_none : (k : List Value) → folded_row by with_least rows k ≡ None → result_row by shown rows k ≡ None
  row_none k h = sym (told_row k) ∙ told (all_of (values_of (of_key by rows k) with_least)) h
    where
      told : (o : Option (List Value)) → option_map (λ vs. k ++ vs) o ≡ None → o ≡ None
      told None e = refl
      told (Some vs) e = let none : ⊥ = cc in absurd none

  rows_none : (ks : List (List Value)) → all_of (map (folded_row by with_least rows) ks) ≡ None → all_of (map (result_row by shown rows) ks) ≡ None
  rows_none [] h = let none : ⊥ = cc in absurd none
  rows_none (k ∷ ks) h = told (folded_row by with_least rows k) refl (all_of (map (folded_row by with_least rows) ks)) refl h (rows_none ks)
    where
      told : (o : Option (List Value)) → folded_row by with_least rows k ≡ o → (p : Option (List (List Value))) → all_of (map (folded_row by with_least rows) ks) ≡ p
          → option_and_then (λ x. option_map (λ xs. x ∷ xs) p) o ≡ None
          → (all_of (map (folded_row by with_least rows) ks) ≡ None → all_of (map (result_row by shown rows) ks) ≡ None) → all_of (map (result_row by shown rows) (k ∷ ks)) ≡ None
      told None is p are e later = ap (option_and_then (λ x. option_map (λ xs. x ∷ xs) (all_of (map (result_row by shown rows) ks)))) (row_none k is)
      told (Some x) is None are e later = rest_none (result_row by shown rows k) (map (result_row by shown rows) ks) (later are)
      told (Some x) is (Some xs) are e later = let none : ⊥ = cc in absurd none

  pub no_spelled_answer : folded_answer by with_least rows ≡ None → answer by shown rows ≡ None
  no_spelled_answer h = rows_none (in_order (λ key. key) (keys_of by rows)) h

-- ---- keys without a text that has no case are shown unchanged

least_first : (v : Value) → lesser Null v ≡ v
least_first Null = refl
least_first (Int n) = refl
least_first (Text t) = refl
least_first (NoCase t) = refl

least_again : (v : Value) → lesser v v ≡ v
least_again v = told (is_less v v)
  where
    told : (b : Bool) → cond b v v ≡ v
    told true = refl
    told false = refl

module _ (c : ℕ) (v : Value) where
  least_stays : (rows : List (List Value)) → All (λ row. cell row c ≡ v) rows → fold lesser v (column_of c rows) ≡ v
  least_stays [] h = refl
  least_stays (row ∷ rows) h =
      ap (λ x. fold lesser x (column_of c rows)) (ap (lesser v) (All-head (λ r. cell r c ≡ v) row rows h) ∙ least_again v)
      ∙ least_stays rows (All-tail (λ r. cell r c ≡ v) row rows h)

  -- the least of values that are all one is that one
  pub least_same : (row : List Value) (rows : List (List Value)) → All (λ r. cell r c ≡ v) (row ∷ rows) → least (column_of c (row ∷ rows)) ≡ v
  least_same row rows h =
      ap (λ x. fold lesser x (column_of c rows)) (ap (lesser Null) (All-head (λ r. cell r c ≡ v) row rows h) ∙ least_first v)
      ∙ least_stays rows (All-tail (λ r. cell r c ≡ v) row rows h)

all_map : {X : Type 0} {P Q : X → Type 0} → ((x : X) → P x → Q x) → (xs : List X) → All P xs → All Q xs
all_map f xs h = λ i d low. f (get_or xs i d) (h i d low)

key_alone : (by : List ℕ) (key row : List Value) (rows : List (List Value)) → All (λ r. cells_in by r ≡ key) (row ∷ rows) → shown_key by (row ∷ rows) ≡ key
key_alone [] key row rows h = All-head (λ r. cells_in [] r ≡ key) row rows h
key_alone (c ∷ by) [] row rows h = let none : ⊥ = let first = All-head (λ r. cells_in (c ∷ by) r ≡ []) row rows h in cc in absurd none
key_alone (c ∷ by) (v ∷ key) row rows h =
    let first = least_same c v row rows (all_map (λ r e. cons_head (cell r c) v (cells_in by r) key e) (row ∷ rows) h) in
    let rest = key_alone by key row rows (all_map (λ r e. cons_tail (cell r c) v (cells_in by r) key e) (row ∷ rows) h) in
    λ i. first i ∷ rest i

-- the values of a row in some columns are all distinguished by case
abbrev pub Plain : List ℕ → List (List Value) → Type 0
Plain by rows = IsTrue (list_all (λ row. list_all has_case (cells_in by row)) rows)

module _ (by : List ℕ) where
  -- the rows of a key have its values
  rows_alike : (key : List Value) (rows : List (List Value)) → Plain by rows → All (λ row. cells_in by row ≡ key) (of_key by rows key)
  rows_alike key [] plain = All-nil (λ row. cells_in by row ≡ key)
  rows_alike key (row ∷ rows) plain =
      let parts = and_parts (list_all has_case (cells_in by row)) (list_all (λ r. list_all has_case (cells_in by r)) rows) plain in
      told (same_key (key_of by row) key) refl parts.0 (rows_alike key rows parts.1)
    where
      told : (b : Bool) → same_key (key_of by row) key ≡ b → list_all has_case (cells_in by row) ≡ true → All (λ r. cells_in by r ≡ key) (of_key by rows key)
          → All (λ r. cells_in by r ≡ key) (cond b (row ∷ of_key by rows key) (of_key by rows key))
      told true e here rest = All-cons (λ r. cells_in by r ≡ key) row (of_key by rows key) (sym (key_plain by row here) ∙ same_key_exact (key_of by row) key e) rest
      told false e here rest = rest

  -- a key of the rows has one
  no_rows : (key : List Value) (rows : List (List Value)) → of_key by rows key ≡ [] → list_any (same_key key) (map (key_of by) rows) ≡ false
  no_rows key [] h = refl
  no_rows key (row ∷ rows) h = told (same_key (key_of by row) key) refl h (no_rows key rows)
    where
      told : (b : Bool) → same_key (key_of by row) key ≡ b → cond b (row ∷ of_key by rows key) (of_key by rows key) ≡ []
          → (of_key by rows key ≡ [] → list_any (same_key key) (map (key_of by) rows) ≡ false) → (same_key key (key_of by row) || list_any (same_key key) (map (key_of by) rows)) ≡ false
      told true e g later = let none : ⊥ = cc in absurd none
      told false e g later = or_from (same_key key (key_of by row)) (list_any (same_key key) (map (key_of by) rows)) ((same_key_equiv).symm key (key_of by row) ∙ e) (later g)

  some_alone : (key : List Value) (mine : List (List Value)) → (mine ≡ [] → ⊥) → All (λ row. cells_in by row ≡ key) mine → shown_key by mine ≡ key
  some_alone key [] some h = absurd (some refl)
  some_alone key (row ∷ rows) some h = key_alone by key row rows h

shown_alone : (by : List ℕ) (rows : List (List Value)) (key : List Value) → Plain by rows → list_any (same_key key) (keys_of by rows) ≡ true → shown_key by (of_key by rows key) ≡ key
shown_alone [] rows [] plain among = refl
shown_alone [] rows (v ∷ key) plain among = absurd (false≢true among)
shown_alone (c ∷ by) rows key plain among =
    let columns : List ℕ = c ∷ by in
    some_alone columns key (of_key columns rows key)
    (λ none. false≢true (sym (no_rows columns key rows none) ∙ sym (any_without_repeats same_key_equiv key (map (key_of columns) rows)) ∙ among))
    (rows_alike columns key rows plain)

all_among : (ks : List (List Value)) → All (λ key. list_any (same_key key) ks ≡ true) ks
all_among ks = λ i d low. list_any_at (same_key (get_or ks i d)) ks i d low (same_key_itself (get_or ks i d))

-- each key of the rows is shown as it is
pub keys_alone : (by : List ℕ) (rows : List (List Value)) → Plain by rows → All (λ key. shown_key by (of_key by rows key) ≡ key) (in_order (λ key. key) (keys_of by rows))
keys_alone by rows plain =
    all_map (λ key among. shown_alone by rows key plain among) (in_order (λ key. key) (keys_of by rows))
    (All-permutation (λ key. list_any (same_key key) (keys_of by rows) ≡ true) (keys_of by rows) (in_order (λ key. key) (keys_of by rows)) (in_order-permutation (λ key. key) (keys_of by rows)) (all_among (keys_of by rows)))

module _ (by : List ℕ) (rows : List (List Value)) where
  rows_as_they_are : (shown : List OutputColumn) (ks : List (List Value)) → All (λ key. shown_key by (of_key by rows key) ≡ key) ks → map (folded_row by shown rows) ks ≡ map (result_row by shown rows) ks
  rows_as_they_are shown [] h = refl
  rows_as_they_are shown (k ∷ ks) h =
      let key = sym (All-head (λ key. shown_key by (of_key by rows key) ≡ key) k ks h) in
      λ i. option_map (λ vs. key i ++ vs) (all_of (values_of (of_key by rows k) shown)) ∷ rows_as_they_are shown ks (All-tail (λ key. shown_key by (of_key by rows key) ≡ key) k ks h) i

  pub answer_alone : (shown : List OutputColumn) → Plain by rows → folded_answer by shown rows ≡ answer by shown rows
  answer_alone shown plain = ap all_of (rows_as_they_are shown (in_order (λ key. key) (keys_of by rows)) (keys_alone by rows plain))

  keys_as_they_are : (ks : List (List Value)) → All (λ key. shown_key by (of_key by rows key) ≡ key) ks → ks ≡ map (λ key. shown_key by (of_key by rows key)) ks
  keys_as_they_are [] h = refl
  keys_as_they_are (k ∷ ks) h = λ i.
      sym (All-head (λ key. shown_key by (of_key by rows key) ≡ key) k ks h) i ∷ keys_as_they_are ks (All-tail (λ key. shown_key by (of_key by rows key) ≡ key) k ks h) i

pub distinct_alone : (by : List ℕ) (rows : List (List Value)) → 0 < length by → Plain by rows → folded_keys by rows ≡ distinct_keys by rows
distinct_alone [] rows some plain = absurd (omega arith)
distinct_alone (c ∷ by) rows some plain = keys_as_they_are (c ∷ by) rows (in_order (λ key. key) (keys (c ∷ by) rows)) (keys_alone (c ∷ by) rows plain)

-- ---- a distinct is a group of which nothing but the key is shown

bare_all : (by : List ℕ) (rows ks : List (List Value)) → all_of (map (result_row by [] rows) ks) ≡ Some (map (λ key. shown_key by (of_key by rows key)) ks)
bare_all by rows [] = refl
bare_all by rows (k ∷ ks) =
    let key = shown_key by (of_key by rows k) in
    ap (λ o. option_map (λ rs. (key ++ []) ∷ rs) o) (bare_all by rows ks)
    ∙ ap (λ l. Some (l ∷ map (λ other. shown_key by (of_key by rows other)) ks)) (nothing_behind key)

pub distinct_answer : (by : List ℕ) (rows : List (List Value)) → 0 < length by → answer by [] rows ≡ Some (distinct_keys by rows)
distinct_answer [] rows some = absurd (omega arith)
distinct_answer (c ∷ by) rows some = bare_all (c ∷ by) rows (in_order (λ key. key) (keys (c ∷ by) rows))

-- ---- rows that fit columns of which none has texts without case

case_there : (k : Kind) (v : Value) → goes_in k v ≡ true → is_nocase k ≡ false → has_case v ≡ true
case_there k Null fits alone = refl
case_there k (Int n) fits alone = refl
case_there k (Text t) fits alone = refl
case_there kind.Int (NoCase t) fits alone = absurd (false≢true fits)
case_there kind.Text (NoCase t) fits alone = absurd (false≢true fits)
case_there kind.NoCase (NoCase t) fits alone = absurd (false≢true (sym alone))

cell_case : (columns : List Column) (row : List Value) (c : ℕ) → fits_columns columns row ≡ true → is_nocase (kind_at columns c) ≡ false → has_case (cell row c) ≡ true
cell_case [] [] c fits alone = refl
cell_case [] (v ∷ row) c fits alone = absurd (false≢true fits)
cell_case (col ∷ columns) [] c fits alone = absurd (false≢true fits)
cell_case (col ∷ columns) (v ∷ row) zero fits alone = case_there col.kind v (and_parts (goes_in col.kind v) (fits_columns columns row) fits).0 alone
cell_case (col ∷ columns) (v ∷ row) (suc c) fits alone = cell_case columns row c (and_parts (goes_in col.kind v) (fits_columns columns row) fits).1 alone

cells_case : (columns : List Column) (row : List Value) (by : List ℕ) → fits_columns columns row ≡ true → has_spellings columns by ≡ false → list_all has_case (cells_in by row) ≡ true
cells_case columns row [] fits alone = refl
cells_case columns row (c ∷ by) fits alone =
    let parts = or_parts (is_nocase (kind_at columns c)) (has_spellings columns by) alone in
    and_from (has_case (cell row c)) (list_all has_case (cells_in by row)) (cell_case columns row c fits parts.0) (cells_case columns row by fits parts.1)

pub plain_rows : (columns : List Column) (by : List ℕ) (rows : List (List Value)) → list_all (fits_columns columns) rows ≡ true → has_spellings columns by ≡ false → Plain by rows
plain_rows columns by [] fits alone = refl
plain_rows columns by (row ∷ rows) fits alone =
    let parts = and_parts (fits_columns columns row) (list_all (fits_columns columns) rows) fits in
    and_from (list_all has_case (cells_in by row)) (list_all (λ r. list_all has_case (cells_in by r)) rows) (cells_case columns row by parts.0 alone) (plain_rows columns by rows parts.1 alone)

-- ---- what may be shown

pub all_may : (columns : List Column) (shown : List OutputColumn) (by : List ℕ) → list_all (is_valid_for columns) shown ≡ true → All (λ column. column < length columns) by → list_all (is_valid_for columns) (least_shown by ++ shown) ≡ true
all_may columns shown [] may h = may
all_may columns shown (c ∷ by) may h =
    and_from (is_valid_for columns (Aggregate Min c)) (list_all (is_valid_for columns) (least_shown by ++ shown))
    (and_from (nat_lt c (length columns)) true (lt-ltb c (length columns) (All-head (λ column. column < length columns) c by h)) refl)
    (all_may columns shown by may (All-tail (λ column. column < length columns) c by h))

-- ---- a store is to blame if a minimum is reported as out of range

pub damaged_cause : (why : Refusal) (old new : Runs) → GroupCause why old new → (why ≡ SumRange → IsTrue old.honest → ⊥) → HasCause (as_damaged why) old new
damaged_cause SumRange old new cause never = never refl
damaged_cause Memory old new cause never = cause
damaged_cause StoreFault old new cause never = cause
damaged_cause Damaged old new cause never = cause

pub never_none : (by : List ℕ) (rows : List (List Value)) → 0 < length by → answer by [] rows ≡ None → ⊥
never_none by rows some none = let e : None ≡ Some (distinct_keys by rows) = sym none ∙ distinct_answer by rows some in cc

pub some_rows : {xs ys : List (List Value)} → Some xs ≡ Some ys → xs ≡ ys
some_rows h = cc
