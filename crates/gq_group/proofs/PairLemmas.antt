-- Keys with each of their values once: as rows of their own, in any order, they have the counts of different values.
use Rattle.std.proofs.Common.{◌≡◌, ◌≤◌, ℕ, pos, zero, suc, ◌+◌, ◌&&◌, Bool, true, false, cond, Some, List, [], ◌∷◌, ◌++◌, length, map, refl, sym, ap, subst, ◌∙◌, arith, append-nil, append_assoc, length-append, IsPermutation}
use Rattle.std.specs.Prelude.{slice_index_or, IsTrue, All, nat_lt}
use Rattle.std.specs.List.{list_any, list_all, range_with_len}
use Rattle.std.proofs.lemmas.List.{map-append, length-map}
use Rattle.std.proofs.lemmas.List.Sorted.{IsPermutation-refl, IsPermutation-trans, IsPermutation-map, length_permutation, All-permutation}
use Rattle.std.proofs.lemmas.Bool.{and_parts, and_from, lt-ltb}
use Rattle.std.proofs.lemmas.List.Elements.{All-nil, All-cons, All-head, All-tail}
use Rattle.gq_row.specs.declared.value.Value.{Value}
use Rattle.gq_row.specs.declared.value.Value.TheVariants.{Null, Int}
use Rattle.gq_row.specs.Folding.{folded}
use Rattle.gq_row.specs.Order.{same_key}
use Rattle.gq_row.specs.Repeats.{without_repeats}
use Rattle.gq_row.specs.Rows.{cell, key_of}
use Rattle.gq_row.specs.Tables.{keys, of_key}
use Rattle.gq_row.proofs.DistinctLemmas.{one_more, any_without_repeats}
use Rattle.gq_row.proofs.FoldLemmas.{key-cells, key_folded}
use Rattle.gq_row.proofs.MovedLemmas.{keys-permutation, of_key-permutation}
use Rattle.gq_row.proofs.OrderLemmas.{same_key_equiv}
use Rattle.gq_row.proofs.TableLemmas.{keys-push}
use Rattle.gq_agg.specs.declared.kind.AggKind.{AggKind}
use Rattle.gq_agg.specs.declared.kind.AggKind.TheVariants as kind
use Rattle.gq_agg.specs.Aggregates.{aggregate}
use Rattle.gq_agg.specs.Values.{present}
use Rattle.gq_agg.proofs.Different.{present-folded}
use Rattle.gq_agg.proofs.Unseen.{order_unseen}
use Rattle.gq_spill.specs.Reading.{Left, opened}
use Rattle.gq_spill.specs.Runs.{Runs}
use Rattle.gq_spill.specs.Writing.{Writing, Wrote}
use Rattle.gq_spill.specs.declared.run_mark.RunMark.{RunMark}
use Rattle.gq_spill.proofs.ReadingLemmas.{reads_back}
use Rattle.gq_group.specs.Distinct.{PushesDistinct, with_column, all_have}
use Rattle.gq_group.specs.Groups.{Spec, Group, has_columns, fits_cell, fits_spec, all_fit, is_none, out_of_range, keys_of, column_of, answers, group_of, groups, answered, AreGroups, Pushes}
use Rattle.gq_group.specs.Phases.{pairs_of, counts_of, keys_in}
use Rattle.gq_group.proofs.FirstLemmas.{Pairing, AreFirsts, count_of, has_pair, firsts-start, firsts-old, firsts-new, firsts_pushed}

-- ---- the groups of the same rows in another order

keys_moved : (by : List ℕ) (xs ys : List (List Value)) → IsPermutation xs ys → IsPermutation (keys_of by xs) (keys_of by ys)
keys_moved [] xs ys moved = IsPermutation-refl ([] ∷ [])
keys_moved (c ∷ cs) xs ys moved = keys-permutation (c ∷ cs) xs ys moved

answers_moved : (aggs : List (AggKind × ℕ)) (xs ys : List (List Value)) → IsPermutation xs ys → answers aggs xs ≡ answers aggs ys
answers_moved [] xs ys moved = refl
answers_moved (a ∷ aggs) xs ys moved = λ i. order_unseen a.0 (column_of a.1 xs) (column_of a.1 ys) (IsPermutation-map (λ row. cell row a.1) xs ys moved) i ∷ answers_moved aggs xs ys moved i

each_moved : (spec : Spec) (xs ys ks : List (List Value)) → IsPermutation xs ys → map (group_of spec xs) ks ≡ map (group_of spec ys) ks
each_moved spec xs ys [] moved = refl
each_moved spec xs ys (k ∷ ks) moved = λ i. (k, answers_moved spec.aggs (of_key spec.by xs k) (of_key spec.by ys k) (of_key-permutation spec.by xs ys k moved) i) ∷ each_moved spec xs ys ks moved i

pub groups_moved : (spec : Spec) (xs ys : List (List Value)) → IsPermutation xs ys → IsPermutation (groups spec xs) (groups spec ys)
groups_moved spec xs ys moved = subst (IsPermutation (groups spec xs)) (each_moved spec xs ys (keys_of spec.by ys) moved) (IsPermutation-map (group_of spec xs) (keys_of spec.by xs) (keys_of spec.by ys) (keys_moved spec.by xs ys moved))

-- ---- keys as rows

at_seam : (xs : List Value) (y : Value) (ys : List Value) → slice_index_or (xs ++ y ∷ ys) (length xs) Null ≡ y
at_seam [] y ys = refl
at_seam (x ∷ xs) y ys = at_seam xs y ys

cells_behind : (front xs more : List Value) → map (cell (front ++ (xs ++ more))) (range_with_len (length front) (length xs)) ≡ xs
cells_behind front [] more = refl
cells_behind front (x ∷ xs) more =
    let n : length (front ++ x ∷ []) ≡ length front + 1 = length-append front (x ∷ []) in
    (λ i. at_seam front x (xs ++ more) i ∷ map (cell (sym (append_assoc front (x ∷ []) (xs ++ more)) i)) (range_with_len (sym n i) (length xs)))
    ∙ ap (λ l. x ∷ l) (cells_behind (front ++ x ∷ []) xs more)

-- a key with a value after it
abbrev pub paired : Pairing → List Value → List Value
paired p row = key_of (with_column p.by p.column) row

pair_is : (p : Pairing) (row : List Value) → paired p row ≡ key_of p.by row ++ folded (cell row p.column) ∷ []
pair_is p row = map-append (λ column. folded (cell row column)) p.by (p.column ∷ [])

its_length : (p : Pairing) (row : List Value) → length (key_of p.by row) ≡ length p.by
its_length p row = length-map p.by (λ column. folded (cell row column))

-- read as a row's key it is the same again: it is folded already
its_key : (p : Pairing) (row : List Value) → key_of (counts_of (length p.by)).by (paired p row) ≡ key_of p.by row
its_key p row =
    sym (key-cells (counts_of (length p.by)).by (paired p row))
    ∙ ap (map folded) ((λ i. map (cell (pair_is p row i)) (range_with_len 0 (sym (its_length p row) i)))
    ∙ cells_behind [] (key_of p.by row) (folded (cell row p.column) ∷ []))
    ∙ key_folded p.by row

its_value : (p : Pairing) (row : List Value) → cell (paired p row) (length p.by) ≡ folded (cell row p.column)
its_value p row = (λ i. cell (pair_is p row i) (sym (its_length p row) i)) ∙ at_seam (key_of p.by row) (folded (cell row p.column)) []

all_keys : (p : Pairing) (rows : List (List Value)) → map (key_of (counts_of (length p.by)).by) (map (paired p) rows) ≡ map (key_of p.by) rows
all_keys p [] = refl
all_keys p (row ∷ rows) = λ i. its_key p row i ∷ all_keys p rows i

all_values : (p : Pairing) (rows : List (List Value)) → column_of (length p.by) (map (paired p) rows) ≡ map folded (column_of p.column rows)
all_values p [] = refl
all_values p (row ∷ rows) = λ i. its_value p row i ∷ all_values p rows i

-- as many folds are not null as values
count_folded : (values : List Value) → aggregate kind.Count (map folded values) ≡ aggregate kind.Count values
count_folded values = ap (λ n. Some (Int (pos n))) (ap length (present-folded values) ∙ length-map (present values) folded)

all_of_key : (p : Pairing) (rows : List (List Value)) (k : List Value) → of_key (counts_of (length p.by)).by (map (paired p) rows) k ≡ map (paired p) (of_key p.by rows k)
all_of_key p [] k = refl
all_of_key p (row ∷ rows) k =
    (λ i. cond (same_key (its_key p row i) k) (paired p row ∷ all_of_key p rows k i) (all_of_key p rows k i))
    ∙ told (same_key (key_of p.by row) k)
  where
    told : (b : Bool) → cond b (paired p row ∷ map (paired p) (of_key p.by rows k)) (map (paired p) (of_key p.by rows k)) ≡ map (paired p) (cond b (row ∷ of_key p.by rows k) (of_key p.by rows k))
    told true = refl
    told false = refl

same_keys : (p : Pairing) (rows : List (List Value)) → keys_of (counts_of (length p.by)).by (map (paired p) rows) ≡ keys_of p.by rows
same_keys p rows = told p.by refl
  where
    told : (by : List ℕ) → p.by ≡ by → keys_of (counts_of (length p.by)).by (map (paired p) rows) ≡ keys_of p.by rows
    told [] is = (λ i. keys_of (range_with_len 0 (length (is i))) (map (paired p) rows)) ∙ sym (λ i. keys_of (is i) rows)
    told (c ∷ cs) is =
        (λ i. keys_of (range_with_len 0 (length (is i))) (map (paired p) rows))
        ∙ sym (λ i. keys (range_with_len 0 (length (is i))) (map (paired p) rows))
        ∙ ap (without_repeats same_key) (all_keys p rows)
        ∙ (λ i. keys (is i) rows)
        ∙ sym (λ i. keys_of (is i) rows)

-- grouped as rows of their own
pub same_groups : (p : Pairing) (rows : List (List Value)) → groups (counts_of (length p.by)) (map (paired p) rows) ≡ groups (count_of p) rows
same_groups p rows = each (keys_of (counts_of (length p.by)).by (map (paired p) rows)) ∙ ap (map (group_of (count_of p) rows)) (same_keys p rows)
  where
    each : (ks : List (List Value)) → map (group_of (counts_of (length p.by)) (map (paired p) rows)) ks ≡ map (group_of (count_of p) rows) ks
    each [] = refl
    each (k ∷ ks) =
        let its : answers (counts_of (length p.by)).aggs (of_key (counts_of (length p.by)).by (map (paired p) rows) k) ≡ answers (count_of p).aggs (of_key p.by rows k)
        = ap (answers (counts_of (length p.by)).aggs) (all_of_key p rows k) ∙ (λ i. aggregate kind.Count (all_values p (of_key p.by rows k) i) ∷ [])
        ∙ ap (λ o. o ∷ []) (count_folded (column_of p.column (of_key p.by rows k))) in
        λ i. (k, its i) ∷ each ks i

-- ---- the keys are first rows, laid out again

pub record LaidOut (p : Pairing) (rows : List (List Value)) : Type 0 where
  pub firsts : List (List Value)
  pub are : AreFirsts p rows firsts
  pub laid : keys (with_column p.by p.column) rows ≡ map (paired p) firsts

laid-push : (p : Pairing) (rows : List (List Value)) (row : List Value) → LaidOut p rows → LaidOut p (rows ++ row ∷ [])
laid-push p rows row out = told (has_pair p.by p.column rows row) refl
  where
    next : (b : Bool) → has_pair p.by p.column rows row ≡ b → keys (with_column p.by p.column) (rows ++ row ∷ []) ≡ one_more b (keys (with_column p.by p.column) rows) (paired p row)
    next b is =
        keys-push (with_column p.by p.column) rows row
        ∙ ap (λ t. one_more t (keys (with_column p.by p.column) rows) (paired p row)) (any_without_repeats same_key_equiv (paired p row) (map (paired p) rows) ∙ is)

    told : (b : Bool) → has_pair p.by p.column rows row ≡ b → LaidOut p (rows ++ row ∷ [])
    told true is = record { firsts = out.firsts; are = firsts-old p rows out.firsts row out.are is; laid = next true is ∙ out.laid }
    told false is = record {
      firsts = out.firsts ++ row ∷ [];
      are = firsts-new p rows out.firsts row out.are is;
      laid = next false is ∙ ap (λ l. l ++ paired p row ∷ []) out.laid ∙ sym (map-append (paired p) out.firsts (row ∷ []));
    }

laid-more : (p : Pairing) (done rows : List (List Value)) → LaidOut p done → LaidOut p (done ++ rows)
laid-more p done [] out = subst (LaidOut p) (sym (append-nil done)) out
laid-more p done (row ∷ rows) out = subst (LaidOut p) (append_assoc done (row ∷ []) rows) (laid-more p (done ++ row ∷ []) rows (laid-push p done row out))

pub laid_out : (p : Pairing) (rows : List (List Value)) → LaidOut p rows
laid_out p rows = laid-more p [] rows (record { firsts = []; are = firsts-start p; laid = refl })

-- ---- both phases

keys_answered : (out : List Group) → map (λ g. g.0) (map answered out) ≡ keys_in out
keys_answered [] = refl
keys_answered (g ∷ out) = ap (λ l. g.0 ∷ l) (keys_answered out)

keys_grouped : (spec : Spec) (rows ks : List (List Value)) → map (λ g. g.0) (map (group_of spec rows) ks) ≡ ks
keys_grouped spec rows [] = refl
keys_grouped spec rows (k ∷ ks) = ap (λ l. k ∷ l) (keys_grouped spec rows ks)

some_keys : (by : List ℕ) (column : ℕ) (rows : List (List Value)) → keys_of (with_column by column) rows ≡ keys (with_column by column) rows
some_keys [] column rows = refl
some_keys (c ∷ cs) column rows = refl

-- the keys of the first phase, in some order
moved_keys : (p : Pairing) (rows : List (List Value)) (out : List Group) → AreGroups (pairs_of p.by p.column) rows out → IsPermutation (map (paired p) (laid_out p rows).firsts) (keys_in out)
moved_keys p rows out are =
    subst (λ l. IsPermutation l (keys_in out)) (keys_grouped (pairs_of p.by p.column) rows (keys_of (with_column p.by p.column) rows) ∙ some_keys p.by p.column rows ∙ (laid_out p rows).laid)
    (subst (IsPermutation (map (λ g. g.0) (groups (pairs_of p.by p.column) rows))) (keys_answered out) (IsPermutation-map (λ g. g.0) (groups (pairs_of p.by p.column) rows) (map answered out) are))

pub both_pushed : (p : Pairing) (rows : List (List Value)) (out : List Group) (holds : List Group → Type 0) → AreGroups (pairs_of p.by p.column) rows out → Pushes (counts_of (length p.by)) (keys_in out) holds → PushesDistinct p.by p.column rows holds
both_pushed p rows out holds are pushes =
    let firsts : List (List Value) = (laid_out p rows).firsts in
    let moved : IsPermutation (groups (count_of p) firsts) (groups (counts_of (length p.by)) (keys_in out))
    = subst (λ l. IsPermutation l (groups (counts_of (length p.by)) (keys_in out))) (same_groups p firsts) (groups_moved (counts_of (length p.by)) (map (paired p) firsts) (keys_in out) (moved_keys p rows out are)) in
    firsts_pushed p rows firsts holds (laid_out p rows).are
    (pushes.0, IsPermutation-trans (groups (count_of p) firsts) (groups (counts_of (length p.by)) (keys_in out)) (map answered pushes.0) moved pushes.1, pushes.2)

pub both_counted : (p : Pairing) (rows : List (List Value)) (out : List Group) → AreGroups (pairs_of p.by p.column) rows out → length (keys_of (counts_of (length p.by)).by (keys_in out)) ≡ length (keys_of p.by rows)
both_counted p rows out are =
    let firsts : List (List Value) = (laid_out p rows).firsts in
    length_permutation (keys_of (counts_of (length p.by)).by (map (paired p) firsts)) (keys_of (counts_of (length p.by)).by (keys_in out)) (keys_moved (counts_of (length p.by)).by (map (paired p) firsts) (keys_in out) (moved_keys p rows out are))
    ∙ ap length (same_keys p firsts) ∙ ap length (laid_out p rows).are.same_keys

-- no more keys than rows
pub fewer_keys : (p : Pairing) (rows : List (List Value)) (out : List Group) → AreGroups (pairs_of p.by p.column) rows out → length (keys_in out) ≤ length rows
fewer_keys p rows out are =
    let firsts : List (List Value) = (laid_out p rows).firsts in
    let long = length_permutation (map (paired p) firsts) (keys_in out) (moved_keys p rows out are) in
    let laid = length-map firsts (paired p) in
    let fewer = (laid_out p rows).are.no_more in
    omega (arith, long, laid, fewer)

-- as many keys as different pairs
pub as_many_keys : (p : Pairing) (rows : List (List Value)) (out : List Group) → AreGroups (pairs_of p.by p.column) rows out → length (keys_in out) ≡ length (keys_of (with_column p.by p.column) rows)
as_many_keys p rows out are =
    let spec = pairs_of p.by p.column in
    let long = length_permutation (groups spec rows) (map answered out) are in
    let asked = length-map (keys_of spec.by rows) (group_of spec rows) in
    let told = length-map out answered in
    let keyed = length-map out (λ (g : Group). g.0) in
    omega (arith, long, asked, told, keyed)

-- each has as many columns as were named
pub widths_in : (p : Pairing) (rows : List (List Value)) (out : List Group) → AreGroups (pairs_of p.by p.column) rows out → All (λ key. length key ≡ length p.by + 1) (keys_in out)
widths_in p rows out are = All-permutation (λ (key : List Value). length key ≡ length p.by + 1) (map (paired p) (laid_out p rows).firsts) (keys_in out) (moved_keys p rows out are) (wide (laid_out p rows).firsts)
  where
    wide : (xs : List (List Value)) → All (λ (key : List Value). length key ≡ length p.by + 1) (map (paired p) xs)
    wide [] = All-nil (λ (key : List Value). length key ≡ length p.by + 1)
    wide (x ∷ xs) = All-cons (λ (key : List Value). length key ≡ length p.by + 1) (paired p x) (map (paired p) xs) (length-map (with_column p.by p.column) (λ column. folded (cell x column)) ∙ length-append p.by (p.column ∷ [])) (wide xs)

-- ---- keys that are grouped fit

pub pairs_fit : (p : Pairing) (rows : List (List Value)) → IsTrue (all_have (with_column p.by p.column) rows) → IsTrue (all_fit (pairs_of p.by p.column) rows)
pairs_fit p [] h = refl
pairs_fit p (row ∷ rows) h =
    let parts = and_parts (has_columns (with_column p.by p.column) row) (all_have (with_column p.by p.column) rows) h in
    and_from (has_columns (with_column p.by p.column) row && true) (all_fit (pairs_of p.by p.column) rows) (and_from (has_columns (with_column p.by p.column) row) true parts.0 refl) (pairs_fit p rows parts.1)

below_fit : (a n m : ℕ) → a + n ≤ m → list_all (λ (column : ℕ). nat_lt column m) (range_with_len a n) ≡ true
below_fit a zero m few = refl
below_fit a (suc n) m few = and_from (nat_lt a m) (list_all (λ (column : ℕ). nat_lt column m) (range_with_len (a + 1) n)) (lt-ltb a m (omega (arith, few))) (below_fit (a + 1) n m (omega (arith, few)))

count_fits : (n : ℕ) (row : List Value) → length row ≡ n + 1 → fits_spec (counts_of n) row ≡ true
count_fits n row wide =
    and_from (has_columns (range_with_len 0 n) row) (list_all (fits_cell row) ((kind.Count, n) ∷ []))
    (below_fit 0 n (length row) (omega (arith, wide)))
    (and_from (fits_cell row (kind.Count, n)) true (and_from (nat_lt n (length row)) true (lt-ltb n (length row) (omega (arith, wide))) refl) refl)

pub counts_fit : (n : ℕ) (rows : List (List Value)) → All (λ row. length row ≡ n + 1) rows → IsTrue (all_fit (counts_of n) rows)
counts_fit n [] wide = refl
counts_fit n (row ∷ rows) wide =
    and_from (fits_spec (counts_of n) row) (all_fit (counts_of n) rows)
    (count_fits n row (All-head (λ (r : List Value). length r ≡ n + 1) row rows wide))
    (counts_fit n rows (All-tail (λ (r : List Value). length r ≡ n + 1) row rows wide))

-- ---- neither phase has a sum

pub counts_range : (n : ℕ) (rows : List (List Value)) → out_of_range (counts_of n) rows ≡ false
counts_range n rows = none (keys_of (counts_of n).by rows)
  where
    none : (ks : List (List Value)) → list_any (λ g. list_any is_none g.1) (map (group_of (counts_of n) rows) ks) ≡ false
    none [] = refl
    none (k ∷ ks) = none ks

pub pairs_range : (by : List ℕ) (column : ℕ) (rows : List (List Value)) → out_of_range (pairs_of by column) rows ≡ false
pairs_range by column rows = none (keys_of (with_column by column) rows)
  where
    none : (ks : List (List Value)) → list_any (λ g. list_any is_none g.1) (map (group_of (pairs_of by column) rows) ks) ≡ false
    none [] = refl
    none (k ∷ ks) = none ks

-- one column more
pub range_more : (a n : ℕ) → range_with_len a n ++ (a + n) ∷ [] ≡ range_with_len a (n + 1)
range_more a zero = let e : a + 0 ≡ a = omega arith in rw e refl
range_more a (suc n) =
    let e : a + suc n ≡ a + 1 + n = omega arith in
    let count : suc n + 1 ≡ suc (n + 1) = omega arith in
    rw (e, count) (ap (λ l. a ∷ l) (range_more (a + 1) n))

-- ---- what the run between the phases holds

pub record Between (p : Pairing) (rows : List (List Value)) (w : Writing) (runs : Runs) : Type 0 where
  pub out : List Group
  pub are : AreGroups (pairs_of p.by p.column) rows out
  pub wrote : Wrote w runs (keys_in out)

pub between : (p : Pairing) (rows : List (List Value)) (w : Writing) (runs : Runs) (spec : Spec) → spec ≡ pairs_of p.by p.column → Pushes spec rows (λ out. Wrote w runs (keys_in ([] ++ out))) → Between p rows w runs
between p rows w runs spec is pushes = record {
  out = pushes.0;
  are = subst (λ (s : Spec). AreGroups s rows pushes.0) is pushes.1;
  wrote = pushes.2;
}

pub left_between : (p : Pairing) (rows : List (List Value)) (w : Writing) (runs : Runs) (mark : RunMark) → mark ≡ w.mark → (it : Between p rows w runs) → Left (opened mark (length p.by + 1)) runs (keys_in it.out)
left_between p rows w runs mark is it =
    subst (λ (m : RunMark). Left (opened m (length p.by + 1)) runs (keys_in it.out)) (sym is)
    (reads_back.opens w runs (keys_in it.out) (length p.by + 1) it.wrote (widths_in p rows it.out it.are))

pub few_between : (p : Pairing) (rows : List (List Value)) (w : Writing) (runs : Runs) (mark : RunMark) → mark ≡ w.mark → Between p rows w runs → mark.records ≤ length rows
few_between p rows w runs mark is it =
    let count : mark.records ≡ length (keys_in it.out) = ap (λ (m : RunMark). m.records) is ∙ it.wrote.count_rows in
    let fewer = fewer_keys p rows it.out it.are in
    omega (arith, count, fewer)
