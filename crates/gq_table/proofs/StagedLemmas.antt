-- Rows that were put into an empty table, and then loaded from it: as if each were put. Rows are determined, up to their order, by how often each occurs.
use Rattle.std.proofs.Common.{◌≡◌, ℕ, ◌+◌, Bool, true, false, cond, not, ◌||◌, IsTrue, List, [], ◌∷◌, ◌++◌, map, refl, sym, ap, subst, ◌∙◌, arith, count_by, IsPermutation, true≢false, add-zero}
use Rattle.std.specs.List.{list_any}
use Rattle.std.proofs.lemmas.Bool.{not-true, and_parts, or_parts, or_from}
use Rattle.std.proofs.lemmas.List.Sorted.{list_any-IsPermutation, sum_by-IsPermutation}
use Rattle.std.proofs.lemmas.List.Sums.{sum_by-cons, sum_by-append}
use Rattle.gq_row.specs.declared.value.Value.{Value}
use Rattle.gq_row.specs.Order.{same_key}
use Rattle.gq_row.specs.Repeats.{no_repeats}
use Rattle.gq_row.specs.Rows.{key_of}
use Rattle.gq_row.specs.Tables.{put, put_all, delete, has_row, keys_differ}
use Rattle.gq_row.proofs.DistinctLemmas.{one}
use Rattle.gq_row.proofs.MovedLemmas.{IsPermutation-from_counts, put-permutation}
use Rattle.gq_row.proofs.OrderLemmas.{same_key_exact, same_key_equiv, same_key_itself}
use Rattle.gq_row.proofs.TableLemmas.{keys_differ-put}
use Rattle.gq_table.proofs.KeyedLemmas.{count_deleted, has_row-put}
use Rattle.gq_table.proofs.StoredLemmas.{put_all_none}

abbrev Row : Type 0
Row = List Value

module _ (column : ℕ) (columns : List ℕ) where
  abbrev key : List ℕ
  key = column ∷ columns

  -- how often a row occurs once rows are put, by how often it occurred before
  after : List Row → Row → ℕ → ℕ
  after [] z n = n
  after (row ∷ rows) z n = after rows z (cond (same_key (key_of key row) (key_of key z)) (one (same_key z row)) n)

  abbrev times : Row → List Row → ℕ
  times z rows = count_by (same_key z) rows

  -- the same row has the same key
  other_row : (z row : Row) → same_key (key_of key row) (key_of key z) ≡ false → same_key z row ≡ false
  other_row z row e = told (same_key z row) refl
    where
      told : (b : Bool) → same_key z row ≡ b → b ≡ false
      told true same = absurd (true≢false (sym (same_key_itself (key_of key z)) ∙ ap (λ r. same_key (key_of key r) (key_of key z)) (same_key_exact z row same) ∙ e))
      told false same = refl

  times_put : (old : List Row) (row z : Row) → IsTrue (keys_differ key old) → times z (put key old row) ≡ cond (same_key (key_of key row) (key_of key z)) (one (same_key z row)) (times z old)
  times_put old row z differ =
      sum_by-IsPermutation (λ y. one (same_key z y)) (row ∷ delete key old (key_of key row)) (put key old row) (put-permutation column columns old row differ)
      ∙ sum_by-cons (λ y. one (same_key z y)) row (delete key old (key_of key row))
      ∙ ap (λ n. one (same_key z row) + n) (count_deleted key old (key_of key row) z ∙ ap (λ b. cond b 0 (times z old)) ((same_key_equiv).symm (key_of key z) (key_of key row)))
      ∙ step (same_key (key_of key row) (key_of key z)) refl
    where
      step : (b : Bool) → same_key (key_of key row) (key_of key z) ≡ b → one (same_key z row) + cond b 0 (times z old) ≡ cond b (one (same_key z row)) (times z old)
      step true e = add-zero (one (same_key z row))
      step false e = rw (other_row z row e) (omega arith)

  times_put_all : (old rows : List Row) (z : Row) → IsTrue (keys_differ key old) → times z (put_all key old rows) ≡ after rows z (times z old)
  unfolding after
  times_put_all old [] z differ = refl
  times_put_all old (row ∷ rows) z differ = times_put_all (put key old row) rows z (keys_differ-put key old row differ) ∙ ap (after rows z) (times_put old row z differ)

  -- a row whose key is put occurs as the rows say
  after_put : (rows : List Row) (z : Row) (n : ℕ) → after rows z n ≡ cond (has_row key rows (key_of key z)) (after rows z 0) n
  unfolding after
  after_put [] z n = refl
  after_put (row ∷ rows) z n =
      let x = one (same_key z row) in
      step (same_key (key_of key row) (key_of key z)) (has_row key rows (key_of key z)) (λ m. after_put rows z m)
    where
      step : (b h : Bool) → ((m : ℕ) → after rows z m ≡ cond h (after rows z 0) m) → after rows z (cond b (one (same_key z row)) n) ≡ cond (b || h) (after rows z (cond b (one (same_key z row)) 0)) n
      step true h again = refl
      step false true again = again n
      step false false again = again n

  has_put_all : (old rows : List Row) (k : List Value) → has_row key (put_all key old rows) k ≡ (has_row key old k || has_row key rows k)
  has_put_all old [] k = ends (has_row key old k)
    where
      ends : (b : Bool) → b ≡ (b || false)
      ends true = refl
      ends false = refl
  has_put_all old (row ∷ rows) k = has_put_all (put key old row) rows k ∙ ap (λ b. b || has_row key rows k) (has_row-put key old row k) ∙ moved (same_key (key_of key row) k) (has_row key old k) (has_row key rows k)
    where
      moved : (a b c : Bool) → ((a || b) || c) ≡ (b || (a || c))
      moved true true c = refl
      moved true false c = refl
      moved false b c = refl

  -- ---- rows of which no two have the same key

  absent : (rows : List Row) (k : List Value) → list_any (same_key k) (map (key_of key) rows) ≡ false → has_row key rows k ≡ false
  absent [] k h = refl
  absent (row ∷ rows) k h =
      let parts = or_parts (same_key k (key_of key row)) (list_any (same_key k) (map (key_of key) rows)) h in
      or_from (same_key (key_of key row) k) (has_row key rows k) ((same_key_equiv).symm (key_of key row) k ∙ parts.0) (absent rows k parts.1)

  times_none : (rows : List Row) (z : Row) → has_row key rows (key_of key z) ≡ false → times z rows ≡ 0
  times_none [] z h = refl
  times_none (row ∷ rows) z h =
      let parts = or_parts (same_key (key_of key row) (key_of key z)) (has_row key rows (key_of key z)) h in
      let first = sum_by-cons (λ y. one (same_key z y)) row rows ∙ ap (λ b. one b + times z rows) (other_row z row parts.0) in
      let rest = times_none rows z parts.1 in
      omega arith

  after_apart : (rows : List Row) (z : Row) (n : ℕ) → no_repeats same_key (map (key_of key) rows) ≡ true → after rows z n ≡ cond (has_row key rows (key_of key z)) (times z rows) n
  unfolding after
  after_apart [] z n differ = refl
  after_apart (row ∷ rows) z n differ =
      let parts = and_parts (not (list_any (same_key (key_of key row)) (map (key_of key) rows))) (no_repeats same_key (map (key_of key) rows)) differ in
      step (same_key (key_of key row) (key_of key z)) refl (not-true _ parts.0) (λ m. after_apart rows z m parts.1) (sum_by-cons (λ y. one (same_key z y)) row rows)
    where
      step : (b : Bool) → same_key (key_of key row) (key_of key z) ≡ b → list_any (same_key (key_of key row)) (map (key_of key) rows) ≡ false
          → ((m : ℕ) → after rows z m ≡ cond (has_row key rows (key_of key z)) (times z rows) m) → times z (row ∷ rows) ≡ one (same_key z row) + times z rows
          → after rows z (cond b (one (same_key z row)) n) ≡ cond (b || has_row key rows (key_of key z)) (times z (row ∷ rows)) n
      step true e none again first =
          let gone : has_row key rows (key_of key z) ≡ false = ap (has_row key rows) (sym (same_key_exact (key_of key row) (key_of key z) e)) ∙ absent rows (key_of key row) none in
          let rest = times_none rows z gone in
          again (one (same_key z row)) ∙ ap (λ h. cond h (times z rows) (one (same_key z row))) gone ∙ sym (add-zero (one (same_key z row))) ∙ ap (λ k. one (same_key z row) + k) (sym rest) ∙ sym first
      step false e none again first =
          let here : times z rows ≡ times z (row ∷ rows) = (let other = ap (λ b. one b + times z rows) (other_row z row e) in let whole = first in omega arith) in
          again n ∙ ap (λ k. cond (has_row key rows (key_of key z)) k n) here

  loaded_keyed_again : (old rows s : List Row) → IsTrue (keys_differ key old) → IsTrue (keys_differ key s) → IsPermutation (put_all key [] rows) s → IsPermutation (put_all key old s) (put_all key old rows)
  loaded_keyed_again old rows s differ apart moved =
      IsPermutation-from_counts same_key_equiv same_key_exact _ _ (λ z.
      times_put_all old s z differ
      ∙ after_apart s z (times z old) apart
      ∙ ap (λ h. cond h (times z s) (times z old)) (sym (list_any-IsPermutation (λ row. same_key (key_of key row) (key_of key z)) (put_all key [] rows) s moved) ∙ has_put_all [] rows (key_of key z))
      ∙ ap (λ n. cond (has_row key rows (key_of key z)) n (times z old)) (sum_by-IsPermutation (λ y. one (same_key z y)) (put_all key [] rows) s moved ∙ times_put_all [] rows z refl)
      ∙ sym (after_put rows z (times z old))
      ∙ sym (times_put_all old rows z differ))

-- rows that were put into an empty table are put by a load of its rows
pub loaded_again : (key : List ℕ) (old rows s : List Row) → IsTrue (keys_differ key old) → IsTrue (keys_differ key s) → IsPermutation (put_all key [] rows) s → IsPermutation (put_all key old s) (put_all key old rows)
loaded_again (column ∷ columns) old rows s differ apart moved = loaded_keyed_again column columns old rows s differ apart moved
loaded_again [] old rows s differ apart moved =
    subst (λ l. IsPermutation l (put_all [] old rows)) (sym (put_all_none [] old s refl)) (subst (IsPermutation (old ++ s)) (sym (put_all_none [] old rows refl))
    (IsPermutation-from_counts same_key_equiv same_key_exact _ _ (λ z.
    sum_by-append (λ y. one (same_key z y)) old s
    ∙ ap (λ n. count_by (same_key z) old + n) (sum_by-IsPermutation (λ y. one (same_key z y)) rows s (subst (λ l. IsPermutation l s) (put_all_none [] [] rows refl) moved))
    ∙ sym (sum_by-append (λ y. one (same_key z y)) old rows))))
