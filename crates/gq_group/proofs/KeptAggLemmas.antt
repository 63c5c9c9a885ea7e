-- Which aggregates are kept for a group, and what follows from them.
use Rattle.std.proofs.Common.{◌≡◌, ◌==◌, ◌<◌, ◌+◌, ◌++◌, ◌∷◌, [], ℕ, zero, suc, Bool, true, false, not, cond, List, length, take, drop, ◌||◌, Some, None, refl, sym, ap, ◌∙◌, arith, slice_index_or, length-append}
use Rattle.std.specs.List.{list_any, slice_get}
use Rattle.std.proofs.lemmas.Bool.Decides.{nat_tests}
use Rattle.std.proofs.lemmas.List.{drop-drop, drop-map, length-map}
use Rattle.sw_flat.proofs.Classes.{some_is}
use Rattle.gq_row.specs.declared.value.Value.{Value}
use Rattle.gq_row.specs.Rows.{cell}
use Rattle.gq_agg.specs.declared.kind.AggKind.{AggKind}
use Rattle.gq_agg.specs.Aggregates.{aggregate}
use Rattle.gq_agg.specs.Running.{Running, tally}
use Rattle.gq_group.specs.Entries.{tallies}
use Rattle.gq_group.specs.Groups.{answers, column_of, counts_all, is_none}
use Rattle.gq_group.specs.KeptAggs.{others, alone, kept_aggs, kept_for, IsKnown}
use Rattle.gq_group.proofs.AggLemmas.{first_at, or_true}

-- ---- how many rows there were

pub rows_told : (asked : List (AggKind × ℕ)) (rows : List (List Value)) (aggs : List Running) (first : Running) → 0 < length asked → slice_get aggs 0 ≡ Some first → aggs ≡ tallies asked rows → first.adds ≡ length rows
rows_told [] rows aggs first some at all = absurd (omega arith)
rows_told (a ∷ asked) rows aggs first some at all =
    ap (λ (t : Running). t.adds) (some_is first (tally a.0 (column_of a.1 rows)) (sym at ∙ ap (λ l. slice_get l 0) all)) ∙ length-map rows (λ r. cell r a.1)

pub some_kept : (asked : List (AggKind × ℕ)) (i : ℕ) → i < length asked → 0 < length (kept_aggs asked)
some_kept [] i less = absurd (omega arith)
some_kept (a ∷ asked) i less = at (length (others (a ∷ asked)) == 0) refl
  where
    at : (b : Bool) → (length (others (a ∷ asked)) == 0) ≡ b → 0 < length (others (a ∷ asked) ++ cond b (take 1 (a ∷ asked)) [])
    at true e = let both = length-append (others (a ∷ asked)) (a ∷ []) in omega (arith, both)
    at false e = let both = length-append (others (a ∷ asked)) [] in let some : (0 < length (others (a ∷ asked))) = grind (arith, nat_tests) in omega (arith, both, some)

-- ---- what is asked next, and where its value is

at_drop : {X : Type 0} (xs : List X) (n : ℕ) (x : X) (ys : List X) → drop n xs ≡ x ∷ ys → slice_get xs n ≡ Some x
at_drop [] zero x ys h = let none : ⊥ = cc in absurd none
at_drop [] (suc n) x ys h = let none : ⊥ = cc in absurd none
at_drop (z ∷ xs) zero x ys h = let same : z ≡ x = cc in ap (λ y. Some y) same
at_drop (z ∷ xs) (suc n) x ys h = at_drop xs n x ys h

module _ (asked : List (AggKind × ℕ)) (i place : ℕ) (d : AggKind × ℕ) (less : i < length asked) (left : drop place (kept_aggs asked) ≡ others (drop i asked) ++ alone asked) where
  abbrev pub next : AggKind × ℕ
  next = slice_index_or asked i d

  left_is : drop place (kept_aggs asked) ≡ others (next ∷ drop (suc i) asked) ++ alone asked
  left_is = left ∙ ap (λ l. others l ++ alone asked) (first_at asked i d less)

  pub next_left : drop (place + kept_for next.0) (kept_aggs asked) ≡ others (drop (i + 1) asked) ++ alone asked
  next_left = at (counts_all next.0) left_is
    where
      at : (b : Bool) → drop place (kept_aggs asked) ≡ cond (not b) (next ∷ others (drop (suc i) asked)) (others (drop (suc i) asked)) ++ alone asked
          → drop (place + cond b 0 1) (kept_aggs asked) ≡ others (drop (i + 1) asked) ++ alone asked
      at true h = let same : place + 0 ≡ place = omega arith in let more : suc i ≡ i + 1 = omega arith in ap (λ n. drop n (kept_aggs asked)) same ∙ h ∙ ap (λ n. others (drop n asked) ++ alone asked) more
      at false h = let more : suc i ≡ i + 1 = omega arith in sym (drop-drop 1 place (kept_aggs asked)) ∙ ap (drop 1) h ∙ ap (λ n. others (drop n asked) ++ alone asked) more

  -- its value follows from what is kept
  pub next_known : (rows : List (List Value)) (count : ℕ) (old aggs : List Running) → count ≡ length rows → old ≡ tallies (kept_aggs asked) rows → drop place aggs ≡ drop place old
      → IsKnown (counts_all next.0) next.0 (column_of next.1 rows) count aggs place
  next_known rows count old aggs counted is rest = at (counts_all next.0) left_is
    where
      at : (b : Bool) → drop place (kept_aggs asked) ≡ cond (not b) (next ∷ others (drop (suc i) asked)) (others (drop (suc i) asked)) ++ alone asked → IsKnown b next.0 (column_of next.1 rows) count aggs place
      at true h = counted ∙ sym (length-map rows (λ r. cell r next.1))
      at false h = at_drop aggs place (tally next.0 (column_of next.1 rows)) (tallies (others (drop (suc i) asked) ++ alone asked) rows)
          (rest ∙ ap (drop place) is ∙ drop-map (λ (a : AggKind × ℕ). tally a.0 (column_of a.1 rows)) place (kept_aggs asked) ∙ ap (λ l. tallies l rows) h)

  -- its value among those of all
  pub next_answer : (rows : List (List Value)) → take (i + 1) (answers asked rows) ≡ take i (answers asked rows) ++ aggregate next.0 (column_of next.1 rows) ∷ []
  next_answer rows = let more : i + 1 ≡ suc i = omega arith in ap (λ n. take n (answers asked rows)) more ∙ at asked i less
    where
      at : (xs : List (AggKind × ℕ)) (n : ℕ) → n < length xs → take (suc n) (answers xs rows) ≡ take n (answers xs rows) ++ aggregate (slice_index_or xs n d).0 (column_of (slice_index_or xs n d).1 rows) ∷ []
      at [] n l = absurd (omega arith)
      at (x ∷ xs) zero l = refl
      at (x ∷ xs) (suc n) l = ap (λ l. aggregate x.0 (column_of x.1 rows) ∷ l) (at xs n (omega arith))

  pub next_refused : (rows : List (List Value)) → aggregate next.0 (column_of next.1 rows) ≡ None → list_any is_none (answers asked rows) ≡ true
  next_refused rows none = at asked i less none
    where
      at : (xs : List (AggKind × ℕ)) (n : ℕ) → n < length xs → aggregate (slice_index_or xs n d).0 (column_of (slice_index_or xs n d).1 rows) ≡ None → list_any is_none (answers xs rows) ≡ true
      at [] n l e = absurd (omega arith)
      at (x ∷ xs) zero l e = ap (λ o. is_none o || list_any is_none (answers xs rows)) e
      at (x ∷ xs) (suc n) l e = ap (λ b. is_none (aggregate x.0 (column_of x.1 rows)) || b) (at xs n (omega arith) e) ∙ or_true (is_none (aggregate x.0 (column_of x.1 rows)))
