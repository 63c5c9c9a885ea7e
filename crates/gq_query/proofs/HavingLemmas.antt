-- Rows that are kept move to the beginning, one after the other.
use Rattle.std.proofs.Common.{◌≡◌, ◌<◌, ◌≤◌, ◌+◌, ◌==◌, ℕ, Bool, true, false, cond, List, [], ◌∷◌, ◌++◌, length, take, drop, get_or, set, filter, append-nil, refl, sym, ap, subst, ◌∙◌, ◌⊎◌, inl, inr, arith}
use Rattle.std.specs.List.{swap}
use Rattle.std.proofs.Math.Nat.{eq-or-lt_of_le}
use Rattle.std.proofs.lemmas.Bool.Decides.{nat_tests}
use Rattle.std.proofs.lemmas.List.{drop-drop, drop-set-lt, get_or-drop, length-set, take-set, take-set-le, take_more, take_more_set}
use Rattle.std.proofs.lemmas.List.Edits.{length-swap, swap_is}
use Rattle.std.proofs.lemmas.List.Elements.{filter-append}
use Rattle.gq_row.specs.declared.value.Value.{Value}
use Rattle.gq_select.specs.declared.condition.Test.{Test}
use Rattle.gq_select.specs.Truths.{keeps}

-- among the first n rows those that are kept come first, and the other rows are where they were
pub record AreKept {X : Type 0} (p : X → Bool) (all now : List X) (i kept : ℕ) : Type 0 where
  pub first : take kept now ≡ filter p (take i all)
  pub others : drop i now ≡ drop i all
  pub few : kept ≤ i
  pub long : length now ≡ length all

module _ {X : Type 0} (p : X → Bool) (all now : List X) (i kept : ℕ) (d : X) (less : i < length all) (h : AreKept p all now i kept) where
  same_row : get_or now i d ≡ get_or all i d
  same_row =
      let at : i + 0 ≡ i = omega arith in
      sym (get_or-drop i now 0 d ∙ ap (λ k. get_or now k d) at) ∙ ap (λ l. get_or l 0 d) h.others ∙ get_or-drop i all 0 d ∙ ap (λ k. get_or all k d) at

  later : drop (i + 1) now ≡ drop (i + 1) all
  later = sym (drop-drop 1 i now) ∙ ap (drop 1) h.others ∙ drop-drop 1 i all

  one_more : (b : Bool) → p (get_or now i d) ≡ b → filter p (take (i + 1) all) ≡ filter p (take i all) ++ cond b (get_or now i d ∷ []) []
  one_more b is =
      ap (filter p) (take_more all i d less) ∙ filter-append p (take i all) (get_or all i d ∷ [])
      ∙ ap (λ l. filter p (take i all) ++ l) (ap (λ x. filter p (x ∷ [])) (sym same_row) ∙ alone b is)
    where
      alone : (b : Bool) → p (get_or now i d) ≡ b → filter p (get_or now i d ∷ []) ≡ cond b (get_or now i d ∷ []) []
      alone b is = ap (λ c. cond c (get_or now i d ∷ []) []) is

  pub left_out : p (get_or now i d) ≡ false → AreKept p all now (i + 1) kept
  left_out differs = record {
    first = h.first ∙ sym (one_more false differs ∙ append-nil (filter p (take i all)));
    others = later;
    few = omega (arith, h.few);
    long = h.long;
  }

  front_of_swap : take (kept + 1) (swap now kept i) ≡ take kept now ++ get_or now i d ∷ []
  front_of_swap = ap (take (kept + 1)) (sym (swap_is now kept i d below there)) ∙ each (eq-or-lt_of_le h.few)
    where
      there : i < length now
      there = omega (arith, less, h.long)

      below : kept < length now
      below = omega (arith, h.few, less, h.long)

      each : (kept ≡ i) ⊎ (kept < i) → take (kept + 1) (set (set now kept (get_or now i d)) i (get_or now kept d)) ≡ take kept now ++ get_or now i d ∷ []
      each (inl e) =
          subst (λ k. take (kept + 1) (set (set now kept (get_or now i d)) k (get_or now kept d)) ≡ take kept now ++ get_or now i d ∷ []) e
          (take_more_set (set now kept (get_or now i d)) kept (get_or now kept d) (omega (arith, below, length-set now kept (get_or now i d)))
          ∙ (λ j. take-set now kept (get_or now i d) j ++ get_or now (e j) d ∷ []))
      each (inr lt) = take-set-le (kept + 1) (set now kept (get_or now i d)) i (get_or now kept d) (omega (arith, lt)) ∙ take_more_set now kept (get_or now i d) below

  pub taken : p (get_or now i d) ≡ true → AreKept p all (swap now kept i) (i + 1) (kept + 1)
  taken same = record {
    first = front_of_swap ∙ ap (λ l. l ++ get_or now i d ∷ []) h.first ∙ sym (one_more true same);
    others =
        ap (drop (i + 1)) (sym (swap_is now kept i d (omega (arith, h.few, less, h.long)) (omega (arith, less, h.long))))
        ∙ drop-set-lt (i + 1) (set now kept (get_or now i d)) i (get_or now kept d) (omega arith)
        ∙ drop-set-lt (i + 1) now kept (get_or now i d) (omega (arith, h.few))
        ∙ later;
    few = omega (arith, h.few);
    long = length-swap now kept i ∙ h.long;
  }

-- ---- where nothing is asked

pub all_kept : (rows : List (List Value)) → filter (keeps []) rows ≡ rows
all_kept [] = refl
all_kept (row ∷ rows) = ap (λ l. row ∷ l) (all_kept rows)

pub none_asked : (tests : List Test) (rows : List (List Value)) → (length tests == 0) ≡ true → rows ≡ filter (keeps tests) rows
none_asked [] rows none = sym (all_kept rows)
none_asked (test ∷ tests) rows none = let zero : length (test ∷ tests) ≡ 0 = grind (arith, nat_tests) in absurd (omega (arith, zero))
