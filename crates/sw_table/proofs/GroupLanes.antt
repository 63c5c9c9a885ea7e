-- What the lanes of a group say about the bytes, and what a full table would be.
use Rattle.std.proofs.Common.{◌≡◌, ◌≢◌, ℕ, suc, ◌+◌, ◌*◌, ◌/◌, ◌%◌, ◌^◌, ◌<◌, ◌≤◌, Bool, true, false, cond, not, List, [], ◌∷◌, map, length, take, drop, get_or, slice_index, nat_eq, nat_lt, count_by, Option, Some, None, is_some, refl, sym, ap, ◌∙◌, subst, arith, inl, inr}
use mathlib.Core.Bool.{true≢false}
use native.Mathlib.Decide.{dec_lt}
use Rattle.std.proofs.Math.Nat.{one-le-pow}
use Rattle.std.specs.List.{position}
use Rattle.std.proofs.lemmas.Bool.{ne_eqb}
use Rattle.std.proofs.lemmas.List.{get_or-map, length-map}
use Rattle.std.proofs.lemmas.List.Sums.{sum_by-cons}
use Rattle.std.proofs.lemmas.List.Quantifiers.{position-Some}
use Rattle.std.proofs.lemmas.Simd.{get_or-chunk, length-chunk}
use Rattle.sw_ctrl.specs.declared.control.TheConstants.{EMPTY}
use Rattle.sw_probe.specs.Order.{group_number}
use Rattle.sw_probe.proofs.Everywhere.{comes_to}
use Rattle.sw_probe.proofs.Powers.{group_count}
use Rattle.sw_ctrl.specs.Bytes.{is_free}
use Rattle.sw_table.specs.Free.{NoFree}
use Rattle.sw_table.specs.LaidOut.{NoEmpty, used_count, full_count}
use Rattle.sw_table.specs.Sizes.{IsCapacity}
use Rattle.sw_table.proofs.Bytes.{free_high, not_free}
use Rattle.sw_table.proofs.Masks.{none_set}

module _ (bs : List ℕ) (g : ℕ) (room : 16 * g + 16 ≤ length bs) (ms : List Bool) (is : ms ≡ map is_free (take 16 (drop (16 * g) bs))) where
  free_lane : (l : ℕ) → l < 16 → get_or ms l false ≡ is_free (slice_index bs (16 * g + l))
  free_lane l lt =
      ap (λ m. get_or m l false) is
      ∙ get_or-map is_free (take 16 (drop (16 * g) bs)) l 0 false (omega (arith, length-chunk (16 * g) 16 bs room))
      ∙ ap is_free (get_or-chunk (16 * g) 16 bs l 0 lt)

  pub lowest_free : (l : ℕ) → position (λ b. b) ms ≡ Some l → (l < 16) × (128 ≤ slice_index bs (16 * g + l)) × (is_free (slice_index bs (16 * g + l)) ≡ true)
  lowest_free l e =
      let p = position-Some (λ b. b) ms l false e in
      let lt : l < 16 = omega (arith, p.0, ap length is, length-map (take 16 (drop (16 * g) bs)) is_free, length-chunk (16 * g) 16 bs room) in
      (lt, free_high _ (sym (free_lane l lt) ∙ p.1), sym (free_lane l lt) ∙ p.1)

  pub none_below : (l : ℕ) → position (λ b. b) ms ≡ Some l → (k : ℕ) → k < l → is_free (slice_index bs (16 * g + k)) ≡ false
  none_below l e k less =
      let p = position-Some (λ b. b) ms l false e in
      sym (free_lane k (omega (arith, less, (lowest_free l e).0))) ∙ p.2 k less

  pub none_free : position (λ b. b) ms ≡ None → NoFree bs g
  none_free e l lt = sym (free_lane l lt) ∙ none_set ms e l

pub none_empty : (bs : List ℕ) (g : ℕ) → NoFree bs g → NoEmpty bs g
none_empty bs g none l lt = not_free _ (none l lt)

pub passed_upto : (bs : List ℕ) (h n index at : ℕ) → at ≡ group_number h n index → ((m : ℕ) → m < index → NoFree bs (group_number h n m)) → NoFree bs at → (m : ℕ) → m ≤ index → NoFree bs (group_number h n m)
passed_upto bs h n index at e before here m le = elim (dec_lt m index) [
  | yes lt ↦ before m lt
  | no ge ↦ let same : m ≡ index = omega (arith, ge, le) in subst (NoFree bs) (e ∙ ap (group_number h n) (sym same)) here
]

-- a walk that can't advance is at the last group
pub walk_ends : (b : Bool) (i n : ℕ) → b ≡ false → (i + 1 < n → b ≡ true) → n ≤ i + 1
walk_ends b i n e more = elim (dec_lt (i + 1) n) [
  | yes lt ↦ absurd (true≢false (sym (more lt) ∙ e))
  | no ge ↦ omega (arith, ge)
]

pub all_used : (bs : List ℕ) → ((i : ℕ) → i < length bs → slice_index bs i ≢ EMPTY) → used_count bs ≡ length bs
all_used [] h = refl
all_used (b ∷ bs) h =
    sum_by-cons (λ x. cond (not (nat_eq x EMPTY)) 1 0) b bs
    ∙ ap (λ t. cond (not t) 1 0 + used_count bs) (ne_eqb b EMPTY (h 0 (omega arith)))
    ∙ omega (arith, all_used bs (λ i lt. h (suc i) (omega (arith, lt))))

-- a table within its load has an empty byte in some group of each probe
pub no_room_left : (bs : List ℕ) (h : ℕ) → IsCapacity (length bs) → 0 < length bs → used_count bs ≤ 14 * (length bs / 16)
    → ((m : ℕ) → m < length bs / 16 → NoEmpty bs (group_number h (length bs / 16) m)) → ⊥
no_room_left bs h size some load none = by_size size
  where
    by_size : IsCapacity (length bs) → ⊥
    by_size (inl e) = omega (arith, e, some)
    by_size (inr (k, le, e)) =
        let groups : length bs / 16 ≡ 2 ^ k = omega (arith, e) in
        let each : (i : ℕ) → i < length bs → slice_index bs i ≢ EMPTY = λ i lt. (
        let at = comes_to h (length bs / 16) (group_count k (length bs / 16) le groups) (i / 16) (omega (arith, lt, e)) in
        let it = none at.0 at.1 in
        let place : 16 * (i / 16) + i % 16 ≡ i = omega arith in
        subst (λ x. slice_index bs x ≢ EMPTY) place (subst (NoEmpty bs) at.2 it (i % 16) (omega arith))) in
        omega (arith, all_used bs each, load, e, one-le-pow k 2 (omega arith))

-- as many full bytes as filled places
pub same_counts : {X : Type 0} (ps : List (Option X)) (bs : List ℕ) → length ps ≡ length bs → ((i : ℕ) → is_some (get_or ps i None) ≡ nat_lt (get_or bs i 128) 128) → count_by is_some ps ≡ full_count bs
same_counts [] [] e h = refl
same_counts [] (b ∷ bs) e h = absurd (omega (arith, e))
same_counts (p ∷ ps) [] e h = absurd (omega (arith, e))
same_counts (p ∷ ps) (b ∷ bs) e h =
    sum_by-cons (λ o. cond (is_some o) 1 0) p ps
    ∙ (λ t. cond (h 0 t) 1 0 + same_counts ps bs (omega (arith, e)) (λ i. h (suc i)) t)
    ∙ sym (sum_by-cons (λ x. cond (nat_lt x 128) 1 0) b bs)
