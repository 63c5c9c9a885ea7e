-- Bytes none of which is full, and none of which is used.
use Rattle.std.proofs.Common.{◌≡◌, ◌≢◌, ℕ, zero, suc, ◌+◌, ◌*◌, ◌-◌, ◌/◌, ◌<◌, ◌≤◌, ◌⊎◌, Bool, true, false, cond, not, List, [], ◌∷◌, length, drop, replicate, set, get_or, slice_index, nat_eq, nat_lt, Option, Some, None, is_some, refl, sym, ap, ◌∙◌, subst, arith, inl, inr, get_or-set_other}
use native.Mathlib.Decide.{dec_lt}
use mathlib.Core.Bool.{true≢false}
use Rattle.std.proofs.lemmas.Bool.{ltb-false, eqb-true, le-ltb}
use Rattle.std.proofs.lemmas.Grind.{get_or-set_at}
use Rattle.std.proofs.lemmas.List.{drop-set-lt, get_or-replicate, length-replicate}
use Rattle.std.proofs.lemmas.List.Sums.{sum_by-cons}
use Rattle.sw_ctrl.specs.declared.control.TheConstants.{EMPTY, DELETED}
use Rattle.sw_table.specs.declared.walk.Walk.{Walk}
use Rattle.sw_table.specs.LaidOut.{IsTable, NoEmpty, full_count, used_count}
use Rattle.sw_table.specs.View.{View, fresh, slot_count}
use Rattle.sw_table.specs.Walks.{IsWalking, IsDraining, filled}
use Rattle.sw_table.proofs.Filled.{filled_on, filled_behind}
use Rattle.sw_table.proofs.MovedEntries.{IsTable-vacant, never_filled}
use Rattle.sw_table.proofs.Places.{all_vacant, all_alike, none_or, some_within, which}
use Rattle.sw_table.proofs.Walking.{lane_within}

pub none_full : (bs : List ℕ) → full_count bs ≡ 0 → (i : ℕ) → i < length bs → 128 ≤ slice_index bs i
none_full [] e i lt = absurd (omega (arith, lt))
none_full (b ∷ bs) e i lt = by_test (none_full bs) (nat_lt b 128) refl (sym (sum_by-cons (λ x. cond (nat_lt x 128) 1 0) b bs) ∙ e) i lt
  where
    by_test : (full_count bs ≡ 0 → (i : ℕ) → i < length bs → 128 ≤ slice_index bs i) → (t : Bool) → nat_lt b 128 ≡ t → cond t 1 0 + full_count bs ≡ 0 → (i : ℕ) → i < suc (length bs) → 128 ≤ slice_index (b ∷ bs) i
    by_test rest true is f i lt = absurd (omega (arith, f))
    by_test rest false is f zero lt = ltb-false b 128 is
    by_test rest false is f (suc i) lt = rest (omega (arith, f)) i (omega (arith, lt))

pub none_used : (bs : List ℕ) → used_count bs ≡ 0 → (i : ℕ) → i < length bs → slice_index bs i ≡ EMPTY
none_used [] e i lt = absurd (omega (arith, lt))
none_used (b ∷ bs) e i lt = by_test (none_used bs) (nat_eq b EMPTY) refl (sym (sum_by-cons (λ x. cond (not (nat_eq x EMPTY)) 1 0) b bs) ∙ e) i lt
  where
    by_test : (used_count bs ≡ 0 → (i : ℕ) → i < length bs → slice_index bs i ≡ EMPTY) → (t : Bool) → nat_eq b EMPTY ≡ t → cond (not t) 1 0 + used_count bs ≡ 0 → (i : ℕ) → i < suc (length bs) → slice_index (b ∷ bs) i ≡ EMPTY
    by_test rest false is f i lt = absurd (omega (arith, f))
    by_test rest true is f zero lt = eqb-true b EMPTY is
    by_test rest true is f (suc i) lt = rest (omega (arith, f)) i (omega (arith, lt))

pub no_full : (bs : List ℕ) → ((i : ℕ) → i < length bs → 128 ≤ slice_index bs i) → full_count bs ≡ 0
no_full [] h = refl
no_full (b ∷ bs) h =
    sum_by-cons (λ x. cond (nat_lt x 128) 1 0) b bs
    ∙ ap (λ t. cond t 1 0 + full_count bs) (le-ltb b 128 (h 0 (omega arith)))
    ∙ (let e : ◌≡◌ {A = ℕ} (0 + full_count bs) 0 = omega (arith, no_full bs (λ i lt. h (suc i) (omega (arith, lt)))) in e)

-- where no byte is used, all bytes are empty
pub blank_bytes : (bs : List ℕ) → used_count bs ≡ 0 → bs ≡ replicate (length bs) EMPTY
blank_bytes bs e = all_alike bs EMPTY (none_used bs e)

-- places without a full byte hold nothing
pub blank_places : {X : Type 0} (ps : List (Option X)) (bs : List ℕ) → length ps ≡ length bs → ((i : ℕ) → 128 ≤ slice_index bs i → get_or ps i None ≡ None)
    → ((i : ℕ) → i < length bs → 128 ≤ slice_index bs i) → ps ≡ replicate (length bs) None
blank_places ps bs long vacant none =
    all_vacant ps (λ i lt. vacant i (none i (omega (arith, lt, long)))) ∙ ap (λ n. replicate n None) long

vacant_at : {X : Type 0} (n i : ℕ) → ◌≡◌ {A = Option X} (get_or (replicate n None) i None) None
vacant_at {X} n i = none_or (get_or (replicate n None) i None) (λ (x : X) e. never_filled n i x e)

blank_at : (n i : ℕ) → i < n → 128 ≤ slice_index (replicate n EMPTY) i
blank_at n i lt = omega (arith, get_or-replicate n i EMPTY 0 lt)

-- a walk that has reached the end is also a walk over empty bytes
pub walking_blank : (bs : List ℕ) (w : Walk) → IsWalking bs w → ((i : ℕ) → w.from ≤ i → i < length bs → 128 ≤ slice_index bs i) → IsWalking (replicate (length bs) EMPTY) w
walking_blank bs w is none = record {
  group = (is.group.0, omega (arith, is.group.1, length-replicate (length bs) EMPTY));
  lanes = is.lanes;
  passed = is.passed;
  set = λ l e.
      let s = is.set l e in
      let lt = lane_within w.rest l is.lanes e in
      let high = none (w.next - 16 + l) (omega (arith, s.0, s.1)) (omega (arith, s.0, lt, is.group.1)) in
      absurd (omega (arith, high, s.2));
  all = λ i low high full. absurd (omega (arith, full, blank_at (length bs) i (omega (arith, high, is.group.1))));
}

-- some byte of the group is empty, or none is
empty_or_not : (bs : List ℕ) (g n : ℕ) → ((l : ℕ) → l < n → slice_index bs (16 * g + l) ≢ EMPTY) ⊎ ((l : ℕ) × (l < n) × (slice_index bs (16 * g + l) ≡ EMPTY))
empty_or_not bs g zero = inl (λ l lt. absurd (omega (arith, lt)))
empty_or_not bs g (suc n) = elim (which (slice_index bs (16 * g + n)) EMPTY) [
  | inl e ↦ inr (n, omega arith, e)
  | inr ne ↦ elim (empty_or_not bs g n) [
    | inl f ↦ inl (λ l lt. elim (dec_lt l n) [
      | yes less ↦ f l less
      | no ge ↦ let same : n ≡ l = omega (arith, lt, ge) in subst (λ k. slice_index bs (16 * g + k) ≢ EMPTY) same ne
    ])
    | inr e ↦ inr (e.0, omega (arith, e.1), e.2)
  ]
]

-- a slot's byte is emptied or deleted: the others stay
pub others_kept : (bs cs : List ℕ) (i : ℕ) → ((NoEmpty bs (i / 16) → ⊥) → cs ≡ set bs i EMPTY) → (NoEmpty bs (i / 16) → cs ≡ set bs i DELETED)
    → (k : ℕ) → i + 1 ≤ k → slice_index cs k ≡ slice_index bs k
others_kept bs cs i emptied deleted k past = elim (empty_or_not bs (i / 16) 16) [
  | inl none ↦ ap (λ xs. slice_index xs k) (deleted none) ∙ get_or-set_other bs i k DELETED 0 (λ e. omega (arith, e, past))
  | inr e ↦ ap (λ xs. slice_index xs k) (emptied (λ none. none e.0 e.1 e.2)) ∙ get_or-set_other bs i k EMPTY 0 (λ e. omega (arith, e, past))
]

module _ {X : Type 0} (ps qs : List (Option X)) (from i : ℕ) (x : X) (le : from ≤ i) (taken : (j : ℕ) → j < from → get_or ps j None ≡ None)
    (none : (j : ℕ) → from ≤ j → j < i → get_or ps j None ≡ None) (here : get_or ps i None ≡ Some x) (emptied : qs ≡ set ps i None) where
  -- no place up to here holds a value any more
  pub taken_on : (j : ℕ) → j < i + 1 → get_or qs j None ≡ None
  taken_on j lt = ap (λ s. get_or s j None) emptied ∙ elim (which j i) [
    | inl same ↦ get_or-set_at ps i j None None same (some_within ps i x here)
    | inr other ↦ get_or-set_other ps i j None None other ∙ elim (dec_lt j from) [
      | yes before ↦ taken j before
      | no behind ↦ none j (omega (arith, behind)) (omega (arith, lt, other))
    ]
  ]

  -- the value that is taken was the first
  pub filled_taken : filled ps ≡ x ∷ filled qs
  filled_taken =
      filled_behind ps from taken ∙ filled_on ps from i x le none here
      ∙ ap (λ r. x ∷ filled r) (sym (ap (λ (s : List (Option X)). drop (i + 1) s) emptied ∙ drop-set-lt (i + 1) ps i None (omega arith)))
      ∙ ap (λ r. x ∷ r) (sym (filled_behind qs (i + 1) taken_on))

module _ {K V : Type 0} (class : K → List ℕ) (hash : List ℕ → ℕ) (ps : List (Option (K × V))) (bs : List ℕ) (len used : ℕ) (t : IsTable class hash ps bs len used) where
  module _ (none : (i : ℕ) → get_or ps i None ≡ None) where
    pub none_there : (i : ℕ) → i < length bs → 128 ≤ slice_index bs i
    none_there i lt = elim (dec_lt (slice_index bs i) 128) [
      | yes low ↦ absurd (true≢false (sym (t.laid.full i lt low) ∙ ap is_some (none i)))
      | no high ↦ omega (arith, high)
    ]

    pub empty_places : ps ≡ replicate (length bs) None
    empty_places = blank_places ps bs t.laid.size.0 t.laid.vacant none_there

    -- a table without entries stays one where all its bytes are made empty
    pub IsTable-blank : IsTable class hash ps (replicate (length bs) EMPTY) len 0
    IsTable-blank =
        let zero_len : 0 ≡ len = sym (t.full_is ∙ no_full bs none_there) in
        subst (λ n. IsTable class hash ps (replicate (length bs) EMPTY) n 0) zero_len
        (subst (λ s. IsTable class hash s (replicate (length bs) EMPTY) 0 0) (sym empty_places) (IsTable-vacant class hash (length bs) t.laid.size.1))

  -- a table none of whose bytes is used has no entry
  pub unused_places : used ≡ 0 → ps ≡ replicate (length bs) None
  unused_places e = blank_places ps bs t.laid.size.0 t.laid.vacant (λ i lt. omega (arith, none_used bs (sym t.used_is ∙ e) i lt))

  pub unused_bytes : used ≡ 0 → bs ≡ replicate (length bs) EMPTY
  unused_bytes e = blank_bytes bs (sym t.used_is ∙ e)

-- nothing is left to drain of a table without entries
pub drained_fresh : {K V H : Type 0} (t : View K V H) (w : Walk) (h : H) → IsWalking t.bytes w → ((i : ℕ) → w.from ≤ i → i < length t.bytes → 128 ≤ slice_index t.bytes i) → IsDraining {K = K} {V = V} {H = H} (fresh (slot_count t) h) w
drained_fresh t w h is none = record { walking = walking_blank t.bytes w is none; taken = λ i lt. vacant_at (slot_count t) i }
