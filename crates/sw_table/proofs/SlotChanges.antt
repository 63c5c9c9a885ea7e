-- The layout after one slot is filled, and after one is emptied.
use Rattle.std.proofs.Common.{◌≡◌, ◌≢◌, ℕ, ◌+◌, ◌*◌, ◌/◌, ◌%◌, ◌<◌, ◌≤◌, ◌⊎◌, Bool, true, false, cond, not, List, length, set, get_or, slice_index, nat_lt, nat_eq, if◌then◌else◌, Option, Some, None, is_some, sym, ap, ◌∙◌, subst, arith, inl, inr, get_or-set_other, length-set}
use mathlib.Core.Bool.{true≢false}
use native.Mathlib.Nat.{mod-lt}
use Rattle.std.proofs.lemmas.Bool.{lt-ltb, le-ltb, ne_eqb}
use Rattle.std.proofs.lemmas.Grind.{get_or-set_at}
use Rattle.std.proofs.lemmas.List.Sums.{sum_by-set}
use Rattle.sw_ctrl.specs.declared.control.TheConstants.{EMPTY}
use Rattle.sw_table.specs.Free.{used_then, KeepsLoad}
use Rattle.sw_table.specs.LaidOut.{IsTable, IsLaidOut, Reached, ReachedIn, NoEmpty, used_count, full_count}
use Rattle.sw_table.specs.Sizes.{IsCapacity}
use Rattle.sw_ctrl.specs.Bytes.{IsControl}
use Rattle.sw_table.proofs.Bytes.{low_control}
use Rattle.sw_table.proofs.Entries.{Absent, same_itself}
use Rattle.sw_table.proofs.Places.{which, some_is, some_within}

-- writing a byte leaves no group with an empty byte that had none
no_empty-set : (bs : List ℕ) (i y g : ℕ) → i < length bs → (y ≡ EMPTY → NoEmpty bs (i / 16) → ⊥) → NoEmpty bs g → NoEmpty (set bs i y) g
no_empty-set bs i y g lt h none l l16 e = elim (which (16 * g + l) i) [
  | inl here ↦
      let at : i / 16 ≡ g = omega (arith, here, l16) in
      h (sym (get_or-set_at bs i (16 * g + l) y 0 here lt) ∙ e) (subst (NoEmpty bs) (sym at) none)
  | inr other ↦ none l l16 (sym (get_or-set_other bs i (16 * g + l) y 0 other) ∙ e)
]

reached-set : (bs : List ℕ) (i y hash j : ℕ) → i < length bs → (y ≡ EMPTY → NoEmpty bs (i / 16) → ⊥) → Reached bs hash j → Reached (set bs i y) hash j
reached-set bs i y hash j lt h r = subst (λ n. ReachedIn (n / 16) (set bs i y) hash j) (sym (length-set bs i y))
    (r.0, r.1, r.2, λ m less. no_empty-set bs i y _ lt h (r.3 m less))

-- how the counts change
full-set : (bs : List ℕ) (i y : ℕ) → i < length bs → full_count (set bs i y) + cond (nat_lt (slice_index bs i) 128) 1 0 ≡ full_count bs + cond (nat_lt y 128) 1 0
full-set bs i y lt = sum_by-set (λ b. cond (nat_lt b 128) 1 0) bs i y 0 lt

used-set : (bs : List ℕ) (i y : ℕ) → i < length bs → used_count (set bs i y) + cond (not (nat_eq (slice_index bs i) EMPTY)) 1 0 ≡ used_count bs + cond (not (nat_eq y EMPTY)) 1 0
used-set bs i y lt = sum_by-set (λ b. cond (not (nat_eq b EMPTY)) 1 0) bs i y 0 lt

pub used-filled : (bs : List ℕ) (i y : ℕ) → i < length bs → y < 128 → used_count (set bs i y) ≡ used_then (used_count bs) (slice_index bs i)
used-filled bs i y lt small = by_test (nat_eq (slice_index bs i) EMPTY)
    (used-set bs i y lt ∙ ap (λ b. used_count bs + cond (not b) 1 0) (ne_eqb y EMPTY (λ e. omega (arith, small, e))))
  where
    by_test : (b : Bool) → used_count (set bs i y) + cond (not b) 1 0 ≡ used_count bs + 1 → used_count (set bs i y) ≡ (if b then used_count bs + 1 else used_count bs)
    by_test true e = omega (arith, e)
    by_test false e = omega (arith, e)

pub full-filled : (bs : List ℕ) (i y : ℕ) → i < length bs → 128 ≤ slice_index bs i → y < 128 → full_count (set bs i y) ≡ full_count bs + 1
full-filled bs i y lt high small =
    let a = ap (λ b. full_count (set bs i y) + cond b 1 0) (le-ltb (slice_index bs i) 128 high) in
    let b = ap (λ b. full_count bs + cond b 1 0) (lt-ltb y 128 small) in
    omega (arith, full-set bs i y lt, a, b)

pub full-emptied : (bs : List ℕ) (i y : ℕ) → i < length bs → slice_index bs i < 128 → 128 ≤ y → full_count (set bs i y) + 1 ≡ full_count bs
full-emptied bs i y lt small high =
    let a = ap (λ b. full_count (set bs i y) + cond b 1 0) (lt-ltb (slice_index bs i) 128 small) in
    let b = ap (λ b. full_count bs + cond b 1 0) (le-ltb y 128 high) in
    omega (arith, full-set bs i y lt, a, b)

pub used-emptied : (bs : List ℕ) (i y : ℕ) → i < length bs → slice_index bs i < 128 → used_count (set bs i y) + cond (nat_eq y EMPTY) 1 0 ≡ used_count bs
used-emptied bs i y lt small = by_test (nat_eq y EMPTY)
    (sym (ap (λ b. used_count (set bs i y) + cond (not b) 1 0) (ne_eqb (slice_index bs i) EMPTY (λ e. omega (arith, small, e)))) ∙ used-set bs i y lt)
  where
    by_test : (b : Bool) → used_count (set bs i y) + 1 ≡ used_count bs + cond (not b) 1 0 → used_count (set bs i y) + cond b 1 0 ≡ used_count bs
    by_test true e = omega (arith, e)
    by_test false e = omega (arith, e)

module _ {K V : Type 0} (class : K → List ℕ) (hash : List ℕ → ℕ) (ps : List (Option (K × V))) (bs : List ℕ) (len used : ℕ) (it : IsTable class hash ps bs len used) where
  t : IsLaidOut class hash ps bs
  t = it.laid

  module _ (i : ℕ) (p : K × V) (lt : i < length bs) (high : 128 ≤ slice_index bs i) (r : Reached bs (hash (class p.0)) i) (fits : KeepsLoad bs i) (absent : Absent class (class p.0) ps) (y : ℕ) (is : y ≡ hash (class p.0) % 128) where
    low : y < 128
    low = omega (arith, is, mod-lt (hash (class p.0)) {m = 128} (omega arith))

    within : i < length ps
    within = omega (arith, lt, it.laid.size.0)

    never : y ≡ EMPTY → NoEmpty bs (i / 16) → ⊥
    unfolding low
    never e none = omega (arith, low, e)

    -- what is at a place now
    was : (j : ℕ) (q : K × V) → get_or (set ps i (Some p)) j None ≡ Some q → ((j ≡ i) × (p ≡ q)) ⊎ ((j ≢ i) × (get_or ps j None ≡ Some q))
    was j q e = elim (which j i) [
      | inl here ↦ inl (here, some_is (sym (get_or-set_at ps i j (Some p) None here within) ∙ e))
      | inr other ↦ inr (other, sym (get_or-set_other ps i j (Some p) None other) ∙ e)
    ]

    alone : (k : ℕ) (q : K × V) → get_or ps k None ≡ Some q → class p.0 ≡ class q.0 → ⊥
    alone k q e is = true≢false (sym (same_itself _ _ is) ∙ absent k q e)

    pub IsTable-filled : (used' : ℕ) → used' ≡ used_then used (slice_index bs i) → IsTable class hash (set ps i (Some p)) (set bs i y) (len + 1) used'
    IsTable-filled used' now = record {
      laid = record {
        size = (length-set ps i (Some p) ∙ it.laid.size.0 ∙ sym (length-set bs i y), subst IsCapacity (sym (length-set bs i y)) it.laid.size.1);
        control = λ j j_lt. elim (which j i) [
          | inl here ↦ subst IsControl (sym (get_or-set_at bs i j y 0 here lt)) (low_control y low)
          | inr other ↦ subst IsControl (sym (get_or-set_other bs i j y 0 other)) (it.laid.control j (omega (arith, j_lt, length-set bs i y)))
        ];
        full = λ j j_lt b. elim (which j i) [
          | inl here ↦ ap is_some (get_or-set_at ps i j (Some p) None here within)
          | inr other ↦ ap is_some (get_or-set_other ps i j (Some p) None other) ∙ it.laid.full j (omega (arith, j_lt, length-set bs i y)) (omega (arith, get_or-set_other bs i j y 0 other, b))
        ];
        vacant = λ j j_high. elim (which j i) [
          | inl here ↦ absurd (omega (arith, get_or-set_at bs i j y 0 here lt, j_high, low))
          | inr other ↦ get_or-set_other ps i j (Some p) None other ∙ it.laid.vacant j (omega (arith, get_or-set_other bs i j y 0 other, j_high))
        ];
        h2 = λ j q e. elim (was j q e) [
          | inl here ↦ get_or-set_at bs i j y 0 here.0 lt ∙ is ∙ ap (λ (r : K × V). hash (class r.0) % 128) here.1
          | inr other ↦ get_or-set_other bs i j y 0 other.0 ∙ it.laid.h2 j q other.1
        ];
        chain = λ j q e. elim (was j q e) [
          | inl here ↦ reached-set bs i y (hash (class q.0)) j lt never (subst (λ k. Reached bs (hash (class q.0)) k) (sym here.0) (subst (λ (r : K × V). Reached bs (hash (class r.0)) i) here.1 r))
          | inr other ↦ reached-set bs i y (hash (class q.0)) j lt never (it.laid.chain j q other.1)
        ];
        apart = λ j k q s e f one. elim (was j q e) [
          | inl a ↦ elim (was k s f) [
            | inl b ↦ a.0 ∙ sym b.0
            | inr b ↦ absurd (alone k s b.1 (ap (λ (r : K × V). class r.0) a.1 ∙ one))
          ]
          | inr a ↦ elim (was k s f) [
            | inl b ↦ absurd (alone j q a.1 (ap (λ (r : K × V). class r.0) b.1 ∙ sym one))
            | inr b ↦ it.laid.apart j k q s a.1 b.1 one
          ]
        ];
        load = omega (arith, used-filled bs i y lt low, fits, length-set bs i y);
      };
      full_is = omega (arith, it.full_is, full-filled bs i y lt high low);
      used_is = now ∙ ap (λ u. used_then u (slice_index bs i)) it.used_is ∙ sym (used-filled bs i y lt low);
    }

  module _ (i : ℕ) (p : K × V) (there : get_or ps i None ≡ Some p) where
    pub taken_within : i < length bs
    taken_within = omega (arith, some_within ps i p there, it.laid.size.0)

    pub taken_low : slice_index bs i < 128
    taken_low = omega (arith, it.laid.h2 i p there, mod-lt (hash (class p.0)) {m = 128} (omega arith))

    gone : (j : ℕ) (q : K × V) → get_or (set ps i None) j None ≡ Some q → (j ≢ i) × (get_or ps j None ≡ Some q)
    gone j q e = elim (which j i) [
      | inl here ↦ absurd (none_some q (sym (get_or-set_at ps i j None None here (some_within ps i p there)) ∙ e))
      | inr other ↦ (other, sym (get_or-set_other ps i j None None other) ∙ e)
    ]
      where
        none_some : {X : Type 0} (x : X) → None ≡ Some x → ⊥
        none_some x e = cc

    pub IsTable-emptied : (y : ℕ) (control : IsControl y) (high : 128 ≤ y) (stops : y ≡ EMPTY → NoEmpty bs (i / 16) → ⊥) (len' used' : ℕ) → len' + 1 ≡ len → used' + cond (nat_eq y EMPTY) 1 0 ≡ used → IsTable class hash (set ps i None) (set bs i y) len' used'
    IsTable-emptied y control high stops len' used' fewer less = record {
      laid = record {
        size = (length-set ps i None ∙ it.laid.size.0 ∙ sym (length-set bs i y), subst IsCapacity (sym (length-set bs i y)) it.laid.size.1);
        control = λ j j_lt. elim (which j i) [
          | inl here ↦ subst IsControl (sym (get_or-set_at bs i j y 0 here taken_within)) control
          | inr other ↦ subst IsControl (sym (get_or-set_other bs i j y 0 other)) (it.laid.control j (omega (arith, j_lt, length-set bs i y)))
        ];
        full = λ j j_lt b. elim (which j i) [
          | inl here ↦ absurd (omega (arith, get_or-set_at bs i j y 0 here taken_within, b, high))
          | inr other ↦ ap is_some (get_or-set_other ps i j None None other) ∙ it.laid.full j (omega (arith, j_lt, length-set bs i y)) (omega (arith, get_or-set_other bs i j y 0 other, b))
        ];
        vacant = λ j j_high. elim (which j i) [
          | inl here ↦ get_or-set_at ps i j None None here (some_within ps i p there)
          | inr other ↦ get_or-set_other ps i j None None other ∙ it.laid.vacant j (omega (arith, get_or-set_other bs i j y 0 other, j_high))
        ];
        h2 = λ j q e. let w = gone j q e in get_or-set_other bs i j y 0 w.0 ∙ it.laid.h2 j q w.1;
        chain = λ j q e. let w = gone j q e in reached-set bs i y (hash (class q.0)) j taken_within stops (it.laid.chain j q w.1);
        apart = λ j k q s e f one. it.laid.apart j k q s (gone j q e).1 (gone k s f).1 one;
        load = omega (arith, used-emptied bs i y taken_within taken_low, it.laid.load, length-set bs i y);
      };
      full_is = omega (arith, it.full_is, full-emptied bs i y taken_within taken_low high, fewer);
      used_is = omega (arith, it.used_is, used-emptied bs i y taken_within taken_low, less);
    }
