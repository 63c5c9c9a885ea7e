-- A rehash in place, step by step.
use Rattle.std.proofs.Common.{◌≡◌, ◌≢◌, ℕ, ◌+◌, ◌*◌, ◌/◌, ◌%◌, ◌<◌, ◌≤◌, ◌⊎◌, Bool, true, false, cond, not, List, [], ◌∷◌, map, length, set, get_or, slice_index, nat_lt, nat_eq, Option, Some, None, is_some, IsSome, refl, sym, ap, ◌∙◌, subst, arith, inl, inr, get_or-set_other, length-set}
use mathlib.Core.Bool.{true≢false}
use native.Mathlib.Nat.{mod-lt}
use native.Mathlib.Decide.{dec_lt}
use Rattle.std.proofs.lemmas.Bool.{ne_eqb, lt-ltb, le-ltb}
use Rattle.std.proofs.lemmas.List.{get_or-map, get_or_past, length-map}
use Rattle.std.proofs.lemmas.List.Sums.{sum_by-set, sum_by-cons}
use Rattle.sw_ctrl.specs.declared.control.TheConstants.{EMPTY, DELETED}
use Rattle.sw_ctrl.specs.Bytes.{marked, is_free, is_full, IsControl}
use Rattle.sw_table.specs.Entries.{entries_in}
use Rattle.sw_table.specs.Free.{NoFree, First, FirstIn}
use Rattle.sw_table.specs.Settling.{IsSettling, deleted_count}
use Rattle.sw_table.specs.LaidOut.{IsLaidOut, used_count, full_count}
use Rattle.sw_table.specs.Sizes.{IsCapacity}
use Rattle.sw_table.proofs.Entries.{Apart}
use Rattle.sw_table.proofs.Bytes.{low_control, high_free, low_not_free, deleted_is_free, not_free_either}
use Rattle.sw_table.proofs.GroupLanes.{none_empty}
use Rattle.sw_table.proofs.MovedEntries.{entries_same}
use Rattle.sw_table.proofs.Places.{which, some_is, some_within}

none_some : {X : Type 0} (x : X) → None ≡ Some x → ⊥
none_some x e = cc

-- which place has come to k, when i and t change places
abbrev Turned : ℕ → ℕ → ℕ → ℕ → Type 0
Turned i t k j = ((k ≡ t) × (j ≡ i)) ⊎ (((k ≢ t) × ((k ≡ i) × (j ≡ t))) ⊎ ((k ≢ i) × ((k ≢ t) × (j ≡ k))))

one_to_one : (i t k k' j j' : ℕ) → Turned i t k j → Turned i t k' j' → j ≡ j' → k ≡ k'
one_to_one i t k k' j j' a b e = omega (arith, a, b, e)

module _ {K V : Type 0} (class : K → List ℕ) (hash : List ℕ → ℕ) (ps : List (Option (K × V))) (bs : List ℕ) (s : IsSettling class hash ps bs)
    (i : ℕ) (p : K × V) (deleted : slice_index bs i ≡ DELETED) (there : get_or ps i None ≡ Some p)
    (t : ℕ) (free : is_free (slice_index bs t) ≡ true) (y : ℕ) (is : y ≡ hash (class p.0) % 128) (first : First bs (hash (class p.0)) t)
    (ps' : List (Option (K × V))) (bs' : List ℕ) (lenp : length ps' ≡ length ps) (lenb : length bs' ≡ length bs)
    (pt : get_or ps' t None ≡ get_or ps i None) (pi : get_or ps' i None ≡ get_or ps t None)
    (po : (k : ℕ) → k ≢ i → k ≢ t → get_or ps' k None ≡ get_or ps k None)
    (bt : slice_index bs' t ≡ y) (bi : i ≢ t → slice_index bs' i ≡ slice_index bs t)
    (bo : (k : ℕ) → k ≢ i → k ≢ t → slice_index bs' k ≡ slice_index bs k) (used : used_count bs' ≡ used_count bs) where
  low : y < 128
  low = omega (arith, is, mod-lt (hash (class p.0)) {m = 128} (omega arith))

  came : (k : ℕ) → (j : ℕ) × (Turned i t k j) × (get_or ps' k None ≡ get_or ps j None)
  came k = elim (which k t) [
    | inl here ↦ (i, inl (here, refl), ap (λ x. get_or ps' x None) here ∙ pt)
    | inr off ↦ elim (which k i) [
      | inl here ↦ (t, inr (inl (off, (here, refl))), ap (λ x. get_or ps' x None) here ∙ pi)
      | inr other ↦ (k, inr (inr (other, (off, refl))), po k other off)
    ]
  ]

  went : (j : ℕ) → (k : ℕ) × (get_or ps' k None ≡ get_or ps j None)
  went j = elim (which j i) [
    | inl here ↦ (t, pt ∙ ap (λ x. get_or ps x None) (sym here))
    | inr off ↦ elim (which j t) [
      | inl here ↦ (i, pi ∙ ap (λ x. get_or ps x None) (sym here))
      | inr other ↦ (j, po j off other)
    ]
  ]

  -- a group without a free slot stays so
  kept : (g : ℕ) → NoFree bs g → NoFree bs' g
  kept g none l lt = elim (which (16 * g + l) t) [
    | inl here ↦ ap is_free (ap (slice_index bs') here ∙ bt) ∙ low_not_free y low
    | inr off ↦ elim (which (16 * g + l) i) [
      | inl here ↦ absurd (true≢false (sym (deleted_is_free _ (ap (slice_index bs) here ∙ deleted)) ∙ none l lt))
      | inr other ↦ ap is_free (bo (16 * g + l) other off) ∙ none l lt
    ]
  ]

  first_kept : (h k : ℕ) → First bs h k → First bs' h k
  first_kept h k r = subst (λ n. FirstIn (n / 16) bs' h k) (sym lenb) (r.0, r.1, r.2, λ m less. kept _ (r.3 m less))

  apart' : Apart class ps'
  apart' k k' q q' e e' one =
      let a = came k in let b = came k' in
      one_to_one i t k k' a.0 b.0 a.1 b.1 (s.apart a.0 b.0 q q' (sym a.2 ∙ e) (sym b.2 ∙ e') one)

  pub step_entries : entries_in class ps' ≡ entries_in class ps
  step_entries = entries_same class ps' ps s.apart
      (λ k q e. let a = came k in (a.0, sym a.2 ∙ e))
      (λ j q e. let a = went j in (a.0, a.1 ∙ e))

  t_within : t < length bs
  t_within = elim (dec_lt t (length bs)) [
    | yes lt ↦ lt
    | no ge ↦ absurd (true≢false (sym free ∙ ap is_free (get_or_past bs t 0 (omega (arith, ge)))))
  ]

  pub step : IsSettling class hash ps' bs'
  step = record {
    size = (lenp ∙ s.size.0 ∙ sym lenb, subst IsCapacity (sym lenb) s.size.1);
    control = λ k lt. elim (which k t) [
      | inl here ↦ subst IsControl (sym (ap (slice_index bs') here ∙ bt)) (low_control y low)
      | inr off ↦ elim (which k i) [
        | inl here ↦ subst IsControl (sym (ap (slice_index bs') here ∙ bi (λ e. off (here ∙ e)))) (s.control t t_within)
        | inr other ↦ subst IsControl (sym (bo k other off)) (s.control k (omega (arith, lt, lenb)))
      ]
    ];
    filled = λ k lt some. elim (which k t) [
      | inl here ↦ ap is_some (ap (λ x. get_or ps' x None) here ∙ pt ∙ there)
      | inr off ↦ elim (which k i) [
        | inl here ↦
            let b = ap (slice_index bs') here ∙ bi (λ e. off (here ∙ e)) in
            ap is_some (ap (λ x. get_or ps' x None) here ∙ pi) ∙ filled_at (λ e. some (b ∙ e))
        | inr other ↦ ap is_some (po k other off) ∙ s.filled k (omega (arith, lt, lenb)) (λ e. some (bo k other off ∙ e))
      ]
    ];
    vacant = λ k e. elim (which k t) [
      | inl here ↦ absurd (omega (arith, low, sym (ap (slice_index bs') here ∙ bt) ∙ e))
      | inr off ↦ elim (which k i) [
        | inl here ↦ ap (λ x. get_or ps' x None) here ∙ pi ∙ s.vacant t (sym (ap (slice_index bs') here ∙ bi (λ f. off (here ∙ f))) ∙ e)
        | inr other ↦ po k other off ∙ s.vacant k (sym (bo k other off) ∙ e)
      ]
    ];
    settled = λ k q e placed. elim (which k t) [
      | inl here ↦
          let one : p ≡ q = some_is (sym there ∙ sym pt ∙ ap (λ x. get_or ps' x None) (sym here) ∙ e) in (
            ap (slice_index bs') here ∙ bt ∙ is ∙ ap (λ (r : K × V). hash (class r.0) % 128) one,
            first_kept (hash (class q.0)) k (subst (λ x. First bs (hash (class q.0)) x) (sym here) (subst (λ (r : K × V). First bs (hash (class r.0)) t) one first)),
          )
      | inr off ↦ elim (which k i) [
        | inl here ↦ absurd (true≢false (sym free ∙ ap is_free (sym (ap (slice_index bs') here ∙ bi (λ f. off (here ∙ f)))) ∙ placed))
        | inr other ↦
            let it = s.settled k q (sym (po k other off) ∙ e) (ap is_free (sym (bo k other off)) ∙ placed) in
            (bo k other off ∙ it.0, first_kept (hash (class q.0)) k it.1)
      ]
    ];
    apart = apart';
    load = omega (arith, used, s.load, lenb);
  }
    where
      filled_at : slice_index bs t ≢ EMPTY → IsSome (get_or ps t None)
      filled_at some = s.filled t t_within some

-- counts, when the byte of t goes to i and t is full
used-set : (bs : List ℕ) (i y : ℕ) → i < length bs → used_count (set bs i y) + cond (not (nat_eq (slice_index bs i) EMPTY)) 1 0 ≡ used_count bs + cond (not (nat_eq y EMPTY)) 1 0
used-set bs i y lt = sum_by-set (λ b. cond (not (nat_eq b EMPTY)) 1 0) bs i y 0 lt

deleted-set : (bs : List ℕ) (i y : ℕ) → i < length bs → deleted_count (set bs i y) + cond (nat_eq (slice_index bs i) DELETED) 1 0 ≡ deleted_count bs + cond (nat_eq y DELETED) 1 0
deleted-set bs i y lt = sum_by-set (λ b. cond (nat_eq b DELETED) 1 0) bs i y 0 lt

module _ (bs : List ℕ) (i y : ℕ) (lt : i < length bs) (deleted : slice_index bs i ≡ DELETED) (low : y < 128) where
  u_old : ◌≡◌ {A = ℕ} (cond (not (nat_eq (slice_index bs i) EMPTY)) 1 0) 1
  u_old = ap (λ b. cond (not (nat_eq b EMPTY)) 1 0) deleted

  u_new : ◌≡◌ {A = ℕ} (cond (not (nat_eq y EMPTY)) 1 0) 1
  u_new = ap (λ b. cond (not b) 1 0) (ne_eqb y EMPTY (λ e. omega (arith, e, low)))

  d_old : ◌≡◌ {A = ℕ} (cond (nat_eq (slice_index bs i) DELETED) 1 0) 1
  d_old = ap (λ b. cond (nat_eq b DELETED) 1 0) deleted

  d_new : ◌≡◌ {A = ℕ} (cond (nat_eq y DELETED) 1 0) 0
  d_new = ap (λ b. cond b 1 0) (ne_eqb y DELETED (λ e. omega (arith, e, low)))

  pub used_stayed : used_count (set bs i y) ≡ used_count bs
  used_stayed = omega (arith, used-set bs i y lt, u_old, u_new)

  pub deleted_stayed : deleted_count (set bs i y) + 1 ≡ deleted_count bs
  deleted_stayed = omega (arith, deleted-set bs i y lt, d_old, d_new)

  module _ (t : ℕ) (t_lt : t < length bs) (off : t ≢ i) where
    b : ℕ
    b = slice_index bs t

    there_now : slice_index (set bs i (slice_index bs t)) t ≡ slice_index bs t
    there_now = get_or-set_other bs i t (slice_index bs t) 0 off

    pub used_turned : used_count (set (set bs i (slice_index bs t)) t y) ≡ used_count bs
    used_turned = omega (
      arith,
      used-set bs i (slice_index bs t) lt,
      used-set (set bs i (slice_index bs t)) t y (omega (arith, t_lt, length-set bs i (slice_index bs t))),
      u_old,
      u_new,
      ap {B = ℕ} (λ b. cond (not (nat_eq b EMPTY)) 1 0) there_now,
    )

    pub deleted_turned : deleted_count (set (set bs i (slice_index bs t)) t y) + 1 ≡ deleted_count bs
    deleted_turned = omega (
      arith,
      deleted-set bs i (slice_index bs t) lt,
      deleted-set (set bs i (slice_index bs t)) t y (omega (arith, t_lt, length-set bs i (slice_index bs t))),
      d_old,
      d_new,
      ap {B = ℕ} (λ b. cond (nat_eq b DELETED) 1 0) there_now,
    )

-- the beginning
module _ {K V : Type 0} (class : K → List ℕ) (hash : List ℕ → ℕ) (ps : List (Option (K × V))) (bs : List ℕ) (t : IsLaidOut class hash ps bs) where
  mark_at : (i : ℕ) → i < length bs → slice_index (map marked bs) i ≡ marked (slice_index bs i)
  mark_at i lt = get_or-map marked bs i 0 0 lt

  marked_low : (b : ℕ) → b < 128 → marked b ≡ DELETED
  marked_low b lt = ap (λ x. cond x DELETED EMPTY) (lt-ltb b 128 lt)

  marked_high : (b : ℕ) → 128 ≤ b → marked b ≡ EMPTY
  marked_high b le = ap (λ x. cond x DELETED EMPTY) (le-ltb b 128 le)

  all_free : (i : ℕ) → i < length bs → is_free (slice_index (map marked bs) i) ≡ true
  all_free i lt = elim (dec_lt (slice_index bs i) 128) [
    | yes low ↦ ap is_free (mark_at i lt ∙ marked_low _ low)
    | no high ↦ ap is_free (mark_at i lt ∙ marked_high _ (omega (arith, high)))
  ]

  marked_control : (b : ℕ) → IsControl (marked b)
  marked_control b = by_test (is_full b)
    where
      by_test : (x : Bool) → IsControl (cond x DELETED EMPTY)
      by_test true = refl
      by_test false = refl

  pub settling_begins : used_count (map marked bs) ≤ 14 * (length bs / 16) → IsSettling class hash ps (map marked bs)
  settling_begins load = record {
    size = (t.size.0 ∙ sym (length-map bs marked), subst IsCapacity (sym (length-map bs marked)) t.size.1);
    control = λ i lt. subst IsControl (sym (mark_at i (omega (arith, lt, length-map bs marked)))) (marked_control (slice_index bs i));
    filled = λ i lt some. elim (dec_lt (slice_index bs i) 128) [
      | yes low ↦ t.full i (omega (arith, lt, length-map bs marked)) low
      | no high ↦ absurd (some (mark_at i (omega (arith, lt, length-map bs marked)) ∙ marked_high _ (omega (arith, high))))
    ];
    vacant = λ i e. elim (dec_lt (slice_index bs i) 128) [
      | yes low ↦ absurd (elim (dec_lt i (length bs)) [
        | yes lt ↦ omega (arith, sym (mark_at i lt ∙ marked_low _ low) ∙ e)
        | no ge ↦ omega (arith, sym (get_or_past (map marked bs) i 0 (omega (arith, ge, length-map bs marked))) ∙ e)
      ])
      | no high ↦ t.vacant i (omega (arith, high))
    ];
    settled = λ i p e placed. absurd (true≢false (sym (all_free i (omega (arith, some_within ps i p e, t.size.0))) ∙ placed));
    apart = t.apart;
    load = omega (arith, load, length-map bs marked);
  }

pub used_marked : (bs : List ℕ) → used_count (map marked bs) ≡ full_count bs
used_marked [] = refl
used_marked (b ∷ bs) =
    sum_by-cons (λ x. cond (not (nat_eq x EMPTY)) 1 0) (marked b) (map marked bs)
    ∙ (λ j. one (nat_lt b 128) j + used_marked bs j)
    ∙ sym (sum_by-cons (λ x. cond (nat_lt x 128) 1 0) b bs)
  where
    one : (x : Bool) → ◌≡◌ {A = ℕ} (cond (not (nat_eq (cond x DELETED EMPTY) EMPTY)) 1 0) (cond x 1 0)
    one true = refl
    one false = refl

-- the end
module _ {K V : Type 0} (class : K → List ℕ) (hash : List ℕ → ℕ) (ps : List (Option (K × V))) (bs : List ℕ) (s : IsSettling class hash ps bs) (none : (i : ℕ) → i < length bs → slice_index bs i ≢ DELETED) where
  placed_at : (i : ℕ) (p : K × V) → get_or ps i None ≡ Some p → (slice_index bs i ≡ hash (class p.0) % 128) × First bs (hash (class p.0)) i
  placed_at i p e = s.settled i p e (not_free_either _ (λ empty. none_some p (sym (s.vacant i empty) ∙ e)) (none i (omega (arith, some_within ps i p e, s.size.0))))

  high_within : (i : ℕ) → 128 ≤ slice_index bs i → i < length bs
  high_within i high = elim (dec_lt i (length bs)) [
    | yes lt ↦ lt
    | no ge ↦ absurd (omega (arith, get_or_past bs i 0 (omega (arith, ge)), high))
  ]

  pub settling_ends : IsLaidOut class hash ps bs
  settling_ends = record {
    size = s.size;
    control = s.control;
    full = λ i lt low. s.filled i lt (λ e. omega (arith, e, low));
    vacant = λ i high. elim (which (slice_index bs i) EMPTY) [
      | inl empty ↦ s.vacant i empty
      | inr other ↦ absurd (let lt = high_within i high in true≢false (sym (high_free _ (s.control i lt) high) ∙ not_free_either _ other (none i lt)))
    ];
    h2 = λ i p e. (placed_at i p e).0;
    chain = λ i p e. let r = (placed_at i p e).1 in (r.0, r.1, r.2, λ m less. none_empty bs _ (r.3 m less));
    apart = s.apart;
    load = s.load;
  }
