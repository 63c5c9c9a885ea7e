-- What a search of the groups says.
use Rattle.std.proofs.Common.{◌≡◌, ◌≢◌, ℕ, ◌+◌, ◌*◌, ◌/◌, ◌%◌, ◌<◌, ◌≤◌, ◌⊎◌, Bool, true, false, List, map, length, take, drop, get_or, slice_index, nat_eq, Option, Some, None, IsSome, sym, ap, ◌∙◌, subst, arith, inl, inr}
use mathlib.Core.Bool.{true≢false}
use native.Mathlib.Nat.{mod-lt}
use native.Mathlib.Decide.{dec_lt}
use Rattle.std.specs.List.{position}
use Rattle.std.specs.Prelude.{Contains}
use Rattle.std.proofs.lemmas.List.Quantifiers.{position-Some}
use Rattle.std.proofs.lemmas.Bool.{eqb-true, eq-eqb}
use Rattle.std.proofs.lemmas.List.{get_or-map, get_or_past, get_or_default, length-map}
use Rattle.std.proofs.lemmas.Simd.{get_or-chunk, length-chunk}
use Rattle.sw_probe.specs.Order.{group_number}
use Rattle.sw_table.specs.LaidOut.{IsLaidOut, Reached}

pub some_lane : (ms : List Bool) → Contains ms true → (k : ℕ) × (k < length ms) × (get_or ms k false ≡ true)
some_lane ms (k, lt, e) = (k, lt, get_or_default ms k false true lt ∙ e)

pub no_lane : (ms : List Bool) → (Contains ms true → ⊥) → (k : ℕ) → k < length ms → get_or ms k false ≡ true → ⊥
no_lane ms none k lt e = none (k, lt, get_or_default ms k true false lt ∙ e)

-- the lanes of group g that have the byte y
module _ (bs : List ℕ) (g y : ℕ) (room : 16 * g + 16 ≤ length bs) (ms : List Bool) (is : ms ≡ map (λ b. nat_eq b y) (take 16 (drop (16 * g) bs))) where
  lane_is : (l : ℕ) → l < 16 → get_or ms l false ≡ nat_eq (slice_index bs (16 * g + l)) y
  lane_is l lt =
      ap (λ m. get_or m l false) is
      ∙ get_or-map (λ b. nat_eq b y) (take 16 (drop (16 * g) bs)) l 0 false (omega (arith, length-chunk (16 * g) 16 bs room))
      ∙ ap (λ b. nat_eq b y) (get_or-chunk (16 * g) 16 bs l 0 lt)

  pub lane_count : length ms ≡ 16
  lane_count = ap length is ∙ length-map (take 16 (drop (16 * g) bs)) (λ b. nat_eq b y) ∙ length-chunk (16 * g) 16 bs room

  pub lane_has : (l : ℕ) → get_or ms l false ≡ true → (l < 16) × (slice_index bs (16 * g + l) ≡ y)
  lane_has l e = elim (dec_lt l 16) [
    | yes lt ↦ (lt, eqb-true _ y (sym (lane_is l lt) ∙ e))
    | no ge ↦ absurd (true≢false (sym e ∙ get_or_past ms l false (omega (arith, lane_count, ge))))
  ]

  pub lane_set : (l : ℕ) → l < 16 → slice_index bs (16 * g + l) ≡ y → get_or ms l false ≡ true
  lane_set l lt e = lane_is l lt ∙ eq-eqb _ y e

-- the slot of the first lane that has a byte of an entry is full
pub marked_lane : {K V : Type 0} (class : K → List ℕ) (hash : List ℕ → ℕ) (ps : List (Option (K × V))) (bs : List ℕ) → IsLaidOut class hash ps bs → (g y : ℕ) (ms : List Bool) → 16 * g + 16 ≤ length bs
    → ms ≡ map (λ b. nat_eq b y) (take 16 (drop (16 * g) bs)) → y < 128 → (l : ℕ) → position (λ b. b) ms ≡ Some l → IsSome (get_or ps (16 * g + l) None)
marked_lane class hash ps bs t g y ms room is low l first =
    let h = lane_has bs g y room ms is l (position-Some (λ b. b) ms l false first).1 in
    t.full (16 * g + l) (omega (arith, h.0, room)) (omega (arith, h.1, low))

module _ {K V : Type 0} (class : K → List ℕ) (hash : List ℕ → ℕ) (ps : List (Option (K × V))) (bs : List ℕ) (t : IsLaidOut class hash ps bs) (q : List ℕ) where
  abbrev Tested : ℕ → Type 0
  Tested g = (k : ℕ) (p : K × V) → k < 16 → get_or ps (16 * g + k) None ≡ Some p → q ≢ class p.0

  pub filled_lane : (g y : ℕ) (ms : List Bool) → 16 * g + 16 ≤ length bs → ms ≡ map (λ b. nat_eq b y) (take 16 (drop (16 * g) bs)) → y ≡ hash q % 128
      → (l : ℕ) → get_or ms l false ≡ true → IsSome (get_or ps (16 * g + l) None)
  filled_lane g y ms room is e l set =
      let h = lane_has bs g y room ms is l set in
      t.full (16 * g + l) (omega (arith, h.0)) (omega (arith, h.1, e, mod-lt (hash q) {m = 128} (omega arith)))

  pub tested_at : (g y : ℕ) (ms : List Bool) → 16 * g + 16 ≤ length bs → ms ≡ map (λ b. nat_eq b y) (take 16 (drop (16 * g) bs)) → y ≡ hash q % 128
      → ((l : ℕ) (p : K × V) → get_or ms l false ≡ true → get_or ps (16 * g + l) None ≡ Some p → q ≢ class p.0) → Tested g
  tested_at g y ms room is e tried k p lt there =
      λ same.
      let byte : slice_index bs (16 * g + k) ≡ y = t.h2 (16 * g + k) p there ∙ ap (λ c. hash c % 128) (sym same) ∙ sym e in
      tried k p (lane_set bs g y room ms is k lt byte) there same

  pub absent_from : (index : ℕ) → ((m : ℕ) → m ≤ index → Tested (group_number (hash q / 128) (length bs / 16) m))
      → (index + 1 ≡ length bs / 16) ⊎ ((l : ℕ) × (l < 16) × (slice_index bs (16 * group_number (hash q / 128) (length bs / 16) index + l) ≡ 128))
      → (i : ℕ) (p : K × V) → get_or ps i None ≡ Some p → q ≢ class p.0
  absent_from index tested stop i p there =
      λ same.
      let e = sym same in
      let r : Reached bs (hash q) i = subst (λ c. Reached bs (hash c) i) e (t.chain i p there) in
      let j = r.0 in
      elim (dec_lt index j) [
        | yes past ↦ elim stop [
          | inl last ↦ omega (arith, r.1, past, last)
          | inr empty ↦ r.3 index past empty.0 empty.1 empty.2
        ]
        | no within ↦
            let place : 16 * group_number (hash q / 128) (length bs / 16) j + i % 16 ≡ i = omega (arith, r.2) in
            tested j (omega (arith, within)) (i % 16) p (omega arith) (ap (λ k. get_or ps k None) place ∙ there) same
      ]

  pub tested_upto : (h n index at : ℕ) → at ≡ group_number h n index
      → ((m k : ℕ) (p : K × V) → m < index → k < 16 → get_or ps (16 * group_number h n m + k) None ≡ Some p → q ≢ class p.0)
      → Tested at → (m : ℕ) → m ≤ index → Tested (group_number h n m)
  tested_upto h n index at e before here m le = elim (dec_lt m index) [
    | yes lt ↦ λ k p. before m k p lt
    | no ge ↦ let same : m ≡ index = omega (arith, ge) in subst Tested (e ∙ ap (group_number h n) (sym same)) here
  ]
