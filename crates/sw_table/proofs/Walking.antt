-- What a walk over the full slots knows.
use Rattle.std.proofs.Common.{◌≡◌, ℕ, ◌+◌, ◌-◌, ◌*◌, ◌/◌, ◌<◌, ◌≤◌, Bool, true, false, List, map, length, take, drop, set, get_or, slice_index, Some, None, sym, ap, ◌∙◌, subst, arith, inl, inr, get_or-set_other, length-set}
use mathlib.Core.Bool.{true≢false}
use native.Mathlib.Decide.{dec_lt}
use Rattle.std.specs.List.{position, position_or_len}
use Rattle.std.proofs.lemmas.Bool.{lt-ltb, ltb-true}
use Rattle.std.proofs.lemmas.Grind.{get_or-set_at}
use Rattle.std.proofs.lemmas.List.{get_or_past}
use Rattle.std.proofs.lemmas.List.Quantifiers.{position-Some}
use Rattle.sw_ctrl.specs.Bytes.{is_full}
use Rattle.sw_table.specs.declared.walk.Walk.{Walk}
use Rattle.sw_table.specs.Walks.{IsWalking}
use Rattle.sw_table.proofs.FullLanes.{full_lanes, full_lane}
use Rattle.sw_table.proofs.Masks.{none_set, lowest_place}
use Rattle.sw_table.proofs.Places.{which}

-- a lane that is set is one of sixteen
pub lane_within : (ms : List Bool) (l : ℕ) → length ms ≡ 16 → get_or ms l false ≡ true → l < 16
lane_within ms l long e = elim (dec_lt l 16) [
  | yes lt ↦ lt
  | no ge ↦ absurd (true≢false (sym e ∙ get_or_past ms l false (omega (arith, long, ge))))
]

-- the walk at another mask
abbrev pub at_rest : Walk → ℕ → ℕ → List Bool → Walk
at_rest w from next rest = record w { from = from; next = next; rest = rest }

module _ (bs : List ℕ) (w : Walk) (is : IsWalking bs w) where
  -- where the mask has no lane left, nothing is full up to the next group
  pub none_before : position (λ b. b) w.rest ≡ None → (i : ℕ) → w.from ≤ i → i < w.next → 128 ≤ slice_index bs i
  none_before e i low high = elim (dec_lt (slice_index bs i) 128) [
    | yes lt ↦ absurd (true≢false (sym (is.all i low high lt).1 ∙ none_set w.rest e (i + 16 - w.next)))
    | no ge ↦ omega (arith, ge)
  ]

  -- the next group is read
  pub walking_on : (ms : List Bool) → position (λ b. b) w.rest ≡ None → w.next + 16 ≤ length bs → ms ≡ map is_full (take 16 (drop (16 * (w.next / 16)) bs)) → IsWalking bs (at_rest w w.from (w.next + 16) ms)
  walking_on ms none room m =
      let g = w.next / 16 in
      let e : 16 * g ≡ w.next = omega (arith, is.group.0) in
      let within : 16 * g + 16 ≤ length bs = omega (arith, room, e) in
      let long = full_lanes bs g within ms m in record {
        group = (omega (arith, is.group.0), room);
        lanes = long;
        passed = omega (arith, is.passed);
        set = λ l s.
            let lt = lane_within ms l long s in
            let low = ltb-true _ _ (sym (full_lane bs g within ms m l lt) ∙ s) in
            let same : w.next + 16 - 16 + l ≡ 16 * g + l = omega (arith, e) in
            (omega arith, omega (arith, is.passed), subst (λ k. slice_index bs k < 128) (sym same) low);
        all = λ i low high full. elim (dec_lt i w.next) [
          | yes lt ↦ absurd (let h = none_before none i low lt in omega (arith, h, full))
          | no ge ↦
              let l = i - w.next in
              let lt : l < 16 = omega (arith, ge, high) in
              let same : 16 * g + l ≡ i = omega (arith, e, ge) in
              let here : i + 16 - (w.next + 16) ≡ l = omega (arith, ge) in (
                omega (arith, ge),
                ap (λ k. get_or ms k false) here ∙ full_lane bs g within ms m l lt ∙ ap (λ k. is_full (slice_index bs k)) same ∙ lt-ltb _ _ full,
              )
        ];
      }

  module _ (l : ℕ) (here : position (λ b. b) w.rest ≡ Some l) where
    it : (l < length w.rest) × (get_or w.rest l false ≡ true) × ((k : ℕ) → k < l → get_or w.rest k false ≡ false)
    it = position-Some (λ b. b) w.rest l false here

    pub lane_set : (16 ≤ w.next) × (w.from + 16 ≤ w.next + l) × (slice_index bs (w.next - 16 + l) < 128)
    lane_set = is.set l it.1

    pub lane_low : l < 16
    lane_low = omega (arith, it.0, is.lanes)

    pub first_lane : (k : ℕ) → w.from ≤ k → k < w.next - 16 + l → 128 ≤ slice_index bs k
    first_lane k low high = elim (dec_lt (slice_index bs k) 128) [
      | yes lt ↦
          let s = lane_set in
          let a = is.all k low (omega (arith, high, s.0, lane_low)) lt in
          absurd (true≢false (sym a.1 ∙ it.2 (k + 16 - w.next) (omega (arith, high, s.0, a.0))))
      | no ge ↦ omega (arith, ge)
    ]

    pub walking_behind : IsWalking bs (at_rest w (w.next - 16 + l + 1) w.next (set w.rest (position_or_len (λ b. b) w.rest) false))
    walking_behind =
        let at = lowest_place w.rest l here in
        let s = lane_set in
        record {
          group = is.group;
          lanes = length-set w.rest (position_or_len (λ b. b) w.rest) false ∙ is.lanes;
          passed = omega (arith, s.0, lane_low);
          set = λ k e. elim (which k (position_or_len (λ b. b) w.rest)) [
            | inl same ↦ absurd (true≢false (sym e ∙ get_or-set_at w.rest (position_or_len (λ b. b) w.rest) k false false same (omega (arith, it.0, at))))
            | inr other ↦
                let kept : get_or w.rest k false ≡ true = sym (get_or-set_other w.rest (position_or_len (λ b. b) w.rest) k false false other) ∙ e in
                let old = is.set k kept in
                let past : l < k = elim (dec_lt l k) [
                  | yes lt ↦ lt
                  | no ge ↦ elim (which k l) [
                    | inl eq ↦ absurd (other (eq ∙ at))
                    | inr ne ↦ absurd (true≢false (sym kept ∙ it.2 k (omega (arith, ge, ne))))
                  ]
                ] in
                (s.0, omega (arith, past, s.0), old.2)
          ];
          all = λ i low high full.
              let old = is.all i (omega (arith, low, s.0, s.1)) high full in
              let apart : i + 16 - w.next ≡ position_or_len (λ b. b) w.rest → ⊥ = λ e. omega (arith, e, at, low, s.0, old.0) in
              (old.0, get_or-set_other w.rest (position_or_len (λ b. b) w.rest) (i + 16 - w.next) false false apart ∙ old.1);
        }

-- the bytes that were passed may change
pub walking_kept : (bs cs : List ℕ) (w : Walk) → length cs ≡ length bs → ((i : ℕ) → w.from ≤ i → slice_index cs i ≡ slice_index bs i) → IsWalking bs w → IsWalking cs w
walking_kept bs cs w long same is = record {
  group = (is.group.0, omega (arith, is.group.1, long));
  lanes = is.lanes;
  passed = is.passed;
  set = λ l e. let s = is.set l e in (s.0, s.1, omega (arith, s.2, same (w.next - 16 + l) (omega (arith, s.0, s.1))));
  all = λ i low high full. is.all i low high (omega (arith, full, same i low));
}
