-- What the full bytes of a group say about its slots.
use Rattle.std.proofs.Common.{◌≡◌, ℕ, ◌+◌, ◌-◌, ◌*◌, ◌<◌, ◌≤◌, Bool, true, false, List, map, length, take, drop, get_or, slice_index, Option, None, IsSome, sym, ap, ◌∙◌, arith}
use Rattle.std.proofs.lemmas.Bool.{ltb-true, ltb-false}
use Rattle.std.proofs.lemmas.List.{get_or-map, length-map}
use Rattle.std.proofs.lemmas.Simd.{get_or-chunk, length-chunk}
use Rattle.sw_ctrl.specs.Bytes.{is_full}
use Rattle.sw_table.specs.LaidOut.{IsLaidOut}

module _ (bs : List ℕ) (g : ℕ) (room : 16 * g + 16 ≤ length bs) (ms : List Bool) (is : ms ≡ map is_full (take 16 (drop (16 * g) bs))) where
  pub full_lanes : length ms ≡ 16
  full_lanes = ap length is ∙ length-map (take 16 (drop (16 * g) bs)) is_full ∙ length-chunk (16 * g) 16 bs room

  pub full_lane : (l : ℕ) → l < 16 → get_or ms l false ≡ is_full (slice_index bs (16 * g + l))
  full_lane l lt =
      ap (λ m. get_or m l false) is
      ∙ get_or-map is_full (take 16 (drop (16 * g) bs)) l 0 false (omega (arith, length-chunk (16 * g) 16 bs room))
      ∙ ap is_full (get_or-chunk (16 * g) 16 bs l 0 lt)

  module _ {K V : Type 0} (class : K → List ℕ) (hash : List ℕ → ℕ) (ps : List (Option (K × V))) (t : IsLaidOut class hash ps bs) where
    pub set_holds : (l : ℕ) → l < 16 → get_or ms l false ≡ true → IsSome (get_or ps (16 * g + l) None)
    set_holds l lt e = t.full (16 * g + l) (omega (arith, room, lt)) (ltb-true _ _ (sym (full_lane l lt) ∙ e))

    pub unset_vacant : (l : ℕ) → l < 16 → get_or ms l false ≡ false → get_or ps (16 * g + l) None ≡ None
    unset_vacant l lt e = t.vacant (16 * g + l) (ltb-false _ _ (sym (full_lane l lt) ∙ e))

    -- in the group, from the place f on and before the place u, nothing is held
    pub vacant_between : (f u i : ℕ) → u ≤ 16 → ((k : ℕ) → f ≤ k → k < u → get_or ms k false ≡ false) → 16 * g + f ≤ i → i < 16 * g + u → get_or ps i None ≡ None
    vacant_between f u i u16 none low high =
        let k = i - 16 * g in let e : 16 * g + k ≡ i = omega (arith, low) in
        ap (λ j. get_or ps j None) (sym e) ∙ unset_vacant k (omega (arith, low, high, u16)) (none k (omega (arith, low)) (omega (arith, low, high)))
