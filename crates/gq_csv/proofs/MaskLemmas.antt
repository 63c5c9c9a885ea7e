-- The mask of a text's special bytes, without those at its start.
use Rattle.std.proofs.Common.{◌≡◌, ◌∙◌, ℕ, zero, suc, ◌+◌, ◌-◌, ◌*◌, ◌/◌, ◌^◌, ◌<◌, ◌≤◌, Bool, true, false, cond, not, List, [], ◌∷◌, length, map, take, drop, refl, sym, ap, arith, length-drop}
use Rattle.std.proofs.Math.Nat.{div-div-eq-div-mul, div-one, two-pow-succ, zero-div}
use Rattle.std.proofs.lemmas.List.{drop-drop, drop-take, length-take-le}
use Rattle.std.proofs.lemmas.Simd.{leading_from_mask_l}
use Rattle.std.specs.List.{position_or_len}
use Rattle.std.specs.Simd.Lanes.{mask_l}
use Rattle.gq_csv.specs.Bytes.{is_special}
use Rattle.gq_csv.specs.Masks.{Covers}
use Rattle.gq_csv.specs.declared.special_mask.SpecialMask.{SpecialMask}
use Rattle.gq_csv.proofs.FindLemmas.{passes_block}

-- ---- masks of lists

halved : (b : Bool) (m : ℕ) → (cond b 1 0 + 2 * m) / 2 ≡ m
halved true m = omega arith
halved false m = omega arith

shifted : (p : ℕ → Bool) (xs : List ℕ) (k : ℕ) → mask_l (map p xs) / 2 ^ k ≡ mask_l (map p (drop k xs))
shifted p xs zero = div-one (mask_l (map p xs))
shifted p [] (suc k) = zero-div (2 ^ suc k)
shifted p (x ∷ xs) (suc k) =
    ap (λ n. mask_l (map p (x ∷ xs)) / n) (two-pow-succ k ∙ omega arith) ∙ sym (div-div-eq-div-mul (mask_l (map p (x ∷ xs))) 2 (2 ^ k))
    ∙ ap (λ m. m / 2 ^ k) (halved (p x) (mask_l (map p xs))) ∙ shifted p xs k

pub some_stops : (p : ℕ → Bool) (xs : List ℕ) → 0 < mask_l (map p xs) → position_or_len p xs < length xs
some_stops p [] some = absurd (omega (arith, some))
some_stops p (x ∷ xs) some = by (p x) refl (some_stops p xs)
  where
    by : (b : Bool) → p x ≡ b → (0 < mask_l (map p xs) → position_or_len p xs < length xs) → position_or_len p (x ∷ xs) < length (x ∷ xs)
    by true e again = rw e (omega arith)
    by false e again = let more = again (let rest = rw e at some in omega (arith, rest)) in rw e (omega (arith, more))

-- ---- masks of texts

module _ (text : List ℕ) (mask : SpecialMask) (h : Covers text mask) where
  size : length (take mask.len text) ≡ mask.len
  size = length-take-le mask.len text h.within

  rest_is : (k : ℕ) → k ≤ mask.len → drop k (take mask.len text) ≡ take (mask.len - k) (drop k text)
  rest_is k le = (let e : mask.len ≡ k + (mask.len - k) = omega (arith, le) in ap (λ n. drop k (take n text)) e) ∙ drop-take k (mask.len - k) text

  -- the mask without its first k bits
  pub skipped : (k : ℕ) → k ≤ mask.len → Covers (drop k text) (record { bits = mask.bits / 2 ^ k; len = mask.len - k })
  skipped k le = record {
    within = omega (arith, h.within, le, length-drop k text);
    few = omega (arith, h.few, le);
    bits = ap (λ n. n / 2 ^ k) h.bits ∙ shifted is_special (take mask.len text) k ∙ ap (λ xs. mask_l (map is_special xs)) (rest_is k le);
  }

  -- no bit is set: the first special byte comes after those of the mask
  pub none_covered : mask.bits ≡ 0 → position_or_len is_special text ≡ mask.len + position_or_len is_special (drop mask.len text)
  none_covered none =
      let all = leading_from_mask_l is_special (take mask.len text) (sym h.bits ∙ none) in
      passes_block (λ b. not (is_special b)) text mask.len h.within (omega (arith, all, size))

-- ---- masks of what follows a position

pub goes_on : (text : List ℕ) (at : ℕ) (mask : SpecialMask) → Covers (drop at text) mask → mask.bits ≡ 0
    → at + mask.len + position_or_len is_special (drop (at + mask.len) text) ≡ at + position_or_len is_special (drop at text)
goes_on text at mask h none = omega (arith, none_covered (drop at text) mask h none, ap (position_or_len is_special) (drop-drop mask.len at text))

pub block_covered : (text : List ℕ) (at bits k : ℕ) → k ≡ 64 → at + 64 ≤ length text → bits ≡ mask_l (map is_special (take k (drop at text))) → Covers (drop at text) (record { bits = bits; len = 64 })
block_covered text at bits k e le is = record {
  within = omega (arith, le, length-drop at text);
  few = omega arith;
  bits = is ∙ ap (λ n. mask_l (map is_special (take n (drop at text)))) e;
}
