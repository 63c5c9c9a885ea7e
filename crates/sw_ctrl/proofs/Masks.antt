-- The bits of a mask are its lanes.
use Rattle.std.proofs.Common.{◌≡◌, ℕ, zero, suc, ◌+◌, ◌-◌, ◌*◌, ◌/◌, ◌%◌, ◌^◌, ◌<◌, min, Bool, true, false, cond, not, eqb, List, [], ◌∷◌, map, length, replicate, get_or, set, Some, None, refl, sym, ap, ◌∙◌, subst, arith, Fits, w16, bit_and, bit_or, ◌||◌, inl, inr}
use native.Mathlib.Nat.{two-pow-succ}
use native.Mathlib.Numerals.{one-add}
use lib.Bits.{and_step}
use lib.Lanes.{zip2, mask_l, top, sel_l}
use lib.Count.{ones, count_trailing_zeros, under}
use Rattle.std.specs.Int.Bits.{and_self}
use Rattle.std.specs.List.{position, position_or_len, count_by}
use Rattle.std.specs.Prelude.{Contains, ◌↔◌}
use Rattle.std.proofs.lemmas.List.Sums.{fails_before_first, passes_at_first}
use Rattle.std.proofs.lemmas.Bool.{lt-ltb, le-ltb, cases_eq, eq-eqb, ne_eqb}
use Rattle.std.proofs.lemmas.List.{map-id, length-map, set_past}
use Rattle.std.proofs.lemmas.Simd.{mask_l-lt, mask_l-mod, ones-mask_l, trailing_mask_l, leading_from_mask_l, bitmask_splat, tops_compared, zip2_splat, zip2_of_maps, map-map}
use mir.Syntax.{w8}
use Rattle.sw_ctrl.specs.Bits.{bits_of, number_of-bits_of}

pub length-bits_of : (n b : ℕ) → length (bits_of n b) ≡ n
unfolding bits_of
length-bits_of zero b = refl
length-bits_of (suc n) b = ap suc (length-bits_of n (b / 2))

low : (m : Bool) (n : ℕ) → ((cond m 1 0 + 2 * n) % 2 ≡ cond m 1 0) × ((cond m 1 0 + 2 * n) / 2 ≡ n)
low true n = omega arith
low false n = omega arith

flag : (m : Bool) → eqb (cond m 1 0) 1 ≡ m
flag true = refl
flag false = refl

bits_of_length : (bs : List Bool) → bits_of (length bs) (mask_l bs) ≡ bs
unfolding bits_of
bits_of_length [] = refl
bits_of_length (m ∷ bs) =
    (λ i. eqb ((low m (mask_l bs)).0 i) 1 ∷ bits_of (length bs) ((low m (mask_l bs)).1 i)) ∙ (λ i. flag m i ∷ bits_of_length bs i)

pub bits_of-mask : (n : ℕ) (bs : List Bool) → length bs ≡ n → bits_of n (mask_l bs) ≡ bs
bits_of-mask n bs e = ap (λ k. bits_of k (mask_l bs)) (sym e) ∙ bits_of_length bs

-- a mask of sixteen lanes fits
pub mask_fits : (bs : List Bool) → length bs ≡ 16 → Fits w16 (mask_l bs)
mask_fits bs e = record { fits = subst (λ n. mask_l bs < 2 ^ n) e (mask_l-lt bs) }

module _ (b : ℕ) (small : b < 2 ^ 16) where
  whole : mask_l (map (λ m. m) (bits_of 16 b)) ≡ b
  whole = ap mask_l (map-id (bits_of 16 b)) ∙ number_of-bits_of 16 b small

  pub count_is : ones b ≡ count_by (λ m. m) (bits_of 16 b)
  count_is = ap ones (sym whole) ∙ ones-mask_l (λ m. m) (bits_of 16 b)

  pub trailing_is : 0 < b → count_trailing_zeros 16 b ≡ position_or_len (λ m. m) (bits_of 16 b)
  trailing_is some = ap (count_trailing_zeros 16) (sym whole) ∙ trailing_mask_l (λ m. m) 16 (bits_of 16 b) (omega (arith, length-bits_of 16 b)) (omega (arith, whole))

below : (n b d t : ℕ) → b % 2 ≡ d → (b % 2 ≡ 0 → t < n) → under d t < suc n
below n b zero t e h = omega (arith, h e)
below n b (suc d) t e h = omega arith

trailing_lt : (n b : ℕ) → 0 < b → b < 2 ^ n → count_trailing_zeros n b < n
unfolding count_trailing_zeros
trailing_lt zero b p h = absurd (omega arith)
trailing_lt (suc n) b p h = below n b (b % 2) _ refl (λ e. trailing_lt n (b / 2) (omega arith) (omega (arith, two-pow-succ n)))

module _ (b : ℕ) (small : b < 2 ^ 16) where
  pub at_lt : 0 < b → position_or_len (λ m. m) (bits_of 16 b) < 16
  at_lt some = omega (arith, trailing_is b small some, trailing_lt 16 b some small)

  pub none_at : b ≡ 0 → position_or_len (λ m. m) (bits_of 16 b) ≡ 16
  none_at e = leading_from_mask_l (λ m. m) (bits_of 16 b) (whole b small ∙ e) ∙ length-bits_of 16 b

  at_lt_length : 0 < b → position_or_len (λ m. m) (bits_of 16 b) < length (bits_of 16 b)
  at_lt_length some = omega (arith, at_lt some, length-bits_of 16 b)

  none_set : b ≡ 0 → (k : ℕ) → k < length (bits_of 16 b) → get_or (bits_of 16 b) k true ≡ true → ⊥
  none_set e k lt set =
      let off : get_or (bits_of 16 b) k true ≡ false = fails_before_first (λ m. m) (bits_of 16 b) k true (omega (arith, none_at e, length-bits_of 16 b, lt)) in
      cc

  pub lowest_none : b ≡ 0 → None ≡ position (λ m. m) (bits_of 16 b)
  lowest_none e = sym (ap (λ t. cond t (Some (position_or_len (λ m. m) (bits_of 16 b))) None) (le-ltb _ _ (omega (arith, none_at e, length-bits_of 16 b))))

  pub lowest_some : 0 < b → Some (count_trailing_zeros 16 b) ≡ position (λ m. m) (bits_of 16 b)
  lowest_some some = ap Some (trailing_is b small some)
      ∙ sym (ap (λ t. cond t (Some (position_or_len (λ m. m) (bits_of 16 b))) None) (lt-ltb _ _ (omega (arith, at_lt some, length-bits_of 16 b))))

  pub any_is : (not (eqb b 0) ≡ true) ↔ Contains (bits_of 16 b) true
  any_is = elim (cases_eq b 0) [
    | inl e ↦ rw (eq-eqb b 0 e) (record {
      0 = λ h. absurd (cc h);
      1 = λ it. absurd (none_set e it.0 it.1 it.2);
    })
    | inr ne ↦ rw (ne_eqb b 0 ne) (record {
      0 = λ _. (position_or_len (λ m. m) (bits_of 16 b), at_lt_length (omega arith), passes_at_first (λ m. m) (bits_of 16 b) true (at_lt_length (omega arith)));
      1 = λ _. refl;
    })
  ]

-- without its lowest set bit
cleared_by : (n b d : ℕ) → 0 < b → b % 2 ≡ d → (d ≡ 0 → bits_of n (bit_and (b / 2) (b / 2 - 1)) ≡ set (bits_of n (b / 2)) (position_or_len (λ m. m) (bits_of n (b / 2))) false)
    → bits_of (suc n) (bit_and b (b - 1)) ≡ set (eqb d 1 ∷ bits_of n (b / 2)) (position_or_len (λ m. m) (eqb d 1 ∷ bits_of n (b / 2))) false
unfolding bits_of
cleared_by n b zero some e ih =
    let half : (b - 1) / 2 ≡ b / 2 - 1 = omega arith in
    let step : bit_and b (b - 1) ≡ bit_and (b / 2) (b / 2 - 1) * 2 + min (b % 2) ((b - 1) % 2) = and_step b (b - 1) ∙ ap (λ x. bit_and (b / 2) x * 2 + min (b % 2) ((b - 1) % 2)) half in
    let rest : bit_and b (b - 1) / 2 ≡ bit_and (b / 2) (b / 2 - 1) = omega (arith, step) in
    let here : bit_and b (b - 1) % 2 ≡ 0 = omega (arith, step) in
    (λ i. eqb (here i) 1 ∷ bits_of n (rest i)) ∙ ap (λ l. false ∷ l) (ih refl)
    ∙ ap (λ j. set (false ∷ bits_of n (b / 2)) j false) (sym (one-add (position_or_len (λ m. m) (bits_of n (b / 2)))))
cleared_by n b (suc zero) some e ih =
    let half : (b - 1) / 2 ≡ b / 2 = omega arith in
    let step : bit_and b (b - 1) ≡ b / 2 * 2 + min (b % 2) ((b - 1) % 2) = and_step b (b - 1) ∙ ap (λ x. bit_and (b / 2) x * 2 + min (b % 2) ((b - 1) % 2)) half ∙ ap (λ x. x * 2 + min (b % 2) ((b - 1) % 2)) (and_self (b / 2)) in
    let rest : bit_and b (b - 1) / 2 ≡ b / 2 = omega (arith, step) in
    let here : bit_and b (b - 1) % 2 ≡ 0 = omega (arith, step) in
    λ i. eqb (here i) 1 ∷ bits_of n (rest i)
cleared_by n b (suc (suc d)) some e ih = absurd (omega arith)

pub cleared : (n b : ℕ) → 0 < b → b < 2 ^ n → bits_of n (bit_and b (b - 1)) ≡ set (bits_of n b) (position_or_len (λ m. m) (bits_of n b)) false
unfolding bits_of
cleared zero b some small = refl
cleared (suc n) b some small = cleared_by n b (b % 2) some refl (λ e. cleared n (b / 2) (omega arith) (omega (arith, two-pow-succ n)))

pub cleared_none : (b : ℕ) → b < 2 ^ 16 → b ≡ 0 → bits_of 16 b ≡ set (bits_of 16 b) (position_or_len (λ m. m) (bits_of 16 b)) false
cleared_none b small e = sym (set_past (bits_of 16 b) _ false (omega (arith, none_at b small e, length-bits_of 16 b)))

either : (p q : Bool) → top 7 (bit_or (cond p 255 0) (cond q 255 0)) ≡ (p || q)
either true true = refl
either true false = refl
either false true = refl
either false false = refl

picked : (p : ℕ → Bool) (a b : ℕ) (xs : List ℕ) (n : ℕ) → length xs ≡ n → sel_l (map p xs) (replicate n a) (replicate n b) ≡ map (λ x. cond (p x) a b) xs
picked p a b [] n e = refl
picked p a b (x ∷ xs) zero e = absurd (omega arith)
picked p a b (x ∷ xs) (suc n) e = ap (λ l. cond (p x) a b ∷ l) (picked p a b xs n (omega arith))

-- ---- comparisons of sixteen lanes, each with one byte
module _ (xs : List ℕ) (long : length xs ≡ 16) where
  -- the comparison t with the byte y
  module _ (t : ℕ → ℕ → Bool) (y : ℕ) where
    pub compared_is : mask_l (map (top 7) (zip2 (λ a b. cond (t a b) 255 0) xs (replicate 16 y))) % 2 ^ 64 ≡ mask_l (map (λ x. t x y) xs)
    compared_is = bitmask_splat w8 t xs 16 y long (omega arith)

    pub compared_fits : Fits w16 (mask_l (map (top 7) (zip2 (λ a b. cond (t a b) 255 0) xs (replicate 16 y))) % 2 ^ 64)
    compared_fits = subst (Fits w16) (sym compared_is) (mask_fits (map (λ x. t x y) xs) (omega (arith, length-map xs (λ x. t x y))))

  pub lanes_of : (p : ℕ → Bool) → bits_of 16 (mask_l (map p xs)) ≡ map p xs
  lanes_of p = bits_of-mask 16 (map p xs) (omega (arith, length-map xs p))

  -- where either of two comparisons holds
  module _ (t : ℕ → ℕ → Bool) (y z : ℕ) where
    both_at : (x : ℕ) → top 7 (bit_or (cond (t x y) 255 0) (cond (t x z) 255 0)) ≡ (t x y || t x z)
    both_at x = either (t x y) (t x z)

    eitherwise : map (top 7) (zip2 bit_or (zip2 (λ a b. cond (t a b) 255 0) xs (replicate 16 y)) (zip2 (λ a b. cond (t a b) 255 0) xs (replicate 16 z))) ≡ map (λ x. t x y || t x z) xs
    eitherwise =
        ap (map (top 7)) (zip2_of_maps bit_or _ _ xs (zip2_splat (λ a b. cond (t a b) 255 0) xs 16 y long) (zip2_splat (λ a b. cond (t a b) 255 0) xs 16 z long))
        ∙ map-map (top 7) (λ x. bit_or (cond (t x y) 255 0) (cond (t x z) 255 0)) xs ∙ (λ i. map (λ x. both_at x i) xs)

    pub either_is : mask_l (map (top 7) (zip2 bit_or (zip2 (λ a b. cond (t a b) 255 0) xs (replicate 16 y)) (zip2 (λ a b. cond (t a b) 255 0) xs (replicate 16 z)))) % 2 ^ 64 ≡ mask_l (map (λ x. t x y || t x z) xs)
    either_is = ap (λ ms. mask_l ms % 2 ^ 64) eitherwise ∙ mask_l-mod (map (λ x. t x y || t x z) xs) 64 (omega (arith, length-map xs (λ x. t x y || t x z)))

    pub either_fits : Fits w16 (mask_l (map (top 7) (zip2 bit_or (zip2 (λ a b. cond (t a b) 255 0) xs (replicate 16 y)) (zip2 (λ a b. cond (t a b) 255 0) xs (replicate 16 z)))) % 2 ^ 64)
    either_fits = subst (Fits w16) (sym either_is) (mask_fits (map (λ x. t x y || t x z) xs) (omega (arith, length-map xs (λ x. t x y || t x z))))

  -- one byte where the comparison holds, and another elsewhere
  pub chosen_is : (t : ℕ → ℕ → Bool) (y a b : ℕ) → sel_l (map (top 7) (zip2 (λ c d. cond (t c d) 255 0) xs (replicate 16 y))) (replicate 16 a) (replicate 16 b) ≡ map (λ x. cond (t x y) a b) xs
  chosen_is t y a b =
      ap (λ ms. sel_l ms (replicate 16 a) (replicate 16 b)) (tops_compared w8 t xs (replicate 16 y) ∙ zip2_splat t xs 16 y long) ∙ picked (λ x. t x y) a b xs 16 long
