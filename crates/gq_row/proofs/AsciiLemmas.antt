-- Bytes that are all ASCII, several at a time.
use Rattle.std.proofs.Common.{◌≡◌, ◌∙◌, ◌+◌, ◌*◌, ◌%◌, ◌^◌, ◌≤◌, ◌&&◌, ℕ, zero, suc, Bool, true, false, cond, not, eqb, nat_lt, List, [], ◌∷◌, map, length, take, drop, replicate, w8, inl, inr, refl, sym, ap, arith}
use Rattle.std.specs.Prelude.{nat_le}
use Rattle.std.specs.List.{list_all}
use Rattle.std.specs.Str.{IsAscii, IsUtf8}
use lib.Lanes.{zip2, mask_l, top}
use Rattle.std.proofs.lemmas.Bool.{and_parts, cases_eq, eq-eqb, ltb-true, ne_eqb}
use Rattle.std.proofs.lemmas.Bool.Decides.{nat_tests}
use Rattle.std.proofs.lemmas.List.{length-drop, length-map, take_all, take-append-drop, take-take}
use Rattle.std.proofs.lemmas.List.Folds.{list_all-append}
use Rattle.std.proofs.lemmas.Simd.{mask_l-mod, tops_compared, zip2_splat_left}
use Rattle.std.proofs.lemmas.Str.{IsUtf8-from_ascii}
use Rattle.std.proofs.Math.Seq.{take-add}

abbrev is_small : ℕ → Bool
is_small b = nat_lt b 128

-- ---- lanes

no_bit : (b : Bool) (m : ℕ) (rest : Bool) → eqb m 0 ≡ rest → eqb (cond b 1 0 + 2 * m) 0 ≡ (not b && rest)
no_bit false m rest e = elim (cases_eq m 0) [
  | inl z ↦ eq-eqb (0 + 2 * m) 0 (omega (arith, z)) ∙ sym (eq-eqb m 0 z) ∙ e
  | inr more ↦ ne_eqb (0 + 2 * m) 0 (λ z. more (omega (arith, z))) ∙ sym (ne_eqb m 0 more) ∙ e
]
no_bit true m rest e = ne_eqb (1 + 2 * m) 0 (λ h. omega (arith, h))

small_is : (x : ℕ) → not (nat_le 128 x) ≡ nat_lt x 128
small_is x = grind (arith, nat_tests)

none_large : (xs : List ℕ) → eqb (mask_l (map (λ x. nat_le 128 x) xs)) 0 ≡ list_all is_small xs
none_large [] = refl
none_large (x ∷ xs) = no_bit (nat_le 128 x) (mask_l (map (λ x. nat_le 128 x) xs)) (list_all is_small xs) (none_large xs) ∙ ap (λ b. b && list_all is_small xs) (small_is x)

pub lanes_small : (n : ℕ) (xs : List ℕ) → length xs ≡ n → n ≤ 64 → eqb (mask_l (map (top 7) (zip2 (λ a b. cond (nat_le a b) 255 0) (replicate n 128) xs)) % 2 ^ 64) 0 ≡ list_all is_small xs
lanes_small n xs long few =
    ap (λ ms. eqb (mask_l ms % 2 ^ 64) 0) (tops_compared w8 nat_le (replicate n 128) xs ∙ zip2_splat_left nat_le 128 n xs long)
    ∙ ap (λ m. eqb m 0) (mask_l-mod (map (λ x. nat_le 128 x) xs) 64 (omega (arith, length-map xs (λ x. nat_le 128 x), long, few))) ∙ none_large xs

-- ---- all bytes

module _ (bs : List ℕ) where
  split : (i : ℕ) → list_all is_small bs ≡ (list_all is_small (take i bs) && list_all is_small (drop i bs))
  split i = ap (list_all is_small) (sym (take-append-drop i bs)) ∙ list_all-append is_small (take i bs) (drop i bs)

  pub some_large : (n i : ℕ) → list_all is_small (take i bs) ≡ true → list_all is_small (take n (drop i bs)) ≡ false → false ≡ list_all is_small bs
  some_large n i front here =
      let behind : list_all is_small (drop i bs) ≡ false = ap (list_all is_small) (sym (take-append-drop n (drop i bs))) ∙ list_all-append is_small (take n (drop i bs)) (drop n (drop i bs)) ∙ ap (λ b. b && list_all is_small (drop n (drop i bs))) here in
      sym (split i ∙ (λ k. front k && behind k))

  pub more_small : (n i : ℕ) → list_all is_small (take i bs) ≡ true → list_all is_small (take n (drop i bs)) ≡ true → list_all is_small (take (i + n) bs) ≡ true
  more_small n i front here = ap (list_all is_small) (take-add i n bs) ∙ list_all-append is_small (take i bs) (take n (drop i bs)) ∙ (λ k. front k && here k)

  pub last_small : (n i last : ℕ) → last ≤ i → last + n ≡ length bs → list_all is_small (take i bs) ≡ true → list_all is_small (take n (drop last bs)) ≡ list_all is_small bs
  last_small n i last until end front =
      let parts = and_parts (list_all is_small (take last (take i bs))) (list_all is_small (drop last (take i bs)))
      (sym (list_all-append is_small (take last (take i bs)) (drop last (take i bs))) ∙ ap (list_all is_small) (take-append-drop last (take i bs)) ∙ front) in
      let before : list_all is_small (take last bs) ≡ true = ap (list_all is_small) (sym (take-take last i bs until)) ∙ parts.0 in
      let behind : take n (drop last bs) ≡ drop last bs = take_all n (drop last bs) (omega (arith, length-drop last bs)) in
      ap (list_all is_small) behind ∙ sym (split last ∙ ap (λ b. b && list_all is_small (drop last bs)) before)

-- ASCII is UTF-8

all_small : (bs : List ℕ) → list_all is_small bs ≡ true → IsAscii bs
all_small [] h i = omega arith
all_small (b ∷ bs) h zero = ltb-true b 128 (and_parts (nat_lt b 128) (list_all is_small bs) h).0
all_small (b ∷ bs) h (suc i) = all_small bs (and_parts (nat_lt b 128) (list_all is_small bs) h).1 i

pub small_is_utf8 : (bs : List ℕ) → list_all is_small bs ≡ true → IsUtf8 bs
small_is_utf8 bs h = IsUtf8-from_ascii bs (all_small bs h)
