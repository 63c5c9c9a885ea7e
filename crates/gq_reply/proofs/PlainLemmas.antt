-- Fields that need no quotes, many bytes at a time.
use Rattle.std.proofs.Common.{◌≡◌, ◌≤◌, ◌<◌, ◌+◌, ◌*◌, ◌-◌, ◌%◌, ◌^◌, ◌||◌, ◌==◌, ◌∷◌, ◌++◌, ◌∙◌, [], ℕ, zero, suc, Bool, true, false, cond, eqb, List, inl, inr, refl, ap, sym, length, length-drop, map, take, drop, replicate, arith, w8}
use Rattle.std.specs.List.{list_any}
use Rattle.std.specs.Prelude.{nat_le}
use lib.Lanes.{zip2, mask_l, top}
use Rattle.std.proofs.lemmas.Bool.{cases_eq, eq-eqb, false≢true, ne_eqb}
use Rattle.std.proofs.lemmas.Bool.Decides.{nat_tests}
use Rattle.std.proofs.lemmas.List.{drop-drop, length-map, take_all, take-append-drop, take-take}
use Rattle.std.proofs.lemmas.List.Folds.{list_any-append}
use Rattle.std.proofs.lemmas.Simd.{mask_l-mod, tops_compared, zip2_splat}
use Rattle.csv.specs.Writing.{default_writer, needs_byte, needs_quotes}
use Rattle.gq_reply.specs.Bare.{is_plain}
use Rattle.gq_reply.proofs.BareLemmas.{plain_byte}

-- ---- lanes

-- no lane is marked, and so the first isn't
unmarked : (b : Bool) (m : ℕ) → eqb (cond b 1 0 + 2 * m) 0 ≡ true → (b ≡ false) × (eqb m 0 ≡ true)
unmarked false m none = elim (cases_eq m 0) [
  | inl z ↦ (refl, eq-eqb m 0 z)
  | inr more ↦ absurd (false≢true (sym (ne_eqb (0 + 2 * m) 0 (λ z. more (omega (arith, z)))) ∙ none))
]
unmarked true m none = absurd (false≢true (sym (ne_eqb (1 + 2 * m) 0 (λ h. omega (arith, h))) ∙ none))

above : (x : ℕ) → nat_le x 44 ≡ false → 44 < x
above x larger = grind (arith, nat_tests)

none_marked : (xs : List ℕ) → eqb (mask_l (map (λ x. nat_le x 44) xs)) 0 ≡ true → needs_quotes default_writer xs ≡ false
none_marked [] none = refl
none_marked (x ∷ xs) none =
    let here = unmarked (nat_le x 44) (mask_l (map (λ x. nat_le x 44) xs)) none in
    rw (plain_byte x (above x here.0)) (none_marked xs here.1)

pub lanes_clear : (n : ℕ) (xs : List ℕ) → n ≤ 64 → length xs ≡ n
    → eqb (mask_l (map (top 7) (zip2 (λ a b. cond (nat_le a b) 255 0) xs (replicate n 44))) % 2 ^ 64) 0 ≡ true → needs_quotes default_writer xs ≡ false
lanes_clear n xs few long none =
    none_marked xs (sym (
    ap (λ ms. eqb (mask_l ms % 2 ^ 64) 0) (tops_compared w8 nat_le xs (replicate n 44) ∙ zip2_splat nat_le xs n 44 long)
    ∙ ap (λ m. eqb m 0) (mask_l-mod (map (λ x. nat_le x 44) xs) 64 (omega (arith, length-map xs (λ x. nat_le x 44), long)))) ∙ none)

-- ---- both ends

module _ (p : ℕ → Bool) where
  none_after : (k : ℕ) (xs : List ℕ) → list_any p xs ≡ false → list_any p (drop k xs) ≡ false
  none_after zero xs none = none
  none_after (suc k) [] none = none
  none_after (suc k) (x ∷ xs) none = none_after k xs (rest (p x) (list_any p xs) none)
    where
      rest : (a b : Bool) → (a || b) ≡ false → b ≡ false
      rest true b e = absurd (false≢true (sym e))
      rest false b e = e

  none_in_both : (xs ys : List ℕ) → list_any p xs ≡ false → list_any p ys ≡ false → list_any p (xs ++ ys) ≡ false
  none_in_both xs ys a b = list_any-append p xs ys ∙ (λ i. a i || b i)

-- a field none of whose ends needs quotes, if these cover it
pub ends_plain : (n last : ℕ) (field : List ℕ) → 0 < n → length field ≡ last + n → last ≤ n
    → needs_quotes default_writer (take n field) ≡ false → needs_quotes default_writer (take n (drop last field)) ≡ false → is_plain field ≡ true
ends_plain n last field some long covers front back =
    let p = needs_byte default_writer in
    let same : last + (n - last) ≡ n = omega arith in
    let behind : list_any p (drop last field) ≡ false = ap (list_any p) (sym (take_all n (drop last field) (omega (arith, length-drop last field)))) ∙ back in
    let rest : list_any p (drop n field) ≡ false = ap (list_any p) (sym (drop-drop (n - last) last field ∙ ap (λ k. drop k field) same)) ∙ none_after p (n - last) (drop last field) behind in
    let none : needs_quotes default_writer field ≡ false = ap (list_any p) (sym (take-append-drop n field)) ∙ none_in_both p (take n field) (drop n field) front rest in
    let shown : (length field == 0) ≡ false = grind arith in
    rw (shown, none) refl

-- ---- bytes written from a position on

-- the bytes before a position that comes later are kept, so those before this one are, too
pub kept_on : (a b c : List ℕ) (m n : ℕ) → m ≤ n → take m b ≡ take m a → take n c ≡ take n b → take m c ≡ take m a
kept_on a b c m n low first then = sym (take-take m n c low) ∙ ap (take m) then ∙ take-take m n b low ∙ first
