-- The fold of eight bytes at once, and texts of which eight bytes are compared at a time.
use Rattle.std.proofs.Common.{◌≡◌, ◌+◌, ◌*◌, ◌%◌, ◌^◌, ◌≤◌, ◌<◌, ◌&&◌, ℕ, Bool, true, false, cond, not, eqb, nat_lt, List, [], ◌∷◌, ◌++◌, map, length, take, drop, replicate, get_or, bytes_eq, w8, inl, inr, refl, sym, ap, ◌∙◌, arith}
use lib.Lanes.{zip2, mask_l, top, sel_l}
use Rattle.std.specs.Char.{to_ascii_lowercase}
use Rattle.std.proofs.lemmas.Bool.{ltb-true, cases_eq, eq-eqb, ne_eqb, false≢true}
use Rattle.std.proofs.lemmas.List.{map-id, take-append-drop, take-map, drop-map, length-map, length-drop, take_all, take-take}
use Rattle.std.proofs.lemmas.Simd.{tops_compared, zip2_splat, length-zip2, mask_l-mod}
use Rattle.std.proofs.lemmas.Slice.Eq.{bytes_eq-Decides}
use Rattle.std.proofs.Math.Seq.{take-add}
use Rattle.std.proofs.lemmas.List.FromFn.{get_or-map-range_with_len}
use Rattle.std.specs.List.{range_with_len}
use Rattle.gq_row.specs.Folding.{fold_case}
use Rattle.gq_row.specs.declared.folding.TheConstants.{FOLDS}

-- ---- lanes

picked : (p : ℕ → Bool) (f g : ℕ → ℕ) (xs : List ℕ) → sel_l (map p xs) (map f xs) (map g xs) ≡ map (λ x. cond (p x) (f x) (g x)) xs
picked p f g [] = refl
picked p f g (x ∷ xs) = ap (λ l. cond (p x) (f x) (g x) ∷ l) (picked p f g xs)

small : (x : ℕ) (b : Bool) → nat_lt x 91 ≡ b → cond b ((x + 32) % 256) x ≡ cond b (x + 32) x
small x true e = omega (arith, ltb-true x 91 e)
small x false e = refl

lane_is : (x : ℕ) → cond (nat_lt x 65) x (cond (nat_lt x 91) ((x + 32) % 256) x) ≡ to_ascii_lowercase x
lane_is x = ap (λ y. cond (nat_lt x 65) x y) (small x (nat_lt x 91) refl)

no_bit : (b : Bool) (m : ℕ) (rest : Bool) → eqb m 0 ≡ rest → eqb (cond (not b) 1 0 + 2 * m) 0 ≡ (b && rest)
no_bit true m rest e = elim (cases_eq m 0) [
  | inl z ↦ eq-eqb (0 + 2 * m) 0 (omega (arith, z)) ∙ sym (eq-eqb m 0 z) ∙ e
  | inr more ↦ ne_eqb (0 + 2 * m) 0 (λ z. more (omega (arith, z))) ∙ sym (ne_eqb m 0 more) ∙ e
]
no_bit false m rest e = ne_eqb (1 + 2 * m) 0 (λ h. omega (arith, h))

none_differs : (xs ys : List ℕ) → length xs ≡ length ys → eqb (mask_l (zip2 (λ a b. not (eqb a b)) xs ys)) 0 ≡ bytes_eq xs ys
none_differs [] [] e = refl
none_differs [] (y ∷ ys) e = absurd (omega arith)
none_differs (x ∷ xs) [] e = absurd (omega arith)
none_differs (x ∷ xs) (y ∷ ys) e = no_bit (eqb x y) (mask_l (zip2 (λ a b. not (eqb a b)) xs ys)) (bytes_eq xs ys) (none_differs xs ys (omega arith))

module _ (xs : List ℕ) (eight : length xs ≡ 8) where
  below : (y : ℕ) → map (top 7) (zip2 (λ a b. cond (nat_lt a b) 255 0) xs (replicate 8 y)) ≡ map (λ x. nat_lt x y) xs
  below y = tops_compared w8 nat_lt xs (replicate 8 y) ∙ zip2_splat nat_lt xs 8 y eight

  raised : zip2 (λ a b. (a + b) % 256) xs (replicate 8 32) ≡ map (λ x. (x + 32) % 256) xs
  raised = zip2_splat (λ a b. (a + b) % 256) xs 8 32 eight

  up_to_z : sel_l (map (top 7) (zip2 (λ a b. cond (nat_lt a b) 255 0) xs (replicate 8 91))) (zip2 (λ a b. (a + b) % 256) xs (replicate 8 32)) xs ≡ map (λ x. cond (nat_lt x 91) ((x + 32) % 256) x) xs
  up_to_z = (λ i. sel_l (below 91 i) (raised i) (sym (map-id xs) i)) ∙ picked (λ x. nat_lt x 91) (λ x. (x + 32) % 256) (λ x. x) xs

  pub folds_is : sel_l (map (top 7) (zip2 (λ a b. cond (nat_lt a b) 255 0) xs (replicate 8 65))) xs
      (sel_l (map (top 7) (zip2 (λ a b. cond (nat_lt a b) 255 0) xs (replicate 8 91))) (zip2 (λ a b. (a + b) % 256) xs (replicate 8 32)) xs) ≡ fold_case xs
  folds_is = (λ i. sel_l (below 65 i) (sym (map-id xs) i) (up_to_z i))
      ∙ picked (λ x. nat_lt x 65) (λ x. x) (λ x. cond (nat_lt x 91) ((x + 32) % 256) x) xs ∙ (λ i. map (λ x. lane_is x i) xs)

-- a comparison of up to 64 lanes
pub same_lanes_of : (n : ℕ) (xs ys : List ℕ) → n ≤ 64 → length xs ≡ n → length ys ≡ n
    → eqb (mask_l (map (top 7) (zip2 (λ a b. cond (not (eqb a b)) 255 0) xs ys)) % 2 ^ 64) 0 ≡ bytes_eq xs ys
same_lanes_of n xs ys few a b =
    ap (λ ms. eqb (mask_l ms % 2 ^ 64) 0) (tops_compared w8 (λ a b. not (eqb a b)) xs ys)
    ∙ ap (λ m. eqb m 0) (mask_l-mod (zip2 (λ a b. not (eqb a b)) xs ys) 64 (omega (arith, length-zip2 (λ a b. not (eqb a b)) xs ys (omega arith))))
    ∙ none_differs xs ys (omega arith)

-- one of eight
pub same_lanes : (xs ys : List ℕ) → length xs ≡ 8 → length ys ≡ 8
    → eqb (mask_l (map (top 7) (zip2 (λ a b. cond (not (eqb a b)) 255 0) xs ys)) % 2 ^ 64) 0 ≡ bytes_eq xs ys
same_lanes xs ys a b = same_lanes_of 8 xs ys (omega arith) a b

-- ---- texts, eight bytes at a time

-- the bytes from a place on, eight of them
abbrev eight_at : ℕ → List ℕ → List ℕ
eight_at i xs = take 8 (drop i xs)

fold-eight : (i : ℕ) (xs : List ℕ) → fold_case (eight_at i xs) ≡ eight_at i (fold_case xs)
fold-eight i xs = sym (ap (take 8) (drop-map to_ascii_lowercase i xs) ∙ take-map to_ascii_lowercase 8 (drop i xs))

unequal : (xs ys : List ℕ) → (xs ≡ ys → ⊥) → (b : Bool) → bytes_eq xs ys ≡ b → false ≡ b
unequal xs ys ne true e = absurd (ne ((bytes_eq-Decides xs ys).0 e))
unequal xs ys ne false e = refl

module _ (text other : List ℕ) where
  -- of texts that differ in some eight bytes
  pub eight_differ : (i : ℕ) → bytes_eq (fold_case (eight_at i text)) (eight_at i other) ≡ false → false ≡ bytes_eq (fold_case text) other
  eight_differ i e = unequal (fold_case text) other
      (λ same. false≢true (sym e ∙ (bytes_eq-Decides _ _).1 (fold-eight i text ∙ ap (eight_at i) same))) _ refl

  -- of texts that agree in eight bytes more
  pub eight_more : (i : ℕ) → fold_case (take i text) ≡ take i other → bytes_eq (fold_case (eight_at i text)) (eight_at i other) ≡ true → fold_case (take (i + 8) text) ≡ take (i + 8) other
  eight_more i done e = sym (take-map to_ascii_lowercase (i + 8) text) ∙ take-add i 8 (fold_case text)
      ∙ (λ k. (take-map to_ascii_lowercase i text ∙ done) k ++ (sym (fold-eight i text) ∙ (bytes_eq-Decides _ _).0 e) k) ∙ sym (take-add i 8 other)

  module _ (i last : ℕ) (until : last ≤ i) (end : last + 8 ≡ length text) (even : length text ≡ length other) (done : fold_case (take i text) ≡ take i other) where
    front : take last (fold_case text) ≡ take last other
    front = sym (take-take last i (fold_case text) until) ∙ ap (take last) (take-map to_ascii_lowercase i text ∙ done) ∙ take-take last i other until

    whole : bytes_eq (fold_case (eight_at last text)) (eight_at last other) ≡ true → fold_case text ≡ other
    whole e =
        let folds : length (fold_case text) ≡ length text = length-map text to_ascii_lowercase in
        let here : eight_at last (fold_case text) ≡ eight_at last other = sym (fold-eight last text) ∙ (bytes_eq-Decides _ _).0 e in
        let ours : eight_at last (fold_case text) ≡ drop last (fold_case text) = take_all 8 _ (omega (arith, length-drop last (fold_case text), folds)) in
        let theirs : eight_at last other ≡ drop last other = take_all 8 _ (omega (arith, length-drop last other)) in
        sym (take-append-drop last (fold_case text)) ∙ (λ k. front k ++ (sym ours ∙ here ∙ theirs) k) ∙ take-append-drop last other

    pub last_eight : (b : Bool) → bytes_eq (fold_case (eight_at last text)) (eight_at last other) ≡ b → b ≡ bytes_eq (fold_case text) other
    last_eight true e = sym ((bytes_eq-Decides (fold_case text) other).1 (whole e))
    last_eight false e = eight_differ last e

-- ---- the table of folds

table_is : FOLDS ≡ map to_ascii_lowercase (range_with_len 0 256)
table_is = refl

pub fold_in_table : (byte : ℕ) → byte < 256 → get_or FOLDS byte 0 ≡ to_ascii_lowercase byte
fold_in_table byte low = ap (λ (l : List ℕ). get_or l byte 0) table_is ∙ get_or-map-range_with_len to_ascii_lowercase 0 256 byte byte 0 low (omega arith)
