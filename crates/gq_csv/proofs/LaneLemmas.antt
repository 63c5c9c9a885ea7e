-- The comparisons of a block of bytes with four.
use Rattle.std.proofs.Common.{◌≡◌, ◌∙◌, ℕ, ◌%◌, ◌^◌, ◌<◌, ◌≤◌, Bool, true, false, cond, eqb, ◌||◌, List, map, length, replicate, take, bit_or, refl, sym, ap, arith}
use Rattle.std.specs.Simd.Lanes.{mask_l}
use Rattle.std.proofs.lemmas.List.{length-map, take_all}
use Rattle.std.specs.List.{position_or_len}
use Rattle.std.proofs.lemmas.Simd.{leading_from_mask_l, map-map, mask_l-mod, trailing_mask_l, zip2_of_maps, zip2_splat}
use lib.Count.{count_trailing_zeros}
use lib.Lanes.{top, zip2}
use Rattle.gq_csv.specs.Bytes.{is_special}

any_of : (p q r s : Bool) → top 7 (bit_or (bit_or (cond p 255 0) (cond q 255 0)) (bit_or (cond r 255 0) (cond s 255 0))) ≡ ((p || q) || (r || s))
any_of true true true true = refl
any_of true true true false = refl
any_of true true false true = refl
any_of true true false false = refl
any_of true false true true = refl
any_of true false true false = refl
any_of true false false true = refl
any_of true false false false = refl
any_of false true true true = refl
any_of false true true false = refl
any_of false true false true = refl
any_of false true false false = refl
any_of false false true true = refl
any_of false false true false = refl
any_of false false false true = refl
any_of false false false false = refl

-- a comparison with one byte
abbrev equal : ℕ → ℕ → ℕ
equal a b = cond (eqb a b) 255 0

module _ (n : ℕ) (few : n ≤ 64) (xs : List ℕ) (long : length xs ≡ n) where
  with_byte : (y : ℕ) → zip2 equal xs (replicate n y) ≡ map (λ x. equal x y) xs
  with_byte y = zip2_splat equal xs n y long

  with_either : (y z : ℕ) → zip2 bit_or (zip2 equal xs (replicate n y)) (zip2 equal xs (replicate n z)) ≡ map (λ x. bit_or (equal x y) (equal x z)) xs
  with_either y z = zip2_of_maps bit_or _ _ xs (with_byte y) (with_byte z)

  tops : map (top 7) (zip2 bit_or (zip2 bit_or (zip2 equal xs (replicate n 44)) (zip2 equal xs (replicate n 34))) (zip2 bit_or (zip2 equal xs (replicate n 13)) (zip2 equal xs (replicate n 10))))
      ≡ map is_special xs
  tops =
      ap (map (top 7)) (zip2_of_maps bit_or _ _ xs (with_either 44 34) (with_either 13 10))
      ∙ map-map (top 7) _ xs ∙ (λ i. map (λ x. any_of (eqb x 44) (eqb x 34) (eqb x 13) (eqb x 10) i) xs)

  special_mask : mask_l (map (top 7) (zip2 bit_or (zip2 bit_or (zip2 equal xs (replicate n 44)) (zip2 equal xs (replicate n 34))) (zip2 bit_or (zip2 equal xs (replicate n 13)) (zip2 equal xs (replicate n 10))))) % 2 ^ 64
      ≡ mask_l (map is_special xs)
  special_mask = ap (λ ms. mask_l ms % 2 ^ 64) tops ∙ mask_l-mod (map is_special xs) 64 (omega (arith, few, long, length-map xs is_special))

-- the bits of the comparisons
abbrev bits : ℕ → List ℕ → ℕ
bits n xs = mask_l (map (top 7) (zip2 bit_or (zip2 bit_or (zip2 equal xs (replicate n 44)) (zip2 equal xs (replicate n 34))) (zip2 bit_or (zip2 equal xs (replicate n 13)) (zip2 equal xs (replicate n 10))))) % 2 ^ 64

module _ (n : ℕ) (few : n ≤ 64) (block : List ℕ) (long : length block ≡ n) where
  whole : take n block ≡ block
  whole = take_all n block (omega (arith, long))

  pub bits_are : bits n (take n block) ≡ mask_l (map is_special block)
  bits_are = special_mask n few (take n block) (ap length whole ∙ long) ∙ ap (λ xs. mask_l (map is_special xs)) whole

module _ (block : List ℕ) (long : length block ≡ 16) where
  sixteen : bits 16 (take 16 block) ≡ mask_l (map is_special block)
  sixteen = bits_are 16 (omega arith) block long

  pub none_special : bits 16 (take 16 block) ≡ 0 → 16 ≡ position_or_len is_special block
  none_special none = sym long ∙ sym (leading_from_mask_l is_special block (sym sixteen ∙ none))

  pub some_special : 0 < bits 16 (take 16 block) → count_trailing_zeros 64 (bits 16 (take 16 block)) ≡ position_or_len is_special block
  some_special some = ap (count_trailing_zeros 64) sixteen ∙ trailing_mask_l is_special 64 block (omega (arith, long)) (omega (arith, sixteen, some))
