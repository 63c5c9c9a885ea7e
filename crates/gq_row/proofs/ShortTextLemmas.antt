-- Texts that fit in 22 bytes: how they are made, and when two are equal.
use Rattle.std.proofs.Common.{◌≡◌, ◌+◌, ◌-◌, ◌≤◌, ℕ, Bool, true, false, List, [], ◌∷◌, ◌++◌, get_or, length, take, drop, replicate, bytes_eq, ◌&&◌, refl, sym, ap, subst, ◌∙◌, arith, append_assoc, length-append, length-drop, length-take-le}
use Rattle.std.specs.Int.{w64, to_be_bytes}
use Rattle.std.specs.Prelude.{IsUtf8}
use lib.Lanes.{put_chunk}
use Rattle.std.proofs.lemmas.List.{drop-append-le, drop-replicate, replicate-append-replicate, take_all, drop-drop, length-replicate, take-append-drop, take-append-le, take-take}
use Rattle.std.proofs.lemmas.Simd.{put_chunk_is}
use Rattle.std.proofs.lemmas.Slice.{drop-append-drop}
use Rattle.std.proofs.Math.Seq.{take-append_seam, drop-append_seam}
use Rattle.std.proofs.lemmas.Bool.{and_parts}
use Rattle.std.proofs.lemmas.Slice.Eq.{bytes_eq-Decides}
use Rattle.gq_row.specs.ShortTexts.{IsPadded, IsShort, whole_again}

-- as many zeros
abbrev blank : ℕ → List ℕ
blank n = replicate n 0

pub made : (text : List ℕ) → length text ≤ 22 → IsUtf8 text → IsShort (length text) (text ++ drop (length text) (blank 22))
made text fits utf8 =
    let rest : drop (length text) (blank 22) ≡ blank (22 - length text) = drop-replicate (length text) 22 0 in
    let long : length (drop (length text) (blank 22)) ≡ 22 - length text = ap length rest ∙ length-replicate (22 - length text) 0 in
    record {
      fits = fits;
      whole = omega (arith, length-append text (drop (length text) (blank 22)), long);
      text = ∣ subst IsUtf8 (sym (take-append_seam text (drop (length text) (blank 22)))) utf8 ∣₁;
      zeros = drop-append_seam text (drop (length text) (blank 22)) ∙ rest;
    }

-- eight bytes, and zeros after them
pub padded : (len : ℕ) (eight : List ℕ) → length eight ≡ 8 → IsPadded len eight → IsShort len (eight ++ blank 14) × (take len (eight ++ blank 14) ≡ take len eight)
padded len eight long is =
    let within : len ≤ length eight = omega (arith, is.few, long) in
    let text = take-append-le len eight (blank 14) within in
    let more : (8 - len) + 14 ≡ 22 - len = omega (arith, is.few) in
    let fourteen : length (blank 14) ≡ 14 = refl in (
      record {
        fits = omega (arith, is.few);
        whole = omega (arith, length-append eight (blank 14), fourteen, long);
        text = subst (λ l. ∥ IsUtf8 l ∥₁) (sym text) is.text;
        zeros = drop-append-le len eight (blank 14) within ∙ ap (λ l. l ++ blank 14) is.zeros ∙ replicate-append-replicate (8 - len) 14 0 ∙ ap blank more;
      },
      text,
    )

-- eight bytes of a list, and zeros after them
abbrev pub eight_of : List ℕ → List ℕ
eight_of b =
    get_or b 0 0 ∷ get_or b 1 0 ∷ get_or b 2 0 ∷ get_or b 3 0 ∷ get_or b 4 0 ∷ get_or b 5 0 ∷ get_or b 6 0 ∷ get_or b 7 0
    ∷ 0 ∷ 0 ∷ 0 ∷ 0 ∷ 0 ∷ 0 ∷ 0 ∷ 0 ∷ 0 ∷ 0 ∷ 0 ∷ 0 ∷ 0 ∷ 0 ∷ []

pub eight_is : (n : ℕ) (b : List ℕ) → b ≡ to_be_bytes w64 n → eight_of b ≡ to_be_bytes w64 n ++ blank 14
eight_is n b e = ap eight_of e

-- the empty text has only zeros
pub all_zeros : (len : ℕ) (bytes : List ℕ) → IsShort len bytes → take len bytes ≡ [] → bytes ≡ blank 22
all_zeros len bytes h e = sym (whole_again len bytes h).1 ∙ ap (λ l. l ++ replicate (22 - length l) 0) e

agree : (p q : Bool) → (p ≡ true → q ≡ true) → (q ≡ true → p ≡ true) → p ≡ q
agree true true f g = refl
agree true false f g = sym (f refl)
agree false true f g = g refl
agree false false f g = refl

module _ (m n : ℕ) (a b : List ℕ) (here : IsShort m a) (there : IsShort n b) where
  whole : m ≡ n → take m a ≡ take n b → a ≡ b
  whole e front = sym (take-append-drop m a) ∙ (λ i. front i ++ (here.zeros ∙ ap (λ k. replicate (22 - k) 0) e ∙ sym there.zeros) i) ∙ take-append-drop n b

  -- of one length: where all bytes are equal, so are the texts, and the other way round
  pub same_whole : m ≡ n → bytes_eq a b ≡ bytes_eq (take m a) (take n b)
  same_whole e = agree (bytes_eq a b) (bytes_eq (take m a) (take n b))
      (λ same. (bytes_eq-Decides _ _).1 (λ i. take (e i) ((bytes_eq-Decides a b).0 same i)))
      (λ same. (bytes_eq-Decides a b).1 (whole e ((bytes_eq-Decides _ _).0 same)))

  -- of two lengths no texts are equal
  pub other_length : (m ≡ n → ⊥) → false ≡ bytes_eq (take m a) (take n b)
  other_length ne = agree false (bytes_eq (take m a) (take n b)) (λ no. absurd (no_path no))
      (λ same. absurd (ne (sym ((whole_again m a here).0) ∙ ap length ((bytes_eq-Decides _ _).0 same) ∙ (whole_again n b there).0)))
    where
      no_path : false ≡ true → ⊥
      no_path h = cc

-- ---- 22 bytes, sixteen at once

module _ (a b : List ℕ) (here : length a ≡ 22) (there : length b ≡ 22) where
  back_is : (xs : List ℕ) → length xs ≡ 22 → take 16 (drop 6 xs) ≡ drop 6 xs
  back_is xs long = take_all 16 (drop 6 xs) (omega (arith, length-drop 6 xs))

  joined : (xs : List ℕ) → take 16 xs ++ drop 10 (drop 6 xs) ≡ xs
  joined xs = ap (λ rest. take 16 xs ++ rest) (drop-drop 10 6 xs) ∙ take-append-drop 16 xs

  both : take 16 a ≡ take 16 b → drop 6 a ≡ drop 6 b → a ≡ b
  both front back = sym (joined a) ∙ (λ i. front i ++ drop 10 (back i)) ∙ joined b

  and_is : (p q : Bool) → p ≡ true → q ≡ true → (p && q) ≡ true
  and_is true q e f = f
  and_is false q e f = e

  pub two_halves : (bytes_eq (take 16 a) (take 16 b) && bytes_eq (take 16 (drop 6 a)) (take 16 (drop 6 b))) ≡ bytes_eq a b
  two_halves = agree _ (bytes_eq a b)
      (λ same. let parts = and_parts (bytes_eq (take 16 a) (take 16 b)) (bytes_eq (take 16 (drop 6 a)) (take 16 (drop 6 b))) same in
      (bytes_eq-Decides a b).1 (both ((bytes_eq-Decides _ _).0 parts.0) (sym (back_is a here) ∙ (bytes_eq-Decides _ _).0 parts.1 ∙ back_is b there)))
      (λ same. let e = (bytes_eq-Decides a b).0 same in
      and_is _ _ ((bytes_eq-Decides (take 16 a) (take 16 b)).1 (λ i. take 16 (e i))) ((bytes_eq-Decides (take 16 (drop 6 a)) (take 16 (drop 6 b))).1 (λ i. take 16 (drop 6 (e i)))))

-- ---- a copy of both ends, which overlap

module _ (n last : ℕ) (bytes text : List ℕ) (size : length text ≡ last + n) (covers : last ≤ n) (fits : length text ≤ length bytes) where
  front_size : length (take n text) ≡ n
  front_size = length-take-le n text (omega (arith, size))

  back_size : length (drop last text) ≡ n
  back_size = omega (arith, size, length-drop last text)

  front : put_chunk 0 bytes (take n text) ≡ take n text ++ drop n bytes
  front = put_chunk_is 0 bytes (take n text) (omega (arith, front_size, size, fits)) ∙ ap (λ k. take n text ++ drop k bytes) front_size

  before : take last (take n text ++ drop n bytes) ≡ take last text
  before = take-append-le last (take n text) (drop n bytes) (omega (arith, front_size, covers)) ∙ take-take last n text covers

  after : drop n (drop last (take n text ++ drop n bytes)) ≡ drop (length text) bytes
  after =
      drop-drop n last (take n text ++ drop n bytes) ∙ drop-append-drop n bytes (take n text) (last + n) (omega arith) front_size ∙ ap (λ k. drop k bytes) (sym size)

  pub both_ends : put_chunk last (put_chunk 0 bytes (take n text)) (take n (drop last text)) ≡ text ++ drop (length text) bytes
  both_ends =
      ap (put_chunk last (put_chunk 0 bytes (take n text))) (take_all n (drop last text) (omega (arith, back_size)))
      ∙ ap (λ l. put_chunk last l (drop last text)) front
      ∙ put_chunk_is last (take n text ++ drop n bytes) (drop last text) (omega (arith, length-append (take n text) (drop n bytes), front_size, back_size, size, fits, length-drop n bytes))
      ∙ (λ i. before i ++ (drop last text ++ drop (back_size i) (drop last (take n text ++ drop n bytes))))
      ∙ ap (λ l. take last text ++ (drop last text ++ l)) after
      ∙ sym (append_assoc (take last text) (drop last text) (drop (length text) bytes)) ∙ ap (λ l. l ++ drop (length text) bytes) (take-append-drop last text)
