-- Texts in words.
use Rattle.std.proofs.Common.{◌≡◌, ◌+◌, ◌-◌, ◌*◌, ◌/◌, ◌%◌, ◌^◌, ◌<◌, ◌≤◌, ◌++◌, ◌∷◌, ◌∙◌, [], ℕ, List, drop, get_or, length, take, replicate, ap, subst, sym, arith}
use Rattle.std.specs.Prelude.{◌-ℤ◌, IsUtf8, cond, false, nat_lt, pos, slice_index_or}
use Rattle.std.proofs.lemmas.Bool.Decides.{nat_tests}
use Rattle.gq_row.specs.declared.value.Value.{Value}
use Rattle.gq_row.specs.declared.value.Value.TheVariants.{Int, Null, Text}
use Rattle.std.specs.Int.{w64, to_be_bytes, byte_at}
use Rattle.std.proofs.lemmas.List.{get_or-append-add, get_or-replicate, take-append-le, take-take}
use Rattle.std.proofs.Math.Seq.{drop-append_seam, take-append_seam}
use Rattle.gq_row.specs.ShortTexts.{IsPadded}
use Rattle.gq_cells.specs.Words.{IsText, IsValid, short_in, text_in, text_len, word_value}

-- the bytes of a number whose highest byte is `tag`, and whose other bytes are the first seven of another
word_bytes : (tag n : ℕ) → tag < 256 → n < 2 ^ 64 → to_be_bytes w64 (tag * 2 ^ 56 + n / 256) ≡ tag ∷ take 7 (to_be_bytes w64 n)
word_bytes tag n few small = λ i. b7 i ∷ b6 i ∷ b5 i ∷ b4 i ∷ b3 i ∷ b2 i ∷ b1 i ∷ b0 i ∷ []
  where
    b7 : byte_at 7 (tag * 2 ^ 56 + n / 256) ≡ tag
    b7 = omega (arith, few, small)

    b6 : byte_at 6 (tag * 2 ^ 56 + n / 256) ≡ byte_at 7 n
    b6 = omega (arith, few, small)

    b5 : byte_at 5 (tag * 2 ^ 56 + n / 256) ≡ byte_at 6 n
    b5 = omega (arith, few, small)

    b4 : byte_at 4 (tag * 2 ^ 56 + n / 256) ≡ byte_at 5 n
    b4 = omega (arith, few, small)

    b3 : byte_at 3 (tag * 2 ^ 56 + n / 256) ≡ byte_at 4 n
    b3 = omega (arith, few, small)

    b2 : byte_at 2 (tag * 2 ^ 56 + n / 256) ≡ byte_at 3 n
    b2 = omega (arith, few, small)

    b1 : byte_at 1 (tag * 2 ^ 56 + n / 256) ≡ byte_at 2 n
    b1 = omega (arith, few, small)

    b0 : byte_at 0 (tag * 2 ^ 56 + n / 256) ≡ byte_at 1 n
    b0 = omega (arith, few, small)

-- the text of a word that is made of a text and its length
pub text_there : (text : List ℕ) (n word : ℕ) → length text < 8 → n < 2 ^ 64 → to_be_bytes w64 n ≡ text ++ replicate (8 - length text) 0 → word ≡ (192 + length text) * 2 ^ 56 + n / 256
    → text_in word ≡ text
text_there text n word few small padded is =
    let size : (192 + length text) % 8 ≡ length text = omega (arith, few) in
    ap text_in is
    ∙ ap short_in (word_bytes (192 + length text) n (omega (arith, few)) small)
    ∙ ap (λ k. take k (take 7 (to_be_bytes w64 n))) size
    ∙ take-take (length text) 7 (to_be_bytes w64 n) (omega (arith, few))
    ∙ ap (take (length text)) padded
    ∙ take-append_seam text (replicate (8 - length text) 0)

-- the bytes of a number times 256 are its lowest seven, and then a zero
shifted_bytes : (n : ℕ) → to_be_bytes w64 (n * 256 % 2 ^ 64) ≡ drop 1 (to_be_bytes w64 n) ++ 0 ∷ []
shifted_bytes n = λ i. b7 i ∷ b6 i ∷ b5 i ∷ b4 i ∷ b3 i ∷ b2 i ∷ b1 i ∷ b0 i ∷ []
  where
    b7 : byte_at 7 (n * 256 % 2 ^ 64) ≡ byte_at 6 n
    b7 = omega arith

    b6 : byte_at 6 (n * 256 % 2 ^ 64) ≡ byte_at 5 n
    b6 = omega arith

    b5 : byte_at 5 (n * 256 % 2 ^ 64) ≡ byte_at 4 n
    b5 = omega arith

    b4 : byte_at 4 (n * 256 % 2 ^ 64) ≡ byte_at 3 n
    b4 = omega arith

    b3 : byte_at 3 (n * 256 % 2 ^ 64) ≡ byte_at 2 n
    b3 = omega arith

    b2 : byte_at 2 (n * 256 % 2 ^ 64) ≡ byte_at 1 n
    b2 = omega arith

    b1 : byte_at 1 (n * 256 % 2 ^ 64) ≡ byte_at 0 n
    b1 = omega arith

    b0 : byte_at 0 (n * 256 % 2 ^ 64) ≡ 0
    b0 = omega arith

-- so the text in a word begins them
pub text_shifted : (word : ℕ) → take (text_len word) (to_be_bytes w64 (word * 256 % 2 ^ 64)) ≡ text_in word
text_shifted word =
    let few : text_len word ≤ 7 = omega arith in
    let size : text_len word ≡ byte_at 7 word % 8 = omega arith in
    ap (take (text_len word)) (shifted_bytes word)
    ∙ take-append-le (text_len word) (drop 1 (to_be_bytes w64 word)) (0 ∷ []) few
    ∙ ap (λ k. take k (drop 1 (to_be_bytes w64 word))) size

-- zeros follow the text of a word that is made of a text and its length
pub text_padded : (text : List ℕ) (n word : ℕ) → length text < 8 → n < 2 ^ 64 → ∥ IsUtf8 text ∥₁ → to_be_bytes w64 n ≡ text ++ replicate (8 - length text) 0 → word ≡ (192 + length text) * 2 ^ 56 + n / 256
    → IsText word
text_padded text n word few small valid padded is =
    let size : text_len word ≡ length text = omega (arith, few, small, is) in
    let last : n % 256 ≡ 0 = ap (λ l. get_or l 7 0) padded ∙ blank_at in
    let shifted : word * 256 % 2 ^ 64 ≡ n = omega (arith, few, small, is, last) in
    let bytes : to_be_bytes w64 (word * 256 % 2 ^ 64) ≡ text ++ replicate (8 - length text) 0 = ap (to_be_bytes w64) shifted ∙ padded in
    record {
      valid = subst IsValid (sym (text_there text n word few small padded is)) valid;
      padded = subst (λ k. IsPadded k (to_be_bytes w64 (word * 256 % 2 ^ 64))) (sym size) (subst (IsPadded (length text)) (sym bytes) (record {
        few = few;
        text = subst IsValid (sym (take-append_seam text (replicate (8 - length text) 0))) valid;
        zeros = drop-append_seam text (replicate (8 - length text) 0);
      }));
    }
  where
    blank_at : get_or (text ++ replicate (8 - length text) 0) 7 0 ≡ 0
    blank_at =
        let at : 7 ≡ length text + (7 - length text) = omega (arith, few) in
        ap (λ k. get_or (text ++ replicate (8 - length text) 0) k 0) at ∙ get_or-append-add text (replicate (8 - length text) 0) (7 - length text) 0 ∙ get_or-replicate (8 - length text) (7 - length text) 0 0 (omega (arith, few))

-- the value of a text's word
pub text_value : (overflow : List Value) (word : ℕ) → 3 * 2 ^ 62 ≤ word → word_value overflow word ≡ Text (text_in word)
text_value overflow word le =
    let no_number : nat_lt word (2 ^ 63) ≡ false = grind (arith, nat_tests) in
    let no_index : nat_lt word (3 * 2 ^ 62) ≡ false = grind (arith, nat_tests) in
    λ i. cond (no_number i) (Int (pos word -ℤ pos (2 ^ 62))) (cond (no_index i) (slice_index_or overflow (word - 2 ^ 63) Null) (Text (text_in word)))
