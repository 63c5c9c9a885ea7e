-- Words and prefixes come in the order of the values' folds, which decides first.
use Rattle.std.proofs.Common.{◌≡◌, Bool, true, false, ◌&&◌, ℕ, ℤ, zero, suc, ◌+◌, ◌*◌, ◌^◌, ◌<◌, ◌≤◌, List, [], ◌∷◌, length, drop, get_or, Ordering, Less, Equal, Greater, refl, sym, ap, subst, ◌∙◌, arith}
use Rattle.std.specs.Prelude.{◌/◌, ◌%◌, ◌||◌, not, if◌then◌else◌, min, nat_eq, nat_le, ◌-◌, FitsSigned, ◌<ℤ◌}
use Rattle.std.specs.Char.{to_ascii_lowercase}
use Rattle.std.specs.Int.{w64}
use Rattle.std.specs.Ordering.{nat_cmp, int_cmp, ordering_then}
use Rattle.std.specs.Cmp.Lexicographic.{slice_cmp}
use Rattle.std.proofs.lemmas.Cmp.{ranked, int_ranked, by_ranked}
use Rattle.std.proofs.lemmas.Bool.Decides.{nat_tests}
use Rattle.std.proofs.Math.Seq.{drop-cons}
use Rattle.std.proofs.Math.Nat.{mul-le-mul_right, add-mul, pow-suc, one-le-pow}
use Rattle.std.proofs.lemmas.Int.{ints}
use Rattle.std.proofs.lemmas.List.{drop-drop, drop-map, drop_all, get_or-drop}
use Rattle.gq_row.specs.declared.value.Value.{Value}
use Rattle.gq_row.specs.declared.value.Value.TheVariants.{Null, Int, Text, NoCase}
use Rattle.gq_row.specs.Folding.{fold_case, folded}
use Rattle.gq_row.specs.Order.{folded_order, plain_order, compare_keys}
use Rattle.gq_row.specs.Rows.{cell}
use Rattle.gq_row.proofs.FoldLemmas.{folds_once, length-fold, then_same}
use Rattle.gq_query.specs.declared.sort_prefix.SortPrefix.{SortPrefix}
use Rattle.gq_query.specs.Ties.{TieUpTo, first_without, rest}
use Rattle.gq_query.specs.SortPrefixes.{from_least, is_open, is_whole, is_wide, leading, number_word, past, past_word, rest_word, text_word, without_bytes, word_of, IsOfBytes, IsPairPrefix, IsWord, Place}

-- the order of prefixes, as that of numbers of sixteen bytes
abbrev pub compare_prefixes : SortPrefix → SortPrefix → Ordering
compare_prefixes a b = ordering_then (nat_cmp a.high b.high) (nat_cmp a.low b.low)

abbrev AreBytes : List ℕ → Type 0
AreBytes text = (i : ℕ) → get_or text i 0 < 256

-- ---- numbers

pub less : (x y : ℕ) → x < y → nat_cmp x y ≡ Less
less x y lt = grind (arith, nat_tests)

pub greater : (x y : ℕ) → y < x → nat_cmp x y ≡ Greater
greater x y lt = grind (arith, nat_tests)

pub same : (x y : ℕ) → x ≡ y → nat_cmp x y ≡ Equal
same x y e = grind (arith, nat_tests)

shifted : (k x y : ℕ) → nat_cmp (k + x) (k + y) ≡ nat_cmp x y
shifted k x y = by_ranked (x < y) (x ≡ y) (y < x) (nat_cmp x y) (ranked x y (nat_cmp x y) refl)
    (λ e lt. less (k + x) (k + y) (omega (arith, lt)) ∙ sym e)
    (λ e eq. same (k + x) (k + y) (ap (λ z. k + z) eq) ∙ sym e)
    (λ e gt. greater (k + x) (k + y) (omega (arith, gt)) ∙ sym e)

pub below : (p a b x y : ℕ) → a < b → x < p → a * p + x < b * p + y
below p a b x y lt small =
    let up : (a + 1) * p ≤ b * p = mul-le-mul_right p (omega (arith, lt)) in
    let parts : (a + 1) * p ≡ a * p + 1 * p = add-mul a 1 p in
    omega (arith, up, parts, small)

-- two digits decide one after the other
digits : (p a b x y : ℕ) → x < p → y < p → nat_cmp (a * p + x) (b * p + y) ≡ ordering_then (nat_cmp a b) (nat_cmp x y)
digits p a b x y small_x small_y = by_ranked (a < b) (a ≡ b) (b < a) (nat_cmp a b) (ranked a b (nat_cmp a b) refl)
    (λ e lt. less (a * p + x) (b * p + y) (below p a b x y lt small_x) ∙ ap (λ o. ordering_then o (nat_cmp x y)) (sym e))
    (λ e eq. ap (λ z. nat_cmp (a * p + x) (z * p + y)) (sym eq) ∙ shifted (a * p) x y ∙ ap (λ o. ordering_then o (nat_cmp x y)) (sym e))
    (λ e gt. greater (a * p + x) (b * p + y) (below p b a y x gt small_y) ∙ ap (λ o. ordering_then o (nat_cmp x y)) (sym e))

-- ---- the first bytes of texts

tail_bytes : (b : ℕ) (text : List ℕ) → AreBytes (b ∷ text) → AreBytes text
tail_bytes b text bytes i = bytes (suc i)

leading_none : (n : ℕ) → leading n [] ≡ 0
leading_none zero = refl
leading_none (suc n) = refl

leading_small : (n : ℕ) (text : List ℕ) → AreBytes text → leading n text < 256 ^ n
leading_small zero text bytes = omega arith
leading_small (suc n) [] bytes = one-le-pow (suc n) 256 (omega arith)
leading_small (suc n) (b ∷ text) bytes =
    let rest : leading n text < 256 ^ n = leading_small n text (tail_bytes b text bytes) in
    let up : (b + 1) * 256 ^ n ≤ 256 * 256 ^ n = mul-le-mul_right (256 ^ n) (omega (arith, bytes 0)) in
    let parts : (b + 1) * 256 ^ n ≡ b * 256 ^ n + 1 * 256 ^ n = add-mul b 1 (256 ^ n) in
    let power : 256 ^ suc n ≡ 256 ^ n * 256 = pow-suc 256 n in
    omega (arith, rest, up, parts, power)

nothing_below : (x : ℕ) → ordering_then (nat_cmp 0 x) Less ≡ Less
nothing_below zero = refl
nothing_below (suc x) = ap (λ o. ordering_then o Less) (less 0 (suc x) (omega arith))

nothing_above : (x : ℕ) → ordering_then (nat_cmp x 0) Greater ≡ Greater
nothing_above zero = refl
nothing_above (suc x) = ap (λ o. ordering_then o Greater) (greater (suc x) 0 (omega arith))

nested : (c d m e : Ordering) → ordering_then (ordering_then d m) e ≡ e → ordering_then (ordering_then (ordering_then c d) m) (ordering_then c e) ≡ ordering_then c e
nested Less d m e h = refl
nested Equal d m e h = h
nested Greater d m e h = refl

-- the length of a text, up to one byte more than a prefix has
abbrev pub length_to : ℕ → List ℕ → ℕ
length_to n text = min (length text) n

-- Where the first bytes differ, or as many are all of one of them, texts come in their order.
leading_first : (n : ℕ) (s t : List ℕ) → AreBytes s → AreBytes t
    → ordering_then (ordering_then (nat_cmp (leading n s) (leading n t)) (nat_cmp (length_to (suc n) s) (length_to (suc n) t))) (slice_cmp nat_cmp s t) ≡ slice_cmp nat_cmp s t
leading_first zero [] [] p q = ap (λ o. ordering_then o Equal) (same (length_to 1 []) (length_to 1 []) refl)
leading_first zero [] (b ∷ t) p q = ap (λ o. ordering_then o Less) (less (length_to 1 []) (length_to 1 (b ∷ t)) (omega arith))
leading_first zero (a ∷ s) [] p q = ap (λ o. ordering_then o Greater) (greater (length_to 1 (a ∷ s)) (length_to 1 []) (omega arith))
leading_first zero (a ∷ s) (b ∷ t) p q = ap (λ o. ordering_then o (slice_cmp nat_cmp (a ∷ s) (b ∷ t))) (same (length_to 1 (a ∷ s)) (length_to 1 (b ∷ t)) (omega arith))
leading_first (suc n) [] [] p q = ap (λ o. ordering_then o Equal) (same (length_to (suc (suc n)) []) (length_to (suc (suc n)) []) refl)
leading_first (suc n) [] (b ∷ t) p q =
    ap (λ o. ordering_then (ordering_then (nat_cmp 0 (b * 256 ^ n + leading n t)) o) Less) (less (length_to (suc (suc n)) []) (length_to (suc (suc n)) (b ∷ t)) (omega arith))
    ∙ ap (λ o. ordering_then o Less) (nothing_below (b * 256 ^ n + leading n t))
leading_first (suc n) (a ∷ s) [] p q =
    ap (λ o. ordering_then (ordering_then (nat_cmp (a * 256 ^ n + leading n s) 0) o) Greater) (greater (length_to (suc (suc n)) (a ∷ s)) (length_to (suc (suc n)) []) (omega arith))
    ∙ ap (λ o. ordering_then o Greater) (nothing_above (a * 256 ^ n + leading n s))
leading_first (suc n) (a ∷ s) (b ∷ t) p q =
    let small_s : leading n s < 256 ^ n = leading_small n s (tail_bytes a s p) in
    let small_t : leading n t < 256 ^ n = leading_small n t (tail_bytes b t q) in
    let one_s : length_to (suc (suc n)) (a ∷ s) ≡ 1 + length_to (suc n) s = omega arith in
    let one_t : length_to (suc (suc n)) (b ∷ t) ≡ 1 + length_to (suc n) t = omega arith in
    let lengths : nat_cmp (length_to (suc (suc n)) (a ∷ s)) (length_to (suc (suc n)) (b ∷ t)) ≡ nat_cmp (length_to (suc n) s) (length_to (suc n) t) =
    (λ i. nat_cmp (one_s i) (one_t i)) ∙ shifted 1 (length_to (suc n) s) (length_to (suc n) t) in
    (λ i. ordering_then (ordering_then (digits (256 ^ n) a b (leading n s) (leading n t) small_s small_t i) (lengths i)) (ordering_then (nat_cmp a b) (slice_cmp nat_cmp s t)))
    ∙ nested (nat_cmp a b) (nat_cmp (leading n s) (leading n t)) (nat_cmp (length_to (suc n) s) (length_to (suc n) t)) (slice_cmp nat_cmp s t) (leading_first n s t (tail_bytes a s p) (tail_bytes b t q))

dropped_bytes : (n : ℕ) (text : List ℕ) → AreBytes text → AreBytes (drop n text)
dropped_bytes zero text bytes = bytes
dropped_bytes (suc n) [] bytes = bytes
dropped_bytes (suc n) (b ∷ text) bytes = dropped_bytes n text (tail_bytes b text bytes)

-- ---- words of values

numbers : (m n : ℤ) → FitsSigned w64 m → FitsSigned w64 n → nat_cmp (from_least m) (from_least n) ≡ int_cmp m n
numbers m n p q = by_ranked (m <ℤ n) (m ≡ n) (n <ℤ m) (int_cmp m n) (int_ranked m n (int_cmp m n) refl)
    (λ e lt. less (from_least m) (from_least n) (omega (arith, ints, lt)) ∙ sym e)
    (λ e eq. same (from_least m) (from_least n) (ap from_least eq) ∙ sym e)
    (λ e gt. greater (from_least m) (from_least n) (omega (arith, ints, gt)) ∙ sym e)

not_above : (x y : ℕ) → x ≤ y → ordering_then (nat_cmp x y) Less ≡ Less
not_above x y le = by_ranked (x < y) (x ≡ y) (y < x) (nat_cmp x y) (ranked x y (nat_cmp x y) refl)
    (λ e lt. ap (λ o. ordering_then o Less) e) (λ e eq. ap (λ o. ordering_then o Less) e) (λ e gt. absurd (omega (arith, le, gt)))

not_below : (x y : ℕ) → y ≤ x → ordering_then (nat_cmp x y) Greater ≡ Greater
not_below x y le = by_ranked (x < y) (x ≡ y) (y < x) (nat_cmp x y) (ranked x y (nat_cmp x y) refl)
    (λ e lt. absurd (omega (arith, le, lt))) (λ e eq. ap (λ o. ordering_then o Greater) e) (λ e gt. ap (λ o. ordering_then o Greater) e)

-- the words of numbers come in their order, and some tie
numbers_first : (m n : ℤ) → FitsSigned w64 m → FitsSigned w64 n → ordering_then (nat_cmp (number_word m) (number_word n)) (int_cmp m n) ≡ int_cmp m n
numbers_first m n p q = by_ranked (from_least m < from_least n) (from_least m ≡ from_least n) (from_least n < from_least m) (int_cmp m n) (ranked (from_least m) (from_least n) (int_cmp m n) (sym (numbers m n p q)))
    (λ e lt. ap (ordering_then (nat_cmp (number_word m) (number_word n))) e ∙ not_above (number_word m) (number_word n) (omega (arith, lt)) ∙ sym e)
    (λ e eq. ap (λ o. ordering_then o (int_cmp m n)) (same (number_word m) (number_word n) (omega (arith, eq))))
    (λ e gt. ap (ordering_then (nat_cmp (number_word m) (number_word n))) e ∙ not_below (number_word m) (number_word n) (omega (arith, gt)) ∙ sym e)

number_below : (n : ℤ) (k : ℕ) → 4 * 2 ^ 56 ≤ k → number_word n < k
number_below n k le = omega (arith, le)

-- the words of two texts after one tag: their first six bytes, then their lengths
text_words : (tag : ℕ) (s t : List ℕ) → nat_cmp (tag * 2 ^ 56 + text_word s) (tag * 2 ^ 56 + text_word t) ≡ ordering_then (nat_cmp (leading 6 s) (leading 6 t)) (nat_cmp (length_to 7 s) (length_to 7 t))
text_words tag s t = shifted (tag * 2 ^ 56) (text_word s) (text_word t) ∙ digits 256 (leading 6 s) (leading 6 t) (length_to 7 s) (length_to 7 t) (omega arith) (omega arith)

-- so they come before the order of the texts
texts_first : (tag : ℕ) (s t : List ℕ) → AreBytes s → AreBytes t → ordering_then (nat_cmp (tag * 2 ^ 56 + text_word s) (tag * 2 ^ 56 + text_word t)) (slice_cmp nat_cmp s t) ≡ slice_cmp nat_cmp s t
texts_first tag s t p q = ap (λ o. ordering_then o (slice_cmp nat_cmp s t)) (text_words tag s t) ∙ leading_first 6 s t p q

text_small : (text : List ℕ) → AreBytes text → text_word text < 2 ^ 56
text_small text bytes = let small : leading 6 text < 256 ^ 6 = leading_small 6 text bytes in omega (arith, small)

-- fewer than eight bytes, by the first four and the others
pub few_bytes : (text : List ℕ) → AreBytes text → length text < 4 → leading 3 text * 2 ^ 40 % 2 ^ 64 ≡ leading 8 text
few_bytes [] bytes lt = refl
few_bytes (b0 ∷ []) bytes lt = omega (arith, bytes 0)
few_bytes (b0 ∷ b1 ∷ []) bytes lt = omega (arith, bytes 0, bytes 1)
few_bytes (b0 ∷ b1 ∷ b2 ∷ []) bytes lt = omega (arith, bytes 0, bytes 1, bytes 2)
few_bytes (b0 ∷ b1 ∷ b2 ∷ b3 ∷ text) bytes lt = absurd (omega (arith, lt))

pub some_bytes : (text : List ℕ) (four three : ℕ) → AreBytes text → 4 ≤ length text → length text < 8 → four ≡ leading 4 text → three ≡ leading 3 (drop 4 text)
    → (four * 2 ^ 32 % 2 ^ 64 + three * 2 ^ 8 % 2 ^ 64 ≡ leading 8 text)
some_bytes [] four three bytes le lt p q = absurd (omega (arith, le))
some_bytes (b0 ∷ []) four three bytes le lt p q = absurd (omega (arith, le))
some_bytes (b0 ∷ b1 ∷ []) four three bytes le lt p q = absurd (omega (arith, le))
some_bytes (b0 ∷ b1 ∷ b2 ∷ []) four three bytes le lt p q = absurd (omega (arith, le))
some_bytes (b0 ∷ b1 ∷ b2 ∷ b3 ∷ []) four three bytes le lt p q = omega (arith, p, q, bytes 0, bytes 1, bytes 2, bytes 3)
some_bytes (b0 ∷ b1 ∷ b2 ∷ b3 ∷ b4 ∷ []) four three bytes le lt p q = omega (arith, p, q, bytes 0, bytes 1, bytes 2, bytes 3, bytes 4)
some_bytes (b0 ∷ b1 ∷ b2 ∷ b3 ∷ b4 ∷ b5 ∷ []) four three bytes le lt p q = omega (arith, p, q, bytes 0, bytes 1, bytes 2, bytes 3, bytes 4, bytes 5)
some_bytes (b0 ∷ b1 ∷ b2 ∷ b3 ∷ b4 ∷ b5 ∷ b6 ∷ []) four three bytes le lt p q = omega (arith, p, q, bytes 0, bytes 1, bytes 2, bytes 3, bytes 4, bytes 5, bytes 6)
some_bytes (b0 ∷ b1 ∷ b2 ∷ b3 ∷ b4 ∷ b5 ∷ b6 ∷ b7 ∷ text) four three bytes le lt p q = absurd (omega (arith, lt))

pub four_bytes : (text : List ℕ) (four : ℕ) → 4 ≤ length text → four ≡ ((get_or text 0 0 * 256 + get_or text 1 0) * 256 + get_or text 2 0) * 256 + get_or text 3 0 → four ≡ leading 4 text
four_bytes [] four le p = absurd (omega (arith, le))
four_bytes (b0 ∷ []) four le p = absurd (omega (arith, le))
four_bytes (b0 ∷ b1 ∷ []) four le p = absurd (omega (arith, le))
four_bytes (b0 ∷ b1 ∷ b2 ∷ []) four le p = absurd (omega (arith, le))
four_bytes (b0 ∷ b1 ∷ b2 ∷ b3 ∷ text) four le p = omega (arith, p)

pub small_three : (text : List ℕ) (three : ℕ) → AreBytes text → three ≡ leading 3 (drop 4 text) → three < 2 ^ 24
small_three text three bytes p = omega (arith, p, leading_small 3 (drop 4 text) (dropped_bytes 4 text bytes))

-- six of eight bytes
leading_less : (text : List ℕ) → AreBytes text → leading 8 text / 65536 ≡ leading 6 text
leading_less [] bytes = refl
leading_less (b0 ∷ []) bytes = omega arith
leading_less (b0 ∷ b1 ∷ []) bytes = omega arith
leading_less (b0 ∷ b1 ∷ b2 ∷ []) bytes = omega arith
leading_less (b0 ∷ b1 ∷ b2 ∷ b3 ∷ []) bytes = omega arith
leading_less (b0 ∷ b1 ∷ b2 ∷ b3 ∷ b4 ∷ []) bytes = omega arith
leading_less (b0 ∷ b1 ∷ b2 ∷ b3 ∷ b4 ∷ b5 ∷ []) bytes = omega arith
leading_less (b0 ∷ b1 ∷ b2 ∷ b3 ∷ b4 ∷ b5 ∷ b6 ∷ []) bytes = omega (arith, bytes 6)
leading_less (b0 ∷ b1 ∷ b2 ∷ b3 ∷ b4 ∷ b5 ∷ b6 ∷ b7 ∷ text) bytes = omega (arith, bytes 6, bytes 7)

-- the word of a text by its first eight bytes
pub text_is : (text : List ℕ) (first word : ℕ) → AreBytes text → first ≡ leading 8 text → word ≡ first / 65536 * 256 + min (length text) 7 → word ≡ text_word text
text_is text first word bytes p q = q ∙ ap (λ x. x * 256 + min (length text) 7) (ap (λ x. x / 65536) p ∙ leading_less text bytes)

-- a word fits in eight bytes, whatever its tag
pub word_small : (text : List ℕ) (word : ℕ) → AreBytes text → word ≡ text_word text → 5 * 2 ^ 56 + word < 2 ^ 64
word_small text word bytes is = omega (arith, is, text_small text bytes)

-- ---- folds

lower_byte : (c : ℕ) → c < 256 → to_ascii_lowercase c < 256
lower_byte c lt = grind (arith, nat_tests)

folded_byte : (text : List ℕ) (i : ℕ) → get_or (fold_case text) i 0 ≡ to_ascii_lowercase (get_or text i 0)
folded_byte [] i = refl
folded_byte (c ∷ text) zero = refl
folded_byte (c ∷ text) (suc i) = folded_byte text i

folded_bytes : (text : List ℕ) → AreBytes text → AreBytes (fold_case text)
folded_bytes text bytes i = subst (λ b. b < 256) (sym (folded_byte text i)) (lower_byte (get_or text i 0) (bytes i))

pub folded_is : (text : List ℕ) (first word : ℕ) → AreBytes text → first ≡ leading 8 (fold_case text) → word ≡ first / 65536 * 256 + min (length text) 7 → word ≡ text_word (fold_case text)
folded_is text first word bytes p q = text_is (fold_case text) first word (folded_bytes text bytes) p (q ∙ ap (λ n. first / 65536 * 256 + min n 7) (sym (length-fold text)))

word_folded : (v : Value) → word_of (folded v) ≡ word_of v
word_folded Null = refl
word_folded (Int n) = refl
word_folded (Text t) = refl
word_folded (NoCase t) = ap (λ text. 5 * 2 ^ 56 + text_word text) (folds_once t)

rest_folded : (v : Value) → rest_word (folded v) ≡ rest_word v
rest_folded Null = refl
rest_folded (Int n) = refl
rest_folded (Text t) = refl
rest_folded (NoCase t) = ap (λ text. 5 * 2 ^ 56 + text_word text) (sym (drop-map to_ascii_lowercase 6 (fold_case t)) ∙ ap (drop 6) (folds_once t) ∙ drop-map to_ascii_lowercase 6 t)

bytes_folded : (v : Value) → IsOfBytes v → IsOfBytes (folded v)
bytes_folded Null h = h
bytes_folded (Int n) h = h
bytes_folded (Text t) h = h
bytes_folded (NoCase t) h = folded_bytes t h

-- the prefix of two values is that of their folds
pub folded_pair : (v w x y : Value) (p : SortPrefix) → folded v ≡ x → folded w ≡ y → IsPairPrefix v w p → IsPairPrefix x y p
folded_pair v w x y p first second h = subst (λ a. IsPairPrefix a y p) first (subst (λ b. IsPairPrefix (folded v) b p) second (record {
  is = h.is ∙ (λ i. record { high = sym (word_folded v) i; low = if is_whole (sym (word_folded v) i) then sym (word_folded w) i else sym (rest_folded v) i });
  first_held = bytes_folded v h.first_held;
  second_held = λ e. bytes_folded w (h.second_held e);
}))

-- ---- values and keys

-- Values are compared by their words first, and where these tie by their folds.
by_words : (x y : Value) → IsOfBytes x → IsOfBytes y → ordering_then (nat_cmp (word_of x) (word_of y)) (folded_order x y) ≡ folded_order x y
by_words Null Null p q = refl
by_words Null (Int n) p q = nothing_below (number_word n)
by_words Null (Text t) p q = nothing_below (word_of (Text t))
by_words Null (NoCase t) p q = nothing_below (word_of (NoCase t))
by_words (Int m) Null p q = nothing_above (number_word m)
by_words (Int m) (Int n) p q = numbers_first m n p q
by_words (Int m) (Text t) p q = ap (λ o. ordering_then o Less) (less (number_word m) (word_of (Text t)) (number_below m (word_of (Text t)) (omega arith)))
by_words (Int m) (NoCase t) p q = ap (λ o. ordering_then o Less) (less (number_word m) (word_of (NoCase t)) (number_below m (word_of (NoCase t)) (omega arith)))
by_words (Text s) Null p q = nothing_above (word_of (Text s))
by_words (Text s) (Int n) p q = ap (λ o. ordering_then o Greater) (greater (word_of (Text s)) (number_word n) (number_below n (word_of (Text s)) (omega arith)))
by_words (Text s) (Text t) p q = texts_first 4 s t p q
by_words (Text s) (NoCase t) p q = ap (λ o. ordering_then o Less) (less (word_of (Text s)) (word_of (NoCase t)) (omega (arith, text_small s p)))
by_words (NoCase s) Null p q = nothing_above (word_of (NoCase s))
by_words (NoCase s) (Int n) p q = ap (λ o. ordering_then o Greater) (greater (word_of (NoCase s)) (number_word n) (number_below n (word_of (NoCase s)) (omega arith)))
by_words (NoCase s) (Text t) p q = ap (λ o. ordering_then o Greater) (greater (word_of (NoCase s)) (word_of (Text t)) (omega (arith, text_small t q)))
by_words (NoCase s) (NoCase t) p q = texts_first 5 (fold_case s) (fold_case t) (folded_bytes s p) (folded_bytes t q)

-- ---- words that tie

pub tied : (x y : ℕ) → nat_cmp x y ≡ Equal → x ≡ y
tied x y h = grind (arith, nat_tests)

-- texts with the same first bytes, whose lengths tie up to one more, are in the order of what follows
equal_bytes : (n : ℕ) (s t : List ℕ) → AreBytes s → AreBytes t → leading n s ≡ leading n t → length_to (suc n) s ≡ length_to (suc n) t → slice_cmp nat_cmp s t ≡ slice_cmp nat_cmp (drop n s) (drop n t)
equal_bytes zero s t p q e m = refl
equal_bytes (suc n) [] [] p q e m = refl
equal_bytes (suc n) [] (b ∷ t) p q e m = absurd (omega (arith, m))
equal_bytes (suc n) (a ∷ s) [] p q e m = absurd (omega (arith, m))
equal_bytes (suc n) (a ∷ s) (b ∷ t) p q e m =
    let small_s : leading n s < 256 ^ n = leading_small n s (tail_bytes a s p) in
    let small_t : leading n t < 256 ^ n = leading_small n t (tail_bytes b t q) in
    let both : ordering_then (nat_cmp a b) (nat_cmp (leading n s) (leading n t)) ≡ Equal =
    sym (digits (256 ^ n) a b (leading n s) (leading n t) small_s small_t) ∙ same (a * 256 ^ n + leading n s) (b * 256 ^ n + leading n t) e in
    let first : nat_cmp a b ≡ Equal = (both_equal (nat_cmp a b) (nat_cmp (leading n s) (leading n t)) both).0 in
    let others : leading n s ≡ leading n t = tied (leading n s) (leading n t) (both_equal (nat_cmp a b) (nat_cmp (leading n s) (leading n t)) both).1 in
    ap (λ o. ordering_then o (slice_cmp nat_cmp s t)) first ∙ equal_bytes n s t (tail_bytes a s p) (tail_bytes b t q) others (omega (arith, m))
  where
    both_equal : (c d : Ordering) → ordering_then c d ≡ Equal → (c ≡ Equal) × (d ≡ Equal)
    both_equal Less d h = cc h
    both_equal Equal d h = (refl, h)
    both_equal Greater d h = cc h

-- the two parts of a text's word
text_parts : (s t : List ℕ) → text_word s ≡ text_word t → (leading 6 s ≡ leading 6 t) × (length_to 7 s ≡ length_to 7 t)
text_parts s t e = (omega (arith, e), omega (arith, e))

texts_go_on : (s t : List ℕ) → AreBytes s → AreBytes t → text_word s ≡ text_word t → slice_cmp nat_cmp s t ≡ slice_cmp nat_cmp (drop 6 s) (drop 6 t)
texts_go_on s t p q e = let both = text_parts s t e in equal_bytes 6 s t p q both.0 both.1

whole_parts : (longer wide : Bool) → not (longer || wide) ≡ true → (longer ≡ false) × (wide ≡ false)
whole_parts true wide h = cc h
whole_parts false true h = cc h
whole_parts false false h = (refl, refl)

-- a text with a whole word has no more bytes
nothing_left : (tag : ℕ) (s : List ℕ) → 4 ≤ tag → is_whole (tag * 2 ^ 56 + text_word s) ≡ true → drop 6 s ≡ []
nothing_left tag s le whole =
    let word = tag * 2 ^ 56 + text_word s in
    let closed : is_open word ≡ false = (whole_parts (is_open word) (is_wide word) whole).0 in
    let large : nat_le (4 * 2 ^ 56) word ≡ true = grind (arith, nat_tests) in
    let last : word % 256 ≡ length_to 7 s = omega arith in
    let short : nat_eq (length_to 7 s) 7 ≡ false = (λ i. sym large i && nat_eq (sym last i) 7) ∙ closed in
    let few : length_to 7 s ≡ 7 → ⊥ = grind (arith, nat_tests) in
    drop_all 6 s (omega (arith, few))

whole_texts : (tag : ℕ) (s t : List ℕ) → 4 ≤ tag → AreBytes s → AreBytes t → tag * 2 ^ 56 + text_word s ≡ tag * 2 ^ 56 + text_word t → is_whole (tag * 2 ^ 56 + text_word s) ≡ true → slice_cmp nat_cmp s t ≡ Equal
whole_texts tag s t le p q e whole =
    texts_go_on s t p q (omega (arith, e)) ∙ (λ i. slice_cmp nat_cmp (nothing_left tag s le whole i) (nothing_left tag t le (ap is_whole (sym e) ∙ whole) i))

folds_go_on : (s t : List ℕ) → AreBytes s → AreBytes t → word_of (NoCase s) ≡ word_of (NoCase t) → slice_cmp nat_cmp (fold_case s) (fold_case t) ≡ slice_cmp nat_cmp (fold_case (drop 6 s)) (fold_case (drop 6 t))
folds_go_on s t p q e =
    texts_go_on (fold_case s) (fold_case t) (folded_bytes s p) (folded_bytes t q) (omega (arith, e)) ∙ (λ i. slice_cmp nat_cmp (drop-map to_ascii_lowercase 6 s i) (drop-map to_ascii_lowercase 6 t i))

whole_number : (m n : ℤ) → number_word m ≡ number_word n → is_whole (number_word m) ≡ true → from_least m ≡ from_least n
whole_number m n e whole =
    let narrow : is_wide (number_word m) ≡ false = (whole_parts (is_open (number_word m)) (is_wide (number_word m)) whole).1 in
    let low : number_word m ≡ 2 * 2 ^ 56 - 1 → ⊥ = grind (arith, nat_tests) in
    let high : number_word m ≡ 3 * 2 ^ 56 → ⊥ = grind (arith, nat_tests) in
    omega (arith, e, low, high)

-- Words of different kinds don't tie.
kinds : (X : Value → Value → Type 0) → X Null Null → ((m n : ℤ) → FitsSigned w64 m → FitsSigned w64 n → number_word m ≡ number_word n → X (Int m) (Int n))
    → ((s t : List ℕ) → AreBytes s → AreBytes t → word_of (Text s) ≡ word_of (Text t) → X (Text s) (Text t)) → ((s t : List ℕ) → AreBytes s → AreBytes t → word_of (NoCase s) ≡ word_of (NoCase t) → X (NoCase s) (NoCase t))
    → (v w : Value) → IsOfBytes v → IsOfBytes w → word_of v ≡ word_of w → X v w
kinds X nulls ints texts others Null Null p q e = nulls
kinds X nulls ints texts others Null (Int n) p q e = absurd (omega (arith, e))
kinds X nulls ints texts others Null (Text t) p q e = absurd (omega (arith, e))
kinds X nulls ints texts others Null (NoCase t) p q e = absurd (omega (arith, e))
kinds X nulls ints texts others (Int m) Null p q e = absurd (omega (arith, e))
kinds X nulls ints texts others (Int m) (Int n) p q e = ints m n p q e
kinds X nulls ints texts others (Int m) (Text t) p q e = absurd (omega (arith, e))
kinds X nulls ints texts others (Int m) (NoCase t) p q e = absurd (omega (arith, e))
kinds X nulls ints texts others (Text s) Null p q e = absurd (omega (arith, e))
kinds X nulls ints texts others (Text s) (Int n) p q e = absurd (omega (arith, e))
kinds X nulls ints texts others (Text s) (Text t) p q e = texts s t p q e
kinds X nulls ints texts others (Text s) (NoCase t) p q e = absurd (omega (arith, e, text_small s p))
kinds X nulls ints texts others (NoCase s) Null p q e = absurd (omega (arith, e))
kinds X nulls ints texts others (NoCase s) (Int n) p q e = absurd (omega (arith, e))
kinds X nulls ints texts others (NoCase s) (Text t) p q e = absurd (omega (arith, e, text_small t q))
kinds X nulls ints texts others (NoCase s) (NoCase t) p q e = others s t p q e

equal_numbers : (m n : ℤ) → FitsSigned w64 m → FitsSigned w64 n → from_least m ≡ from_least n → int_cmp m n ≡ Equal
equal_numbers m n p q e = sym (numbers m n p q) ∙ same (from_least m) (from_least n) e

-- values with one whole word tie
pub whole_tie : (v w : Value) → IsOfBytes v → IsOfBytes w → word_of v ≡ word_of w → is_whole (word_of v) ≡ true → folded_order v w ≡ Equal
whole_tie = kinds (λ v w. is_whole (word_of v) ≡ true → folded_order v w ≡ Equal) (λ whole. refl)
    (λ m n p q e whole. equal_numbers m n p q (whole_number m n e whole))
    (λ s t p q e whole. whole_texts 4 s t (omega arith) p q e whole)
    (λ s t p q e whole. whole_texts 5 (fold_case s) (fold_case t) (omega arith) (folded_bytes s p) (folded_bytes t q) e whole)

-- those with another word are compared by what it doesn't say
rest_tie : (v w : Value) → IsOfBytes v → IsOfBytes w → word_of v ≡ word_of w → ordering_then (nat_cmp (rest_word v) (rest_word w)) (folded_order v w) ≡ folded_order v w
rest_tie = kinds (λ v w. ordering_then (nat_cmp (rest_word v) (rest_word w)) (folded_order v w) ≡ folded_order v w) refl
    (λ m n p q e. ap (λ o. ordering_then o (int_cmp m n)) (numbers m n p q) ∙ then_same (int_cmp m n))
    (λ s t p q e.
    let on = texts_go_on s t p q (omega (arith, e)) in
    ap (ordering_then (nat_cmp (rest_word (Text s)) (rest_word (Text t)))) on ∙ texts_first 4 (drop 6 s) (drop 6 t) (dropped_bytes 6 s p) (dropped_bytes 6 t q) ∙ sym on)
    (λ s t p q e.
    let on = folds_go_on s t p q e in
    ap (ordering_then (nat_cmp (rest_word (NoCase s)) (rest_word (NoCase t)))) on
    ∙ texts_first 5 (fold_case (drop 6 s)) (fold_case (drop 6 t)) (folded_bytes (drop 6 s) (dropped_bytes 6 s p)) (folded_bytes (drop 6 t) (dropped_bytes 6 t q)) ∙ sym on)

-- and they are in the order of what follows in a text
pub values_go_on : (v w : Value) → IsOfBytes v → IsOfBytes w → word_of v ≡ word_of w → folded_order v w ≡ folded_order (without_bytes 6 v) (without_bytes 6 w)
values_go_on = kinds (λ v w. folded_order v w ≡ folded_order (without_bytes 6 v) (without_bytes 6 w)) refl (λ m n p q e. refl)
    (λ s t p q e. texts_go_on s t p q (omega (arith, e)))
    folds_go_on

-- a number whose words tie in both parts
wide_tie : (v w : Value) → IsOfBytes v → IsOfBytes w → word_of v ≡ word_of w → is_wide (word_of v) ≡ true → rest_word v ≡ rest_word w → folded_order v w ≡ Equal
wide_tie = kinds (λ v w. is_wide (word_of v) ≡ true → rest_word v ≡ rest_word w → folded_order v w ≡ Equal) (λ wide e. refl)
    (λ m n p q tie wide e. equal_numbers m n p q e)
    (λ s t p q tie wide e. absurd (no_text 4 s (omega arith) wide))
    (λ s t p q tie wide e. absurd (no_text 5 (fold_case s) (omega arith) wide))
  where
    no_text : (tag : ℕ) (s : List ℕ) → 4 ≤ tag → is_wide (tag * 2 ^ 56 + text_word s) ≡ true → ⊥
    no_text tag s le wide =
        let low : nat_eq (tag * 2 ^ 56 + text_word s) (2 * 2 ^ 56 - 1) ≡ false = grind (arith, nat_tests) in
        let high : nat_eq (tag * 2 ^ 56 + text_word s) (3 * 2 ^ 56) ≡ false = grind (arith, nat_tests) in
        let no : true ≡ false = sym wide ∙ (λ i. low i || high i) in
        cc no

pub grouped : (a b c : Ordering) → ordering_then a b ≡ b → ordering_then a (ordering_then b c) ≡ ordering_then b c
grouped Less Less c h = refl
grouped Less Equal c h = cc h
grouped Less Greater c h = cc h
grouped Equal b c h = refl
grouped Greater Less c h = cc h
grouped Greater Equal c h = cc h
grouped Greater Greater c h = refl

null_first : (y : Value) (o : Ordering) → ordering_then o (folded_order Null y) ≡ folded_order Null y → ordering_then o Less ≡ Less
null_first Null Less h = refl
null_first Null Equal h = refl
null_first Null Greater h = cc h
null_first (Int n) o h = h
null_first (Text t) o h = h
null_first (NoCase t) o h = h

null_last : (x : Value) (o : Ordering) → ordering_then o (folded_order x Null) ≡ folded_order x Null → ordering_then o Greater ≡ Greater
null_last Null Less h = cc h
null_last Null Equal h = refl
null_last Null Greater h = refl
null_last (Int n) o h = h
null_last (Text t) o h = h
null_last (NoCase t) o h = h

-- So are keys, by the words of their first values.
pub keys_by_words : (xs ys : List Value) → IsOfBytes (cell xs 0) → IsOfBytes (cell ys 0)
    → ordering_then (nat_cmp (word_of (cell xs 0)) (word_of (cell ys 0))) (slice_cmp folded_order xs ys) ≡ slice_cmp folded_order xs ys
keys_by_words [] [] p q = refl
keys_by_words [] (y ∷ ys) p q = null_first y (nat_cmp (word_of Null) (word_of y)) (by_words Null y p q)
keys_by_words (x ∷ xs) [] p q = null_last x (nat_cmp (word_of x) (word_of Null)) (by_words x Null p q)
keys_by_words (x ∷ xs) (y ∷ ys) p q = grouped (nat_cmp (word_of x) (word_of y)) (folded_order x y) (slice_cmp folded_order xs ys) (by_words x y p q)

-- and where whole words tie, by those of their second values
second_words : (xs ys : List Value) → IsOfBytes (cell xs 0) → IsOfBytes (cell ys 0) → word_of (cell xs 0) ≡ word_of (cell ys 0) → is_whole (word_of (cell xs 0)) ≡ true → IsOfBytes (cell xs 1) → IsOfBytes (cell ys 1)
    → ordering_then (nat_cmp (word_of (cell xs 1)) (word_of (cell ys 1))) (slice_cmp folded_order xs ys) ≡ slice_cmp folded_order xs ys
second_words [] [] p q e whole u v = refl
second_words [] (y ∷ ys) p q e whole u v = nothing_below (word_of (cell ys 0))
second_words (x ∷ xs) [] p q e whole u v = nothing_above (word_of (cell xs 0))
second_words (x ∷ xs) (y ∷ ys) p q e whole u v =
    let c = nat_cmp (word_of (cell xs 0)) (word_of (cell ys 0)) in
    let tie : ordering_then (folded_order x y) (slice_cmp folded_order xs ys) ≡ slice_cmp folded_order xs ys = ap (λ o. ordering_then o (slice_cmp folded_order xs ys)) (whole_tie x y p q e whole) in
    ap (ordering_then c) tie ∙ keys_by_words xs ys u v ∙ sym tie

-- where other words tie, by what these don't say
rest_words : (xs ys : List Value) → IsOfBytes (cell xs 0) → IsOfBytes (cell ys 0) → word_of (cell xs 0) ≡ word_of (cell ys 0)
    → ordering_then (nat_cmp (rest_word (cell xs 0)) (rest_word (cell ys 0))) (slice_cmp folded_order xs ys) ≡ slice_cmp folded_order xs ys
rest_words [] [] p q e = refl
rest_words [] (y ∷ ys) p q e = nothing_below (rest_word y)
rest_words (x ∷ xs) [] p q e = nothing_above (rest_word x)
rest_words (x ∷ xs) (y ∷ ys) p q e = grouped (nat_cmp (rest_word x) (rest_word y)) (folded_order x y) (slice_cmp folded_order xs ys) (rest_tie x y p q e)

pub one_by_one : (h l s : Ordering) → ordering_then h s ≡ s → (h ≡ Equal → ordering_then l s ≡ s) → ordering_then (ordering_then h l) s ≡ s
one_by_one Less l s first second = first
one_by_one Equal l s first second = second refl
one_by_one Greater l s first second = first

-- the second word, if it is known whether the first is whole
pub low_whole : (v w : Value) (p : SortPrefix) → IsPairPrefix v w p → is_whole p.high ≡ true → p.low ≡ word_of w
low_whole v w p h e = ap (λ (f : SortPrefix). f.low) h.is ∙ (λ i. if (ap is_whole (sym (ap (λ (f : SortPrefix). f.high) h.is)) ∙ e) i then word_of w else rest_word v)

pub low_rest : (v w : Value) (p : SortPrefix) → IsPairPrefix v w p → is_whole p.high ≡ false → p.low ≡ rest_word v
low_rest v w p h e = ap (λ (f : SortPrefix). f.low) h.is ∙ (λ i. if (ap is_whole (sym (ap (λ (f : SortPrefix). f.high) h.is)) ∙ e) i then word_of w else rest_word v)

high_is : (v w : Value) (p : SortPrefix) → IsPairPrefix v w p → p.high ≡ word_of v
high_is v w p h = ap (λ (f : SortPrefix). f.high) h.is

-- the prefix of a key is that of its first two values
abbrev IsSortPrefix : List Value → SortPrefix → Type 0
IsSortPrefix key prefix = IsPairPrefix (cell key 0) (cell key 1) prefix

-- So keys are compared by the prefixes of their first values.
folds_by_prefixes : (xs ys : List Value) (a b : SortPrefix) → IsSortPrefix xs a → IsSortPrefix ys b → ordering_then (compare_prefixes a b) (slice_cmp folded_order xs ys) ≡ slice_cmp folded_order xs ys
folds_by_prefixes xs ys a b p q =
    let high_a = high_is (cell xs 0) (cell xs 1) a p in
    let high_b = high_is (cell ys 0) (cell ys 1) b q in
    one_by_one (nat_cmp a.high b.high) (nat_cmp a.low b.low) (slice_cmp folded_order xs ys)
    ((λ i. ordering_then (nat_cmp (high_a i) (high_b i)) (slice_cmp folded_order xs ys)) ∙ keys_by_words xs ys p.first_held q.first_held)
    (λ e. low (is_whole a.high) refl (tied a.high b.high e))
  where
    low : (whole : Bool) → is_whole a.high ≡ whole → a.high ≡ b.high → ordering_then (nat_cmp a.low b.low) (slice_cmp folded_order xs ys) ≡ slice_cmp folded_order xs ys
    low true w e =
        let high_a = high_is (cell xs 0) (cell xs 1) a p in
        let tie = sym high_a ∙ e ∙ high_is (cell ys 0) (cell ys 1) b q in
        let other : is_whole b.high ≡ true = ap is_whole (sym e) ∙ w in
        (λ i. ordering_then (nat_cmp (low_whole (cell xs 0) (cell xs 1) a p w i) (low_whole (cell ys 0) (cell ys 1) b q other i)) (slice_cmp folded_order xs ys))
        ∙ second_words xs ys p.first_held q.first_held tie (ap is_whole (sym high_a) ∙ w) (p.second_held w) (q.second_held other)
    low false w e =
        let tie = sym (high_is (cell xs 0) (cell xs 1) a p) ∙ e ∙ high_is (cell ys 0) (cell ys 1) b q in
        let other : is_whole b.high ≡ false = ap is_whole (sym e) ∙ w in
        (λ i. ordering_then (nat_cmp (low_rest (cell xs 0) (cell xs 1) a p w i) (low_rest (cell ys 0) (cell ys 1) b q other i)) (slice_cmp folded_order xs ys))
        ∙ rest_words xs ys p.first_held q.first_held tie

-- ---- keys that tie up to a place

-- values without bytes of the first text
pub none_without : (value : Value) → without_bytes 0 value ≡ value
none_without Null = refl
none_without (Int n) = refl
none_without (Text t) = refl
none_without (NoCase t) = refl

more_without : (m n : ℕ) (value : Value) → without_bytes m (without_bytes n value) ≡ without_bytes (n + m) value
more_without m n Null = refl
more_without m n (Int i) = refl
more_without m n (Text t) = ap Text (drop-drop m n t)
more_without m n (NoCase t) = ap NoCase (drop-drop m n t)

first_cell : (n : ℕ) (values : List Value) → cell (first_without n values) 0 ≡ without_bytes n (cell values 0)
first_cell n [] = refl
first_cell n (value ∷ values) = refl

first_whole : (values : List Value) → first_without 0 values ≡ values
first_whole [] = refl
first_whole (value ∷ values) = ap (λ v. v ∷ values) (none_without value)

pub rest_cell : (place skip : ℕ) (key : List Value) → cell (rest place skip key) 0 ≡ without_bytes skip (cell key place)
rest_cell place skip key =
    let at : place + 0 ≡ place = omega arith in
    first_cell skip (drop place key) ∙ ap (without_bytes skip) (get_or-drop place key 0 Null ∙ ap (λ k. get_or key k Null) at)

rest_is : (place skip : ℕ) (key : List Value) → place < length key → rest place skip key ≡ without_bytes skip (cell key place) ∷ drop (suc place) key
rest_is place skip key lt = ap (first_without skip) (drop-cons key place Null lt)

pub tie_whole : (a b : List Value) → TieUpTo 0 0 a b
tie_whole a b = λ i. slice_cmp folded_order (sym (first_whole a) i) (sym (first_whole b) i)

rest_next : (place skip : ℕ) (key : List Value) → cell (rest place skip key) 1 ≡ cell key (suc place)
rest_next place skip key = second (drop place key) ∙ get_or-drop place key 1 Null ∙ ap (λ k. get_or key k Null) (omega arith)
  where
    second : (values : List Value) → cell (first_without skip values) 1 ≡ cell values 1
    second [] = refl
    second (value ∷ values) = refl

-- keys that tie are in the order of the prefixes of their rests, if these don't tie
pub rest_first : (place skip : ℕ) (a b : List Value) (p q : SortPrefix) → TieUpTo place skip a b
    → IsPairPrefix (without_bytes skip (cell a place)) (cell a (suc place)) p → IsPairPrefix (without_bytes skip (cell b place)) (cell b (suc place)) q
    → ordering_then (compare_prefixes p q) (compare_keys a b) ≡ compare_keys a b
rest_first place skip a b p q tie x y =
    let c = compare_prefixes p q in
    let decides = folds_by_prefixes (rest place skip a) (rest place skip b) p q (of_rest a p x) (of_rest b q y) in
    grouped c (slice_cmp folded_order a b) (slice_cmp plain_order a b) (ap (ordering_then c) tie ∙ decides ∙ sym tie)
  where
    of_rest : (key : List Value) (f : SortPrefix) → IsPairPrefix (without_bytes skip (cell key place)) (cell key (suc place)) f → IsSortPrefix (rest place skip key) f
    of_rest key f h = subst (λ v. IsPairPrefix v (cell (rest place skip key) 1) f) (sym (rest_cell place skip key)) (subst (λ w. IsPairPrefix (without_bytes skip (cell key place)) w f) (sym (rest_next place skip key)) h)

-- the place past a word, if it is known whether its text has more bytes
abbrev past_if : Bool → Place → Place
past_if longer place = if longer then (place.0, place.1 + 6) else (suc place.0, 0)

-- a tie goes on past a cell, or past the bytes of a word
module _ (place skip : ℕ) (a b : List Value) (in_a : place < length a) (in_b : place < length b) (tie : TieUpTo place skip a b) where
  by_cells : slice_cmp folded_order a b ≡ ordering_then (folded_order (without_bytes skip (cell a place)) (without_bytes skip (cell b place))) (slice_cmp folded_order (drop (suc place) a) (drop (suc place) b))
  by_cells = tie ∙ (λ i. slice_cmp folded_order (rest_is place skip a in_a i) (rest_is place skip b in_b i))

  pub past_cell : folded_order (without_bytes skip (cell a place)) (without_bytes skip (cell b place)) ≡ Equal → TieUpTo (suc place) 0 a b
  past_cell e =
      by_cells
      ∙ ap (λ o. ordering_then o (slice_cmp folded_order (drop (suc place) a) (drop (suc place) b))) e
      ∙ (λ i. slice_cmp folded_order (sym (first_whole (drop (suc place) a)) i) (sym (first_whole (drop (suc place) b)) i))

  pub past_bytes : folded_order (without_bytes skip (cell a place)) (without_bytes skip (cell b place)) ≡ folded_order (without_bytes 6 (without_bytes skip (cell a place))) (without_bytes 6 (without_bytes skip (cell b place)))
      → TieUpTo place (skip + 6) a b
  past_bytes e =
      by_cells
      ∙ ap (λ o. ordering_then o (slice_cmp folded_order (drop (suc place) a) (drop (suc place) b))) (e ∙ (λ i. folded_order (more_without 6 skip (cell a place) i) (more_without 6 skip (cell b place) i)))
      ∙ (λ i. slice_cmp folded_order (sym (rest_is place (skip + 6) a in_a) i) (sym (rest_is place (skip + 6) b in_b) i))

  -- past a word that isn't of a number beyond the others
  word_past : (w : ℕ) → IsWord (without_bytes skip (cell a place)) w → IsWord (without_bytes skip (cell b place)) w → is_wide w ≡ false → TieUpTo (past_word w (place, skip)).0 (past_word w (place, skip)).1 a b
  word_past w x y narrow = by_open (is_open w) refl
    where
      word_tie : word_of (without_bytes skip (cell a place)) ≡ word_of (without_bytes skip (cell b place))
      word_tie = sym x.0 ∙ y.0

      by_open : (longer : Bool) → is_open w ≡ longer → TieUpTo (past_if longer (place, skip)).0 (past_if longer (place, skip)).1 a b
      by_open true e = past_bytes (values_go_on (without_bytes skip (cell a place)) (without_bytes skip (cell b place)) x.1 y.1 word_tie)
      by_open false e = past_cell (whole_tie (without_bytes skip (cell a place)) (without_bytes skip (cell b place)) x.1 y.1 word_tie (ap is_whole (sym x.0) ∙ (λ i. not (e i || narrow i))))

-- the word of what follows the first six bytes of a text
open_rest : (v : Value) → is_open (word_of v) ≡ true → rest_word v ≡ word_of (without_bytes 6 v)
open_rest Null e = refl
open_rest (Int n) e = let low : nat_le (4 * 2 ^ 56) (number_word n) ≡ false = grind (arith, nat_tests) in let no : true ≡ false = sym e ∙ (λ i. low i && nat_eq (number_word n % 256) 7) in cc no
open_rest (Text t) e = refl
open_rest (NoCase t) e = refl

bytes_without : (n : ℕ) (v : Value) → IsOfBytes v → IsOfBytes (without_bytes n v)
bytes_without n Null h = h
bytes_without n (Int m) h = h
bytes_without n (Text t) h = dropped_bytes n t h
bytes_without n (NoCase t) h = dropped_bytes n t h

-- the first word of a prefix, and the second, which is that of the place past the first
first_word : (place skip : ℕ) (key : List Value) (p : SortPrefix) → IsPairPrefix (without_bytes skip (cell key place)) (cell key (suc place)) p → IsWord (without_bytes skip (cell key place)) p.high
first_word place skip key p h = (high_is (without_bytes skip (cell key place)) (cell key (suc place)) p h, h.first_held)

low_word : (place skip : ℕ) (key : List Value) (p : SortPrefix) → IsPairPrefix (without_bytes skip (cell key place)) (cell key (suc place)) p → is_wide p.high ≡ false
    → IsWord (without_bytes (past_word p.high (place, skip)).1 (cell key (past_word p.high (place, skip)).0)) p.low
low_word place skip key p h narrow = by_open (is_open p.high) refl
  where
    by_open : (longer : Bool) → is_open p.high ≡ longer → IsWord (without_bytes (past_if longer (place, skip)).1 (cell key (past_if longer (place, skip)).0)) p.low
    by_open true e =
        let more = more_without 6 skip (cell key place) in
        let high = high_is (without_bytes skip (cell key place)) (cell key (suc place)) p h in (
          low_rest (without_bytes skip (cell key place)) (cell key (suc place)) p h (λ i. not (e i || narrow i)) ∙ open_rest (without_bytes skip (cell key place)) (ap is_open (sym high) ∙ e) ∙ ap word_of more,
          subst IsOfBytes more (bytes_without 6 (without_bytes skip (cell key place)) h.first_held),
        )
    by_open false e =
        let whole : is_whole p.high ≡ true = λ i. not (e i || narrow i) in
        let none = none_without (cell key (suc place)) in (
          low_whole (without_bytes skip (cell key place)) (cell key (suc place)) p h whole ∙ ap word_of (sym none),
          subst IsOfBytes (sym none) (h.second_held whole),
        )

not_back : (w : ℕ) (place : Place) → place.0 ≤ (past_word w place).0
not_back w place = by_open (is_open w)
  where
    by_open : (longer : Bool) → place.0 ≤ (past_if longer place).0
    by_open true = omega arith
    by_open false = omega arith

wide_closed : (w : ℕ) → is_wide w ≡ true → is_open w ≡ false
wide_closed w h =
    let small : nat_le (4 * 2 ^ 56) w ≡ false = grind (arith, nat_tests) in
    ap (λ large. large && nat_eq (w % 256) 7) small

abbrev go_past : Bool → SortPrefix → Place → Place
go_past wide p place = if wide then past_word p.high place else past_word p.low (past_word p.high place)

-- keys that tie in a prefix, too, tie past it
module _ (place skip : ℕ) (a b : List Value) (p : SortPrefix) (tie : TieUpTo place skip a b)
    (x : IsPairPrefix (without_bytes skip (cell a place)) (cell a (suc place)) p) (y : IsPairPrefix (without_bytes skip (cell b place)) (cell b (suc place)) p) where
  past_number : is_wide p.high ≡ true → (past_word p.high (place, skip)).0 < length a → (past_word p.high (place, skip)).0 < length b → TieUpTo (past_word p.high (place, skip)).0 (past_word p.high (place, skip)).1 a b
  past_number wide in_a in_b =
      let v = without_bytes skip (cell a place) in
      let w = without_bytes skip (cell b place) in
      let closed = wide_closed p.high wide in
      let to : past_word p.high (place, skip) ≡ (suc place, 0) = λ i. past_if (closed i) (place, skip) in
      let longer : is_whole p.high ≡ false = λ i. not (closed i || wide i) in
      let high = high_is v (cell a (suc place)) p x in
      let back = not_back p.high (place, skip) in
      subst (λ (at : Place). TieUpTo at.0 at.1 a b) (sym to)
      (past_cell place skip a b (omega (arith, in_a, back)) (omega (arith, in_b, back)) tie
      (wide_tie v w x.first_held y.first_held (sym high ∙ high_is w (cell b (suc place)) p y) (ap is_wide (sym high) ∙ wide) (sym (low_rest v (cell a (suc place)) p x longer) ∙ low_rest w (cell b (suc place)) p y longer)))

  past_first : is_wide p.high ≡ false → (past_word p.high (place, skip)).0 < length a → (past_word p.high (place, skip)).0 < length b → TieUpTo (past_word p.high (place, skip)).0 (past_word p.high (place, skip)).1 a b
  past_first narrow in_a in_b =
      let back = not_back p.high (place, skip) in
      word_past place skip a b (omega (arith, in_a, back)) (omega (arith, in_b, back)) tie p.high (first_word place skip a p x) (first_word place skip b p y) narrow

  there : (h l : Bool) → is_wide p.high ≡ h → is_wide p.low ≡ l → (go_past (h || l) p (place, skip)).0 < length a → (go_past (h || l) p (place, skip)).0 < length b → TieUpTo (go_past (h || l) p (place, skip)).0 (go_past (h || l) p (place, skip)).1 a b
  there true l high low in_a in_b = past_number high in_a in_b
  there false true high low in_a in_b = past_first high in_a in_b
  there false false high low in_a in_b =
      let next : Place = past_word p.high (place, skip) in
      let back = not_back p.low next in
      let low_a : next.0 < length a = omega (arith, in_a, back) in
      let low_b : next.0 < length b = omega (arith, in_b, back) in
      word_past next.0 next.1 a b low_a low_b (past_first high low_a low_b) p.low (low_word place skip a p x high) (low_word place skip b p y high) low

  pub past_prefix : (past p (place, skip)).0 < length a → (past p (place, skip)).0 < length b → TieUpTo (past p (place, skip)).0 (past p (place, skip)).1 a b
  past_prefix in_a in_b = there (is_wide p.high) (is_wide p.low) refl refl in_a in_b
