-- Words and their overflow.
use Rattle.std.proofs.Common.{◌≡◌, ◌<◌, ◌≤◌, ◌+◌, ◌-◌, ◌*◌, ◌^◌, ◌++◌, ◌∷◌, ◌∙◌, ◌-ℤ◌, [], ℕ, Bool, true, false, List, All, length, map, pos, drop, get_or, refl, sym, ap, arith}
use Rattle.std.specs.Prelude.{cond, nat_lt, slice_index_or}
use Rattle.std.proofs.lemmas.Bool.Decides.{nat_tests}
use Rattle.std.proofs.lemmas.List.{get_or_append_left, get_or_past, length-append, map-append}
use Rattle.std.proofs.lemmas.List.Elements.{All-append, All-drop, All-head, All-push, All-tail, All-take}
use Rattle.std.proofs.Math.Seq.{get_or-append_seam}
use Rattle.gq_row.specs.declared.value.Value.{Value}
use Rattle.gq_row.specs.declared.value.Value.TheVariants.{Int, Null, Text}
use Rattle.gq_cells.specs.declared.rows.Span.{Span}
use Rattle.gq_cells.specs.Lists.{part, row_at}
use Rattle.gq_cells.specs.Words.{AreWords, HasText, IsWord, text_in, word_value}
use Rattle.gq_cells.proofs.RowsLemmas.{part_map}

-- what is appended to the overflow changes no value of a word
kept_index : (overflow more : List Value) (word : ℕ) → length (overflow ++ more) < 2 ^ 62 → IsWord (length overflow) word → 2 ^ 63 ≤ word → word < 3 * 2 ^ 62
    → slice_index_or (overflow ++ more) (word - 2 ^ 63) Null ≡ slice_index_or overflow (word - 2 ^ 63) Null
kept_index overflow more word few is large index = by_test (nat_lt (word + 1) (3 * 2 ^ 62)) refl
  where
    by_test : (b : Bool) → nat_lt (word + 1) (3 * 2 ^ 62) ≡ b → slice_index_or (overflow ++ more) (word - 2 ^ 63) Null ≡ slice_index_or overflow (word - 2 ^ 63) Null
    by_test true test = get_or_append_left overflow more Null (word - 2 ^ 63) (is.within large (grind (arith, nat_tests)))
    by_test false test =
        let last : 3 * 2 ^ 62 ≤ word + 1 = grind (arith, nat_tests) in
        let all = length-append overflow more in
        get_or_past (overflow ++ more) (word - 2 ^ 63) Null (omega (arith, last, few)) ∙ sym (get_or_past overflow (word - 2 ^ 63) Null (omega (arith, last, few, all)))

kept_word : (overflow more : List Value) (word : ℕ) → length (overflow ++ more) < 2 ^ 62 → IsWord (length overflow) word → word_value (overflow ++ more) word ≡ word_value overflow word
kept_word overflow more word few is =
    by_tests (nat_lt word (2 ^ 63)) (nat_lt word (3 * 2 ^ 62)) (λ large index. kept_index overflow more word few is (grind (arith, nat_tests)) (grind (arith, nat_tests)))
  where
    by_tests : (b c : Bool) → (b ≡ false → c ≡ true → slice_index_or (overflow ++ more) (word - 2 ^ 63) Null ≡ slice_index_or overflow (word - 2 ^ 63) Null)
        → cond b (Int (pos word -ℤ pos (2 ^ 62))) (cond c (slice_index_or (overflow ++ more) (word - 2 ^ 63) Null) (Text (text_in word)))
        ≡ cond b (Int (pos word -ℤ pos (2 ^ 62))) (cond c (slice_index_or overflow (word - 2 ^ 63) Null) (Text (text_in word)))
    by_tests true c same = refl
    by_tests false true same = same refl refl
    by_tests false false same = refl

pub kept_words : (overflow more : List Value) (words : List ℕ) → length (overflow ++ more) < 2 ^ 62 → All (IsWord (length overflow)) words → map (word_value (overflow ++ more)) words ≡ map (word_value overflow) words
kept_words overflow more [] few all = refl
kept_words overflow more (word ∷ words) few all = λ i.
    kept_word overflow more word few (All-head (IsWord (length overflow)) word words all) i ∷ kept_words overflow more words few (All-tail (IsWord (length overflow)) word words all) i

-- words remain words if places are added
pub places_added : (m n : ℕ) (words : List ℕ) → m ≤ n → All (IsWord m) words → All (IsWord n) words
places_added m n words more all = λ k d lt.
    let word = get_or words k d in
    let is = all k d lt in
    record {
      within = λ low high. let there : word - 2 ^ 63 < m = is.within low high in omega (arith, there, more);
      utf8 = is.utf8;
    }

-- ---- a word that is an index of the last place

-- the value of that word
last_word : (overflow : List Value) (value : Value) (word : ℕ) → length overflow < 2 ^ 62 → word ≡ 2 ^ 63 + length overflow → word_value (overflow ++ value ∷ []) word ≡ value
last_word overflow value word few is =
    let large : nat_lt word (2 ^ 63) ≡ false = grind (arith, nat_tests) in
    let index : nat_lt word (3 * 2 ^ 62) ≡ true = grind (arith, nat_tests) in
    let place : word - 2 ^ 63 ≡ length overflow = omega (arith, is) in
    (λ i. cond (large i) (Int (pos word -ℤ pos (2 ^ 62))) (cond (index i) (slice_index_or (overflow ++ value ∷ []) (place i) Null) (Text (text_in word)))) ∙ get_or-append_seam overflow value [] Null

pub word_pushed : (overflow : List Value) (value : Value) (words : List ℕ) (word : ℕ) → length overflow + 1 < 2 ^ 62 → word ≡ 2 ^ 63 + length overflow → All (IsWord (length overflow)) words
    → map (word_value (overflow ++ value ∷ [])) (words ++ word ∷ []) ≡ map (word_value overflow) words ++ value ∷ []
word_pushed overflow value words word few is all =
    let one = length-append overflow (value ∷ []) in
    map-append (word_value (overflow ++ value ∷ [])) words (word ∷ [])
    ∙ (λ i. kept_words overflow (value ∷ []) words (omega (arith, few, one)) all i ++ last_word overflow value word (omega (arith, few)) is i ∷ [])

pub words_with : (overflow : List Value) (value : Value) (words : List ℕ) (word : ℕ) → length overflow + 1 < 2 ^ 62 → word ≡ 2 ^ 63 + length overflow → All (IsWord (length overflow)) words
    → AreWords (length (overflow ++ value ∷ [])) (words ++ word ∷ [])
words_with overflow value words word few is all =
    let one = length-append overflow (value ∷ []) in
    record {
      all =
          All-push (IsWord (length (overflow ++ value ∷ []))) words word
          (places_added (length overflow) (length (overflow ++ value ∷ [])) words (omega (arith, one)) all)
          (record {
            within = λ low high. omega (arith, is, one);
            utf8 = λ text. absurd (omega (arith, is, few, text));
          });
      few = omega (arith, few, one);
    }

-- ---- a word without a place

pub own_pushed : (overflow : List Value) (words : List ℕ) (word : ℕ) → length overflow < 2 ^ 62 → IsWord 0 word
    → map (word_value overflow) (words ++ word ∷ []) ≡ map (word_value overflow) words ++ word_value [] word ∷ []
own_pushed overflow words word few is = map-append (word_value overflow) words (word ∷ []) ∙ (λ i. map (word_value overflow) words ++ kept_word [] overflow word few is i ∷ [])

-- it is a word with an overflow of any length
own_word : (places word : ℕ) → IsWord 0 word → IsWord places word
own_word places word is = record {
  within = λ low high. let there : word - 2 ^ 63 < 0 = is.within low high in absurd (omega (arith, there));
  utf8 = is.utf8;
}

pub own_with : (places : ℕ) (words : List ℕ) (word : ℕ) → IsWord 0 word → AreWords places words → AreWords places (words ++ word ∷ [])
own_with places words word is all = record {
  all = All-push (IsWord places) words word all.all (own_word places word is);
  few = all.few;
}

-- words without places after others
pub words_appended : (overflow none : List Value) (words more : List ℕ) → length none ≡ 0 → AreWords (length overflow) words → AreWords (length none) more
    → (AreWords (length overflow) (words ++ more)) × (map (word_value overflow) (words ++ more) ≡ map (word_value overflow) words ++ map (word_value none) more)
words_appended overflow (value ∷ none) words more empty all others = absurd (omega (arith, empty))
words_appended overflow [] words more empty all others = (
  record {
    all = All-append (IsWord (length overflow)) words more all.all (λ k d lt. own_word (length overflow) (get_or more k d) (others.all k d lt));
    few = all.few;
  },
  map-append (word_value overflow) words more ∙ (λ i. map (word_value overflow) words ++ kept_words [] overflow more all.few others.all i),
)

-- the values of a part of the words
pub words_at : (overflow : List Value) (words : List ℕ) (all : List Value) (s : Span) → map (word_value overflow) words ≡ all → map (word_value overflow) (part words s.start s.end) ≡ row_at all s
words_at overflow words all s is = sym (part_map (word_value overflow) words s.start s.end) ∙ ap (λ cells. row_at cells s) is

-- the texts of a part of the words
pub utf8_at : (places : ℕ) (words : List ℕ) (s : Span) → All (IsWord places) words → All HasText (part words s.start s.end)
utf8_at places words s all =
    All-take HasText (s.end - s.start) (drop s.start words) (All-drop HasText s.start words (λ k d lt. (all k d lt).utf8))
