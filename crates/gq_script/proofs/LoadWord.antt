-- The first word load, byte by byte.
use Rattle.std.proofs.Common.{◌≡◌, ℕ, suc, ◌+◌, Bool, true, false, cond, eqb, [], ◌∷◌, take, refl, sym, ap, ◌∙◌, arith}
use Rattle.std.proofs.lemmas.Bool.Decides.{nat_tests}
use Rattle.std.specs.Prelude.{◌&&◌, codes}
use Rattle.std.specs.Char.{to_ascii_lowercase}
use Rattle.std.specs.List.{prefix_len}
use Rattle.std.specs.Str.{bytes_eq}
use Rattle.gq_token.specs.Texts.{Bytes}
use Rattle.gq_token.specs.Lexing.{is_blank, is_word_byte, starts_word, skip_blanks, lower}
use Rattle.gq_token.proofs.Trimmed.{blank_first, no_blank_first}
use Rattle.gq_script.specs.declared.first_word.FirstWord.{FirstWord}
use Rattle.gq_script.specs.declared.first_word.FirstWord.TheVariants as first
use Rattle.gq_script.specs.FirstWords.{letter, word_of, is_load}

both_true : (a b : Bool) → a && b ≡ true → (a ≡ true) × (b ≡ true)
both_true true b h = (refl, h)
both_true false b h = absurd cc

other_stays : (bs : Bytes) → word_of first.Other bs ≡ first.Other
other_stays [] = refl
other_stays (b ∷ bs) = other_stays bs

ended_stays : (bs : Bytes) → word_of first.Ended bs ≡ first.Ended
ended_stays [] = refl
ended_stays (b ∷ bs) = ended_stays bs

-- the first word
abbrev front : Bytes → Bytes
front bs = lower (take (prefix_len is_word_byte bs) bs)

more : (b : ℕ) (bs : Bytes) → is_word_byte b ≡ true → front (b ∷ bs) ≡ to_ascii_lowercase b ∷ front bs
more b bs e =
    let k : 1 + prefix_len is_word_byte bs ≡ suc (prefix_len is_word_byte bs) = omega arith in
    ap (λ (v : Bool). lower (take (cond v (1 + prefix_len is_word_byte bs) 0) (b ∷ bs))) e ∙ ap (λ (n : ℕ). lower (take n (b ∷ bs))) k

no_more : (b : ℕ) (bs : Bytes) → is_word_byte b ≡ false → front (b ∷ bs) ≡ []
no_more b bs e = ap (λ (v : Bool). lower (take (cond v (1 + prefix_len is_word_byte bs) 0) (b ∷ bs))) e

lower_l : (b : ℕ) → eqb (to_ascii_lowercase b) 108 ≡ letter 108 76 b
lower_l b = grind (arith, nat_tests)

lower_o : (b : ℕ) → eqb (to_ascii_lowercase b) 111 ≡ letter 111 79 b
lower_o b = grind (arith, nat_tests)

lower_a : (b : ℕ) → eqb (to_ascii_lowercase b) 97 ≡ letter 97 65 b
lower_a b = grind (arith, nat_tests)

lower_d : (b : ℕ) → eqb (to_ascii_lowercase b) 100 ≡ letter 100 68 b
lower_d b = grind (arith, nat_tests)

word_l : (b : ℕ) → letter 108 76 b ≡ true → is_word_byte b ≡ true
word_l b h = grind (arith, nat_tests)

word_o : (b : ℕ) → letter 111 79 b ≡ true → is_word_byte b ≡ true
word_o b h = grind (arith, nat_tests)

word_a : (b : ℕ) → letter 97 65 b ≡ true → is_word_byte b ≡ true
word_a b h = grind (arith, nat_tests)

word_d : (b : ℕ) → letter 100 68 b ≡ true → is_word_byte b ≡ true
word_d b h = grind (arith, nat_tests)

-- a letter of the word: what follows it decides, or the word is another
letter_next : (b : ℕ) (bs : Bytes) (k : ℕ) (ks : Bytes) (test : Bool) (next : FirstWord) → eqb (to_ascii_lowercase b) k ≡ test → (test ≡ true → is_word_byte b ≡ true) → is_load (word_of next bs) ≡ bytes_eq (front bs) ks
    → is_load (word_of (cond test next first.Other) bs) ≡ bytes_eq (front (b ∷ bs)) (k ∷ ks)
letter_next b bs k ks true next e word others = others ∙ ap (λ (v : Bool). v && bytes_eq (front bs) ks) (sym e) ∙ ap (λ (l : Bytes). bytes_eq l (k ∷ ks)) (sym (more b bs (word refl)))
letter_next b bs k ks false next e word others = by_word (is_word_byte b) refl
  where
    none : is_load (word_of first.Other bs) ≡ false
    none = ap is_load (other_stays bs)

    by_word : (v : Bool) → is_word_byte b ≡ v → is_load (word_of first.Other bs) ≡ bytes_eq (front (b ∷ bs)) (k ∷ ks)
    by_word true f = none ∙ ap (λ (v : Bool). v && bytes_eq (front bs) ks) (sym e) ∙ ap (λ (l : Bytes). bytes_eq l (k ∷ ks)) (sym (more b bs f))
    by_word false f = none ∙ ap (λ (l : Bytes). bytes_eq l (k ∷ ks)) (sym (no_more b bs f))

at_load : (bs : Bytes) → is_load (word_of first.Load bs) ≡ bytes_eq (front bs) []
at_load [] = refl
at_load (b ∷ bs) = by_word (is_word_byte b) refl
  where
    by_word : (v : Bool) → is_word_byte b ≡ v → is_load (word_of first.Load (b ∷ bs)) ≡ bytes_eq (front (b ∷ bs)) []
    by_word true f = ap (λ (v : Bool). is_load (word_of (cond v first.Other first.Ended) bs)) f ∙ ap is_load (other_stays bs) ∙ ap (λ (l : Bytes). bytes_eq l []) (sym (more b bs f))
    by_word false f = ap (λ (v : Bool). is_load (word_of (cond v first.Other first.Ended) bs)) f ∙ ap is_load (ended_stays bs) ∙ ap (λ (l : Bytes). bytes_eq l []) (sym (no_more b bs f))

at_loa : (bs : Bytes) → is_load (word_of first.Loa bs) ≡ bytes_eq (front bs) (codes "d")
at_loa [] = refl
at_loa (b ∷ bs) = letter_next b bs 100 [] (letter 100 68 b) first.Load (lower_d b) (word_d b) (at_load bs)

at_lo : (bs : Bytes) → is_load (word_of first.Lo bs) ≡ bytes_eq (front bs) (codes "ad")
at_lo [] = refl
at_lo (b ∷ bs) = letter_next b bs 97 (codes "d") (letter 97 65 b) first.Loa (lower_a b) (word_a b) (at_loa bs)

at_l : (bs : Bytes) → is_load (word_of first.L bs) ≡ bytes_eq (front bs) (codes "oad")
at_l [] = refl
at_l (b ∷ bs) = letter_next b bs 111 (codes "ad") (letter 111 79 b) first.Lo (lower_o b) (word_o b) (at_lo bs)

pub word_tells : (bs : Bytes) → is_load (word_of first.Blank bs) ≡ bytes_eq (front (skip_blanks bs)) (codes "load")
word_tells [] = refl
word_tells (b ∷ bs) = by_blank (is_blank b) refl (word_tells bs)
  where
    by_blank : (v : Bool) → is_blank b ≡ v → is_load (word_of first.Blank bs) ≡ bytes_eq (front (skip_blanks bs)) (codes "load") → is_load (word_of first.Blank (b ∷ bs)) ≡ bytes_eq (front (skip_blanks (b ∷ bs))) (codes "load")
    by_blank true e next =
        ap (λ (v : Bool). is_load (word_of (cond v first.Blank (cond (letter 108 76 b) first.L first.Other)) bs)) e ∙ next ∙ ap (λ (l : Bytes). bytes_eq (front l) (codes "load")) (sym (blank_first b bs e))
    by_blank false e next =
        ap (λ (v : Bool). is_load (word_of (cond v first.Blank (cond (letter 108 76 b) first.L first.Other)) bs)) e
        ∙ letter_next b bs 108 (codes "oad") (letter 108 76 b) first.L (lower_l b) (word_l b) (at_l bs)
        ∙ ap (λ (l : Bytes). bytes_eq (front l) (codes "load")) (sym (no_blank_first b bs e))

l_starts : (b : ℕ) → letter 108 76 b ≡ true → starts_word b ≡ true
l_starts b h = grind (arith, nat_tests)

-- what begins with the word

pub begins_load : (line : Bytes) → bytes_eq (front (skip_blanks line)) (codes "load") ≡ true → (b : ℕ) × (bs : Bytes) × (skip_blanks line ≡ b ∷ bs) × (starts_word b ≡ true)
begins_load line h = by_bytes (skip_blanks line) h refl
  where
    by_word : (b : ℕ) (bs : Bytes) (t : Bool) → is_word_byte b ≡ t → bytes_eq (front (b ∷ bs)) (codes "load") ≡ true → starts_word b ≡ true
    by_word b bs true e h =
        let first = both_true (eqb (to_ascii_lowercase b) 108) (bytes_eq (front bs) (codes "oad")) (sym (ap (λ (l : Bytes). bytes_eq l (codes "load")) (more b bs e)) ∙ h) in
        l_starts b (sym (lower_l b) ∙ first.0)
    by_word b bs false e h = let g : false ≡ true = sym (ap (λ (l : Bytes). bytes_eq l (codes "load")) (no_more b bs e)) ∙ h in absurd cc

    by_bytes : (l : Bytes) → bytes_eq (front l) (codes "load") ≡ true → skip_blanks line ≡ l → (b : ℕ) × (bs : Bytes) × (skip_blanks line ≡ b ∷ bs) × (starts_word b ≡ true)
    by_bytes [] h e = absurd cc
    by_bytes (b ∷ bs) h e = (b, bs, e, by_word b bs (is_word_byte b) refl h)
