-- No piece is longer than the one that is taken, and no fuel runs out.
use Rattle.std.proofs.Common.{◌≡◌, ℕ, ℤ, zero, suc, ◌+◌, ◌<◌, ◌≤◌, Bool, true, false, cond, eqb, List, [], ◌∷◌, ◌++◌, length, take, drop, Option, Some, None, refl, sym, ap, subst, ◌∙◌, arith, append_assoc, length-append, length-drop, ⊎_elim, eq-eqb}
use Rattle.std.proofs.lemmas.Bool.{eqb-true}
use Rattle.std.proofs.lemmas.Bool.Decides.{nat_tests}
use Rattle.std.proofs.lemmas.Slice.Eq.{bytes_eq-Decides}
use Rattle.std.proofs.Math.Seq.{take-append_seam, drop-append_seam}
use Rattle.std.proofs.Math.Dec.{eqb-suc-zero}
use Rattle.std.specs.Prelude.{◌&&◌, ◌||◌, codes}
use Rattle.std.specs.Char.{is_ascii_digit}
use Rattle.std.specs.List.{prefix_len, list_all}
use Rattle.std.specs.Str.{bytes_eq, all_ascii_digits}
use Rattle.std.specs.Str.Parse.{digits_value}
use Rattle.gq_token.specs.declared.token.Terminal.{Terminal}
use Rattle.gq_token.specs.declared.token.Terminal.TheVariants as terminal
use Rattle.gq_token.specs.declared.token.Token.{Token}
use Rattle.gq_token.specs.declared.token.Token.TheVariants.{Fixed, Name, Number, Text}
use Rattle.gq_token.specs.Texts.{Bytes, some}
use Rattle.gq_token.specs.Results.{◌>>=◌}
use Rattle.gq_token.specs.Lexing.{is_blank, starts_word, is_word_byte, lookup_word, word, signed, begins, quoted, with_byte, digits_at, sign_at, word_at, name_in_quotes, text_in_quotes, token_at, tokens_within, lexed, skip_blanks}
use Rattle.gq_token.specs.Spelling.{signs, is_word, doubled, in_quotes, IsInt, Spells, Longest, Unspelled, TakesLongest, CutsAll}
use Rattle.gq_token.proofs.Spelled.{token_sound, pick, digits_in}

-- a token has a byte
filled : (piece rest : Bytes) (t : Token) → Spells piece rest t → 0 < length piece
filled (b ∷ piece) rest t h = omega arith
filled [] rest (Fixed t) h = absurd (⊎_elim (λ x. let y : false ≡ true = x.0 in cc) (λ x. let y : ◌≡◌ {A = Option Terminal} None (Some t) = x in cc) h)
filled [] rest (Name n) h = absurd (⊎_elim (λ x. let y : false ≡ true = x.0 in cc) (λ x. let y : [] ≡ in_quotes 34 n = x.0 in cc) h)
filled [] rest (Text s) h = absurd (let y : [] ≡ in_quotes 39 s = h.0 in cc)
filled [] rest (Number z) h = absurd (⊎_elim (λ x. let y : false ≡ true = ap some x.0 ∙ h.0.filled in cc) (⊎_elim (λ x. let y : [] ≡ 43 ∷ h.0.digits = x.0 in cc) (λ x. let y : [] ≡ 45 ∷ h.0.digits = x.0 in cc)) h.0.sign)

pub shorter : (bs : Bytes) (t : Token) (rest : Bytes) → token_at bs ≡ Some (t, rest) → length rest < length bs
shorter bs t rest e =
    let f = token_sound bs t rest e in
    let some = filled f.0 rest t f.2 in
    omega (arith, ap length f.1, length-append f.0 rest, some)

blanks_shorter : (bs : Bytes) → length (skip_blanks bs) ≤ length bs
blanks_shorter bs = omega (arith, length-drop (prefix_len is_blank bs) bs)

-- any fuel that is no less than the bytes gives the same
pub enough : (n m : ℕ) (bs : Bytes) → length bs ≤ n → length bs ≤ m → tokens_within n bs ≡ tokens_within m bs
unfolding tokens_within
enough zero zero [] h k = refl
enough zero (suc m) [] h k = refl
enough (suc n) zero [] h k = refl
enough (suc n) (suc m) [] h k = refl
enough zero m (b ∷ bs) h k = absurd (omega arith)
enough (suc n) zero (b ∷ bs) h k = absurd (omega arith)
enough (suc n) (suc m) (b ∷ bs) h k = by_token (token_at (b ∷ bs)) refl (enough n m)
  where
    by_token : (o : Option (Token × Bytes)) → token_at (b ∷ bs) ≡ o → ((l : Bytes) → length l ≤ n → length l ≤ m → tokens_within n l ≡ tokens_within m l)
        → (o >>= λ first. tokens_within n (skip_blanks first.1) >>= λ others. Some (first.0 ∷ others)) ≡ (o >>= λ first. tokens_within m (skip_blanks first.1) >>= λ others. Some (first.0 ∷ others))
    by_token None e same = refl
    by_token (Some x) e same =
        let lt = shorter (b ∷ bs) x.0 x.1 e in
        let le = blanks_shorter x.1 in
        ap (λ (o : Option (List Token)). o >>= λ others. Some (x.0 ∷ others)) (same (skip_blanks x.1) (omega arith) (omega arith))

pub cuts_all : CutsAll
unfolding lexed tokens_within
cuts_all bs = by_blanks (skip_blanks bs) (blanks_shorter bs)
  where
    Rest : Bytes → Option (List Token)
    Rest l = elim l [ [] ↦ Some [] | b ∷ rest ↦ (token_at (b ∷ rest) >>= λ first. lexed first.1 >>= λ others. Some (first.0 ∷ others)) ]

    by_token : (n : ℕ) (b : ℕ) (l : Bytes) (o : Option (Token × Bytes)) → token_at (b ∷ l) ≡ o → length l ≤ n
        → (o >>= λ first. tokens_within n (skip_blanks first.1) >>= λ others. Some (first.0 ∷ others)) ≡ (o >>= λ first. lexed first.1 >>= λ others. Some (first.0 ∷ others))
    by_token n b l None e h = refl
    by_token n b l (Some x) e h =
        let lt = shorter (b ∷ l) x.0 x.1 e in
        let le = blanks_shorter x.1 in
        ap (λ (o : Option (List Token)). o >>= λ others. Some (x.0 ∷ others)) (enough n (length x.1) (skip_blanks x.1) (omega arith) (omega arith))

    fueled : (n : ℕ) (b : ℕ) (l : Bytes) → length (b ∷ l) ≤ n → tokens_within n (b ∷ l) ≡ (token_at (b ∷ l) >>= λ first. lexed first.1 >>= λ others. Some (first.0 ∷ others))
    fueled zero b l h = absurd (omega arith)
    fueled (suc n) b l h = by_token n b l (token_at (b ∷ l)) refl (omega arith)

    by_blanks : (l : Bytes) → length l ≤ length bs → tokens_within (length bs) l ≡ elim l [ [] ↦ Some [] | b ∷ rest ↦ (token_at (b ∷ rest) >>= λ first. lexed first.1 >>= λ others. Some (first.0 ∷ others)) ]
    by_blanks [] h = none (length bs)
      where
        none : (n : ℕ) → tokens_within n [] ≡ Some []
        none zero = refl
        none (suc n) = refl
    by_blanks (b ∷ l) h = fueled (length bs) b l h

-- the token taken leaves no more than r
abbrev Reaches : Bytes → Bytes → Type 0
Reaches bs r = (t : Token) × (rest : Bytes) × (token_at bs ≡ Some (t, rest)) × (length rest ≤ length r)

both : (v w : Bool) → v && w ≡ true → (v ≡ true) × (w ≡ true)
both true w h = (refl, h)
both false w h = absurd cc

neither : (v w : Bool) → v || w ≡ false → (v ≡ false) × (w ≡ false)
neither true w h = absurd cc
neither false w h = (refl, h)

first_of_prefix : (p : ℕ → Bool) (b : ℕ) (bs : Bytes) → p b ≡ true → prefix_len p (b ∷ bs) ≡ prefix_len p bs + 1
first_of_prefix p b bs e =
    let k : 1 + prefix_len p bs ≡ prefix_len p bs + 1 = omega arith in
    ap (λ (v : Bool). cond v (1 + prefix_len p bs) 0) e ∙ k

prefix_at_least : (p : ℕ → Bool) (xs r : Bytes) → list_all p xs ≡ true → length xs ≤ prefix_len p (xs ++ r)
prefix_at_least p [] r h = omega arith
prefix_at_least p (x ∷ xs) r h =
    let t = both (p x) (list_all p xs) h in
    omega (arith, first_of_prefix p x (xs ++ r) t.0, prefix_at_least p xs r t.1)

prefix_exactly : (p : ℕ → Bool) (xs r : Bytes) → list_all p xs ≡ true → begins p r ≡ false → prefix_len p (xs ++ r) ≡ length xs
prefix_exactly p [] [] h e = refl
prefix_exactly p [] (c ∷ r) h e = ap (λ (v : Bool). cond v (1 + prefix_len p r) 0) e
prefix_exactly p (x ∷ xs) r h e =
    let t = both (p x) (list_all p xs) h in
    omega (arith, first_of_prefix p x (xs ++ r) t.0, prefix_exactly p xs r t.1 e)

word_reaches : (piece r : Bytes) → is_word piece ≡ true → Reaches (piece ++ r) r
unfolding token_at word_at
word_reaches [] r h = absurd cc
word_reaches (b ∷ ps) r h =
    let t = both (starts_word b) (list_all is_word_byte ps) h in
    let bs : Bytes = b ∷ (ps ++ r) in
    let n = prefix_len is_word_byte bs in
    let e : token_at bs ≡ Some (word (take n bs), drop n bs) = ap (λ (v : Bool). cond v (Some (word (take n bs), drop n bs)) (cond (is_ascii_digit b) (digits_at false bs) (cond (eqb b 43) (digits_at false (ps ++ r)) (cond (eqb b 45) (digits_at true (ps ++ r)) (cond (eqb b 34) (name_in_quotes (ps ++ r)) (cond (eqb b 39) (text_in_quotes (ps ++ r)) (sign_at bs))))))) t.0 in
    let is : is_word_byte b ≡ true = ap (λ (v : Bool). v || is_ascii_digit b) t.0 in
    let ge = prefix_at_least is_word_byte ps r t.1 in
    let le : length (drop n bs) ≤ length r = omega (arith, length-drop n bs, first_of_prefix is_word_byte b (ps ++ r) is, ge, length-append ps r) in
    (word (take n bs), drop n bs, e, le)

less_reaches : (r : Bytes) → Reaches (60 ∷ r) r
unfolding token_at sign_at
less_reaches [] = (Fixed terminal.Less, [], refl, omega arith)
less_reaches (c ∷ r) = by_more (eqb c 62) refl
  where
    by_equal : (v : Bool) → eqb c 61 ≡ v → eqb c 62 ≡ false → Reaches (60 ∷ c ∷ r) (c ∷ r)
    by_equal true e n = (Fixed terminal.LessEqual, r, rw (n, e) refl, omega arith)
    by_equal false e n = (Fixed terminal.Less, c ∷ r, rw (n, e) refl, omega arith)

    by_more : (v : Bool) → eqb c 62 ≡ v → Reaches (60 ∷ c ∷ r) (c ∷ r)
    by_more true e = (Fixed terminal.NotEqual, r, rw e refl, omega arith)
    by_more false e = by_equal (eqb c 61) refl e

greater_reaches : (r : Bytes) → Reaches (62 ∷ r) r
unfolding token_at sign_at
greater_reaches [] = (Fixed terminal.Greater, [], refl, omega arith)
greater_reaches (c ∷ r) = by_equal (eqb c 61) refl
  where
    by_equal : (v : Bool) → eqb c 61 ≡ v → Reaches (62 ∷ c ∷ r) (c ∷ r)
    by_equal true e = (Fixed terminal.GreaterEqual, r, rw e refl, omega arith)
    by_equal false e = (Fixed terminal.Greater, c ∷ r, rw e refl, omega arith)

sign_reaches : (p r : Bytes) (t : Terminal) → lookup_word signs p ≡ Some t → Reaches (p ++ r) r
unfolding token_at sign_at
sign_reaches p r t e =
    let O : Type 0 = Option Terminal in
    let w : O = Some t in
    let a10 : O = cond (bytes_eq p (codes ">=")) (Some terminal.GreaterEqual) None in
    let a9 : O = cond (bytes_eq p (codes ">")) (Some terminal.Greater) a10 in
    let a8 : O = cond (bytes_eq p (codes "<=")) (Some terminal.LessEqual) a9 in
    let a7 : O = cond (bytes_eq p (codes "<")) (Some terminal.Less) a8 in
    let a6 : O = cond (bytes_eq p (codes "<>")) (Some terminal.NotEqual) a7 in
    let a5 : O = cond (bytes_eq p (codes "=")) (Some terminal.Equal) a6 in
    let a4 : O = cond (bytes_eq p (codes "*")) (Some terminal.Star) a5 in
    let a3 : O = cond (bytes_eq p (codes ",")) (Some terminal.Comma) a4 in
    let a2 : O = cond (bytes_eq p (codes ")")) (Some terminal.Close) a3 in
    let is : (q : Bytes) → Reaches (q ++ r) r → bytes_eq p q ≡ true → Reaches (p ++ r) r = λ q h v. subst (λ (l : Bytes). Reaches (l ++ r) r) (sym ((bytes_eq-Decides p q).0 v)) h in
    pick (bytes_eq p (codes "(")) (Some terminal.Open) a2 w e (λ v f. is (codes "(") (Fixed terminal.Open, r, refl, omega arith) v) (λ n1 e1.
    pick (bytes_eq p (codes ")")) (Some terminal.Close) a3 w e1 (λ v f. is (codes ")") (Fixed terminal.Close, r, refl, omega arith) v) (λ n2 e2.
    pick (bytes_eq p (codes ",")) (Some terminal.Comma) a4 w e2 (λ v f. is (codes ",") (Fixed terminal.Comma, r, refl, omega arith) v) (λ n3 e3.
    pick (bytes_eq p (codes "*")) (Some terminal.Star) a5 w e3 (λ v f. is (codes "*") (Fixed terminal.Star, r, refl, omega arith) v) (λ n4 e4.
    pick (bytes_eq p (codes "=")) (Some terminal.Equal) a6 w e4 (λ v f. is (codes "=") (Fixed terminal.Equal, r, refl, omega arith) v) (λ n5 e5.
    pick (bytes_eq p (codes "<>")) (Some terminal.NotEqual) a7 w e5 (λ v f. is (codes "<>") (Fixed terminal.NotEqual, r, refl, omega arith) v) (λ n6 e6.
    pick (bytes_eq p (codes "<")) (Some terminal.Less) a8 w e6 (λ v f. is (codes "<") (less_reaches r) v) (λ n7 e7.
    pick (bytes_eq p (codes "<=")) (Some terminal.LessEqual) a9 w e7 (λ v f. is (codes "<=") (Fixed terminal.LessEqual, r, refl, omega arith) v) (λ n8 e8.
    pick (bytes_eq p (codes ">")) (Some terminal.Greater) a10 w e8 (λ v f. is (codes ">") (greater_reaches r) v) (λ n9 e9.
    pick (bytes_eq p (codes ">=")) (Some terminal.GreaterEqual) None w e9 (λ v f. is (codes ">=") (Fixed terminal.GreaterEqual, r, refl, omega arith) v) (λ n f. absurd (let g : None ≡ w = f in cc)))))))))))

no_digit : (r : Bytes) → begins is_word_byte r ≡ false → begins is_ascii_digit r ≡ false
no_digit [] h = refl
no_digit (c ∷ r) h = (neither (starts_word c) (is_ascii_digit c) h).1

digits_again : (negative : Bool) (ds r : Bytes) (z : ℤ) → some ds ≡ true → all_ascii_digits ds ≡ true → begins is_word_byte r ≡ false → signed negative (digits_value 10 ds) ≡ Some z → digits_at negative (ds ++ r) ≡ Some (Number z, r)
unfolding digits_at
digits_again negative [] r z filled all ends value = absurd cc
digits_again negative (d ∷ ds) r z filled all ends value =
    let bs : Bytes = (d ∷ ds) ++ r in
    let n : prefix_len is_ascii_digit bs ≡ length (d ∷ ds) = prefix_exactly is_ascii_digit (d ∷ ds) r (sym (digits_in (d ∷ ds)) ∙ all) (no_digit r ends) in
    let f : ℕ → Bytes → Bytes → Option (Token × Bytes) = λ n front back. cond (eqb n 0 || begins is_word_byte back) None (signed negative (digits_value 10 front) >>= λ z. Some (Number z, back)) in
    let g : Bool → Bool → Option ℤ → Option (Token × Bytes) = λ v w o. cond (v || w) None (o >>= λ z. Some (Number z, r)) in
    ap (λ (k : ℕ). f k (take k bs) (drop k bs)) n
    ∙ ap (λ (front : Bytes). f (length (d ∷ ds)) front (drop (length (d ∷ ds)) bs)) (take-append_seam (d ∷ ds) r)
    ∙ ap (λ (back : Bytes). f (length (d ∷ ds)) (d ∷ ds) back) (drop-append_seam (d ∷ ds) r)
    ∙ ap (λ (v : Bool). g v (begins is_word_byte r) (signed negative (digits_value 10 (d ∷ ds)))) (eqb-suc-zero (length ds))
    ∙ ap (λ (v : Bool). g false v (signed negative (digits_value 10 (d ∷ ds)))) ends
    ∙ ap (λ (o : Option ℤ). g false false o) value

digit_no_letter : (b : ℕ) → is_ascii_digit b ≡ true → starts_word b ≡ false
digit_no_letter b h = grind (arith, nat_tests)

digit_first : (d : ℕ) (bs : Bytes) → is_ascii_digit d ≡ true → token_at (d ∷ bs) ≡ digits_at false (d ∷ bs)
unfolding token_at
digit_first d bs e =
    let others : Option (Token × Bytes) = cond (eqb d 43) (digits_at false bs) (cond (eqb d 45) (digits_at true bs) (cond (eqb d 34) (name_in_quotes bs) (cond (eqb d 39) (text_in_quotes bs) (sign_at (d ∷ bs))))) in
    ap (λ (v : Bool). cond v (word_at (d ∷ bs)) (cond (is_ascii_digit d) (digits_at false (d ∷ bs)) others)) (digit_no_letter d e)
    ∙ ap (λ (v : Bool). cond v (digits_at false (d ∷ bs)) others) e

plain_int : (ds r : Bytes) (z : ℤ) → some ds ≡ true → all_ascii_digits ds ≡ true → digits_at false (ds ++ r) ≡ Some (Number z, r) → Reaches (ds ++ r) r
plain_int [] r z filled all e = absurd cc
plain_int (d ∷ ds) r z filled all e = (Number z, r, digit_first d (ds ++ r) (both (is_ascii_digit d) (all_ascii_digits ds) all).0 ∙ e, omega arith)

int_reaches : (piece r : Bytes) (z : ℤ) → IsInt piece z → begins is_word_byte r ≡ false → Reaches (piece ++ r) r
unfolding token_at
int_reaches piece r z h ends =
    let again : (negative : Bool) → h.negative ≡ negative → digits_at negative (h.digits ++ r) ≡ Some (Number z, r) =
    λ negative e. digits_again negative h.digits r z h.filled h.all ends (ap (λ (v : Bool). signed v (digits_value 10 h.digits)) (sym e) ∙ h.value) in
    ⊎_elim
    (λ x. subst (λ (l : Bytes). Reaches (l ++ r) r) (sym x.0) (plain_int h.digits r z h.filled h.all (again false x.1)))
    (⊎_elim
    (λ x. subst (λ (l : Bytes). Reaches (l ++ r) r) (sym x.0) (Number z, r, again false x.1, omega arith))
    (λ x. subst (λ (l : Bytes). Reaches (l ++ r) r) (sym x.0) (Number z, r, again true x.1, omega arith)))
    h.sign

quoted_step : (q b : ℕ) (bs : Bytes) → 0 < length bs → eqb b q ≡ false → quoted q (b ∷ bs) ≡ with_byte b (quoted q bs)
quoted_step q b [] some e = absurd (omega arith)
quoted_step q b (c ∷ bs) some e = ap (λ (v : Bool). cond v (cond (eqb c q) (with_byte q (quoted q bs)) (Some ([], c ∷ bs))) (with_byte b (quoted q (c ∷ bs)))) e

quoted_end : (q : ℕ) (r : Bytes) → begins (λ c. eqb c q) r ≡ false → quoted q (q ∷ r) ≡ Some ([], r)
quoted_end q [] h = ap (λ (v : Bool). cond v (Some ([], [])) None) (eq-eqb q q refl)
quoted_end q (c ∷ r) h =
    ap (λ (v : Bool). cond v (cond (eqb c q) (with_byte q (quoted q r)) (Some ([], c ∷ r))) (with_byte q (quoted q (c ∷ r)))) (eq-eqb q q refl)
    ∙ ap (λ (v : Bool). cond v (with_byte q (quoted q r)) (Some ([], c ∷ r))) h

quoted_pair : (q : ℕ) (bs : Bytes) → quoted q (q ∷ q ∷ bs) ≡ with_byte q (quoted q bs)
quoted_pair q bs =
    ap (λ (v : Bool). cond v (cond (eqb q q) (with_byte q (quoted q bs)) (Some ([], q ∷ bs))) (with_byte q (quoted q (q ∷ bs)))) (eq-eqb q q refl)
    ∙ ap (λ (v : Bool). cond v (with_byte q (quoted q bs)) (Some ([], q ∷ bs))) (eq-eqb q q refl)

quoted_again : (q : ℕ) (s r : Bytes) → begins (λ c. eqb c q) r ≡ false → quoted q (doubled q s ++ (q ∷ r)) ≡ Some (s, r)
quoted_again q [] r h = quoted_end q r h
quoted_again q (b ∷ s) r h = by_quote (eqb b q) refl (quoted_again q s r h)
  where
    by_quote : (v : Bool) → eqb b q ≡ v → quoted q (doubled q s ++ (q ∷ r)) ≡ Some (s, r) → quoted q (doubled q (b ∷ s) ++ (q ∷ r)) ≡ Some (b ∷ s, r)
    by_quote true e next =
        ap (λ (v : Bool). quoted q (cond v (q ∷ q ∷ doubled q s) (b ∷ doubled q s) ++ (q ∷ r))) e ∙ quoted_pair q (doubled q s ++ (q ∷ r)) ∙ ap (with_byte q) next ∙ ap (λ (x : ℕ). Some (x ∷ s, r)) (sym (eqb-true b q e))
    by_quote false e next =
        let some : 0 < length (doubled q s ++ (q ∷ r)) = omega (arith, length-append (doubled q s) (q ∷ r)) in
        ap (λ (v : Bool). quoted q (cond v (q ∷ q ∷ doubled q s) (b ∷ doubled q s) ++ (q ∷ r))) e ∙ quoted_step q b (doubled q s ++ (q ∷ r)) some e ∙ ap (with_byte b) next

inner : (q : ℕ) (s r : Bytes) → begins (λ c. eqb c q) r ≡ false → quoted q ((doubled q s ++ q ∷ []) ++ r) ≡ Some (s, r)
inner q s r h = ap (quoted q) (append_assoc (doubled q s) (q ∷ []) r) ∙ quoted_again q s r h

text_reaches : (s r : Bytes) → begins (λ c. eqb c 39) r ≡ false → Reaches (in_quotes 39 s ++ r) r
unfolding token_at text_in_quotes
text_reaches s r h = (Text s, r, ap (λ (o : Option (Bytes × Bytes)). o >>= λ x. Some (Text x.0, x.1)) (inner 39 s r h), omega arith)

name_reaches : (n r : Bytes) → some n ≡ true → begins (λ c. eqb c 34) r ≡ false → Reaches (in_quotes 34 n ++ r) r
unfolding token_at name_in_quotes
name_reaches n r f h = (Name n, r, ap (λ (o : Option (Bytes × Bytes)). o >>= λ x. cond (some x.0) (Some (Name x.0, x.1)) None) (inner 34 n r h) ∙ ap (λ (v : Bool). cond v (Some (Name n, r)) None) f, omega arith)

pub reaches : (piece r : Bytes) (t : Token) → Spells piece r t → Reaches (piece ++ r) r
reaches piece r (Fixed t) h = ⊎_elim (λ x. word_reaches piece r x.0) (λ x. sign_reaches piece r t x) h
reaches piece r (Name n) h = ⊎_elim (λ x. word_reaches piece r x.0) (λ x. subst (λ (l : Bytes). Reaches (l ++ r) r) (sym x.0) (name_reaches n r x.1 x.2)) h
reaches piece r (Number z) h = int_reaches piece r z h.0 h.1
reaches piece r (Text s) h = subst (λ (l : Bytes). Reaches (l ++ r) r) (sym h.0) (text_reaches s r h.1)

no_longer : (bs : Bytes) (t : Token) (rest piece : Bytes) → token_at bs ≡ Some (t, rest) → bs ≡ piece ++ rest → (other behind : Bytes) (u : Token) → bs ≡ other ++ behind → Spells other behind u → length other ≤ length piece
no_longer bs t rest piece e cut other behind u is h =
    let x = reaches other behind u h in
    let same : ◌≡◌ {A = Option (Token × Bytes)} (Some (t, rest)) (Some (x.0, x.1)) = sym e ∙ ap token_at is ∙ x.2 in
    let rests : rest ≡ x.1 = ap (λ (o : Option (Token × Bytes)). elim o [ None ↦ [] | Some y ↦ y.1 ]) same in
    let one = ap length cut ∙ length-append piece rest in
    let two = ap length is ∙ length-append other behind in
    let le = x.3 in
    omega (arith, ap length rests, one, two, le)

abbrev Told : Bytes → Option (Token × Bytes) → Type 0
Told bs None = Unspelled bs
Told bs (Some x) = Longest bs x.0 x.1

pub takes_longest : TakesLongest
takes_longest bs = by_token (token_at bs) refl
  where
    by_token : (o : Option (Token × Bytes)) → token_at bs ≡ o → Told bs o
    by_token None e = λ other behind u is h.
        let x = reaches other behind u h in
        let f : ◌≡◌ {A = Option (Token × Bytes)} None (Some (x.0, x.1)) = sym e ∙ ap token_at is ∙ x.2 in
        absurd cc
    by_token (Some x) e =
        let f = token_sound bs x.0 x.1 e in
        record { piece = f.0; cut = f.1; spelled = f.2; longest = no_longer bs x.0 x.1 f.0 e f.1 }
