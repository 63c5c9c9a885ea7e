-- The token that is read is the longest.
use Rattle.std.proofs.Common.{◌≡◌, ℕ, suc, ◌+◌, Bool, true, false, cond, eqb, [], ◌∷◌, ◌++◌, take, drop, Option, Some, None, refl, sym, ap, subst, ◌∙◌, arith, append_assoc, inl, inr, eq-eqb}
use Rattle.std.proofs.lemmas.List.{take-append-drop}
use Rattle.std.proofs.lemmas.Bool.{eqb-true}
use Rattle.std.specs.Prelude.{◌&&◌, ◌||◌}
use Rattle.std.specs.Char.{is_ascii_digit}
use Rattle.std.specs.List.{prefix_len, list_all}
use Rattle.std.specs.Str.{all_ascii_digits}
use Rattle.std.specs.Str.Parse.{digits_value}
use Rattle.gq_token.specs.declared.token.Terminal.{Terminal}
use Rattle.gq_token.specs.declared.token.Terminal.TheVariants as terminal
use Rattle.gq_token.specs.declared.token.Token.{Token}
use Rattle.gq_token.specs.declared.token.Token.TheVariants.{Fixed, Name, Number, Text}
use Rattle.gq_token.specs.Texts.{Bytes, some}
use Rattle.gq_token.specs.Results.{◌>>=◌}
use Rattle.gq_token.specs.Lexing.{starts_word, is_word_byte, lookup_word, reserved_words, lower, word, signed, begins, quoted, with_byte, digits_at, sign_at, word_at, name_in_quotes, text_in_quotes, token_at}
use Rattle.gq_token.specs.Spelling.{signs, is_word, doubled, in_quotes, SignBefore, Spells}

pub pick : {A P : Type 0} (v : Bool) (x y z : A) → cond v x y ≡ z → (v ≡ true → x ≡ z → P) → (v ≡ false → y ≡ z → P) → P
pick true x y z e f g = f refl e
pick false x y z e f g = g refl e

some_is : {A : Type 0} (x y : A) → Some x ≡ Some y → x ≡ y
some_is x y e = cc

pair_is : {A B : Type 0} (a c : A) (b d : B) → ◌≡◌ {A = Option (A × B)} (Some (a, b)) (Some (c, d)) → (a ≡ c) × (b ≡ d)
pair_is {A} {B} a c b d e = let f : ◌≡◌ {A = A × B} (a, b) (c, d) = some_is (a, b) (c, d) e in (ap (λ (p : A × B). p.0) f, ap (λ (p : A × B). p.1) f)

bind_some : {A B : Type 0} (r : Option A) (f : A → Option B) (y : B) → (r >>= f) ≡ Some y → (x : A) × (r ≡ Some x) × (f x ≡ Some y)
bind_some (Some x) f y e = (x, refl, e)
bind_some None f y e = absurd cc

-- a prefix that spells the token
abbrev Found : Bytes → Token → Bytes → Type 0
Found bs t rest = (piece : Bytes) × (bs ≡ piece ++ rest) × Spells piece rest t

found : (bs : Bytes) (t u : Token) (rest r piece : Bytes) → bs ≡ piece ++ r → Spells piece r u → ◌≡◌ {A = Option (Token × Bytes)} (Some (u, r)) (Some (t, rest)) → Found bs t rest
found bs t u rest r piece cut spelled e =
    let p = pair_is u t r rest e in
    (piece, cut ∙ ap (λ (l : Bytes). piece ++ l) p.1, subst (λ (x : Token). Spells piece rest x) p.0 (subst (λ (l : Bytes). Spells piece l u) p.1 spelled))

-- signs

one_sound : (b : ℕ) (bs : Bytes) (t : Token) (rest : Bytes) (k : ℕ) (s : Terminal) → lookup_word signs (k ∷ []) ≡ Some s → eqb b k ≡ true → ◌≡◌ {A = Option (Token × Bytes)} (Some (Fixed s, bs)) (Some (t, rest)) → Found (b ∷ bs) t rest
one_sound b bs t rest k s known is e = found (b ∷ bs) t (Fixed s) rest bs (k ∷ []) (ap (λ (v : ℕ). v ∷ bs) (eqb-true b k is)) (inr known) e

two_sound : (b : ℕ) (bs : Bytes) (t : Token) (rest : Bytes) (k j : ℕ) (s : Terminal) → lookup_word signs (k ∷ j ∷ []) ≡ Some s → eqb b k && begins (λ c. eqb c j) bs ≡ true → ◌≡◌ {A = Option (Token × Bytes)} (Some (Fixed s, drop 1 bs)) (Some (t, rest)) → Found (b ∷ bs) t rest
two_sound b [] t rest k j s known is e = absurd (let f = no_more (eqb b k) is in cc)
  where
    no_more : (v : Bool) → v && false ≡ true → false ≡ true
    no_more true h = h
    no_more false h = h
two_sound b (c ∷ bs) t rest k j s known is e =
    let p = both (eqb b k) (eqb c j) is in
    found (b ∷ c ∷ bs) t (Fixed s) rest bs (k ∷ j ∷ []) (ap (λ (v : ℕ). v ∷ c ∷ bs) (eqb-true b k p.0) ∙ ap (λ (v : ℕ). k ∷ v ∷ bs) (eqb-true c j p.1)) (inr known) e
  where
    both : (v w : Bool) → v && w ≡ true → (v ≡ true) × (w ≡ true)
    both true w h = (refl, h)
    both false w h = absurd cc

sign_sound : (b : ℕ) (bs : Bytes) (t : Token) (rest : Bytes) → sign_at (b ∷ bs) ≡ Some (t, rest) → Found (b ∷ bs) t rest
unfolding sign_at
sign_sound b bs t rest e =
    let O : Type 0 = Option (Token × Bytes) in
    let a9 : O = cond (eqb b 62) (Some (Fixed terminal.Greater, bs)) None in
    let a8 : O = cond (eqb b 60) (Some (Fixed terminal.Less, bs)) a9 in
    let a7 : O = cond (eqb b 61) (Some (Fixed terminal.Equal, bs)) a8 in
    let a6 : O = cond (eqb b 42) (Some (Fixed terminal.Star, bs)) a7 in
    let a5 : O = cond (eqb b 44) (Some (Fixed terminal.Comma, bs)) a6 in
    let a4 : O = cond (eqb b 41) (Some (Fixed terminal.Close, bs)) a5 in
    let a3 : O = cond (eqb b 40) (Some (Fixed terminal.Open, bs)) a4 in
    let a2 : O = cond (eqb b 62 && begins (λ c. eqb c 61) bs) (Some (Fixed terminal.GreaterEqual, drop 1 bs)) a3 in
    let a1 : O = cond (eqb b 60 && begins (λ c. eqb c 61) bs) (Some (Fixed terminal.LessEqual, drop 1 bs)) a2 in
    let w : O = Some (t, rest) in
    pick (eqb b 60 && begins (λ c. eqb c 62) bs) (Some (Fixed terminal.NotEqual, drop 1 bs)) a1 w e (two_sound b bs t rest 60 62 terminal.NotEqual refl) (λ n1 e1.
    pick (eqb b 60 && begins (λ c. eqb c 61) bs) (Some (Fixed terminal.LessEqual, drop 1 bs)) a2 w e1 (two_sound b bs t rest 60 61 terminal.LessEqual refl) (λ n2 e2.
    pick (eqb b 62 && begins (λ c. eqb c 61) bs) (Some (Fixed terminal.GreaterEqual, drop 1 bs)) a3 w e2 (two_sound b bs t rest 62 61 terminal.GreaterEqual refl) (λ n3 e3.
    pick (eqb b 40) (Some (Fixed terminal.Open, bs)) a4 w e3 (one_sound b bs t rest 40 terminal.Open refl) (λ n4 e4.
    pick (eqb b 41) (Some (Fixed terminal.Close, bs)) a5 w e4 (one_sound b bs t rest 41 terminal.Close refl) (λ n5 e5.
    pick (eqb b 44) (Some (Fixed terminal.Comma, bs)) a6 w e5 (one_sound b bs t rest 44 terminal.Comma refl) (λ n6 e6.
    pick (eqb b 42) (Some (Fixed terminal.Star, bs)) a7 w e6 (one_sound b bs t rest 42 terminal.Star refl) (λ n7 e7.
    pick (eqb b 61) (Some (Fixed terminal.Equal, bs)) a8 w e7 (one_sound b bs t rest 61 terminal.Equal refl) (λ n8 e8.
    pick (eqb b 60) (Some (Fixed terminal.Less, bs)) a9 w e8 (one_sound b bs t rest 60 terminal.Less refl) (λ n9 e9.
    pick (eqb b 62) (Some (Fixed terminal.Greater, bs)) None w e9 (one_sound b bs t rest 62 terminal.Greater refl) (λ n e. absurd (let f : None ≡ w = e in cc)))))))))))

-- words

all_in_prefix : (p : ℕ → Bool) (bs : Bytes) → list_all p (take (prefix_len p bs) bs) ≡ true
all_in_prefix p [] = refl
all_in_prefix p (b ∷ bs) = by_test (p b) refl (all_in_prefix p bs)
  where
    k : 1 + prefix_len p bs ≡ suc (prefix_len p bs)
    k = omega arith

    by_test : (v : Bool) → p b ≡ v → list_all p (take (prefix_len p bs) bs) ≡ true → list_all p (take (prefix_len p (b ∷ bs)) (b ∷ bs)) ≡ true
    by_test true e others = ap (λ (v : Bool). list_all p (take (cond v (1 + prefix_len p bs) 0) (b ∷ bs))) e ∙ ap (λ (n : ℕ). list_all p (take n (b ∷ bs))) k ∙ ap (λ (v : Bool). v && list_all p (take (prefix_len p bs) bs)) e ∙ others
    by_test false e others = ap (λ (v : Bool). list_all p (take (cond v (1 + prefix_len p bs) 0) (b ∷ bs))) e

first_in_prefix : (b : ℕ) (bs : Bytes) → starts_word b ≡ true → take (prefix_len is_word_byte (b ∷ bs)) (b ∷ bs) ≡ b ∷ take (prefix_len is_word_byte bs) bs
first_in_prefix b bs e =
    let k : 1 + prefix_len is_word_byte bs ≡ suc (prefix_len is_word_byte bs) = omega arith in
    ap (λ (v : Bool). take (cond (v || is_ascii_digit b) (1 + prefix_len is_word_byte bs) 0) (b ∷ bs)) e ∙ ap (λ (n : ℕ). take n (b ∷ bs)) k

word_spelled : (piece rest : Bytes) → is_word piece ≡ true → Spells piece rest (word piece)
unfolding word
word_spelled piece rest is = by_cases (lookup_word reserved_words (lower piece)) refl
  where
    by_cases : (o : Option Terminal) → lookup_word reserved_words (lower piece) ≡ o → Spells piece rest (elim o [ Some t ↦ Fixed t | None ↦ Name piece ])
    by_cases (Some t) e = inl (is, e)
    by_cases None e = inl (is, e, refl)

word_sound : (b : ℕ) (bs : Bytes) (t : Token) (rest : Bytes) → starts_word b ≡ true → word_at (b ∷ bs) ≡ Some (t, rest) → Found (b ∷ bs) t rest
unfolding word_at
word_sound b bs t rest starts e =
    let n = prefix_len is_word_byte (b ∷ bs) in
    let piece = take n (b ∷ bs) in
    let is : is_word piece ≡ true = ap is_word (first_in_prefix b bs starts) ∙ ap (λ (v : Bool). v && list_all is_word_byte (take (prefix_len is_word_byte bs) bs)) starts ∙ all_in_prefix is_word_byte bs in
    found (b ∷ bs) t (word piece) rest (drop n (b ∷ bs)) piece (sym (take-append-drop n (b ∷ bs))) (word_spelled piece (drop n (b ∷ bs)) is) e

-- numbers

pub digits_in : (bs : Bytes) → all_ascii_digits bs ≡ list_all is_ascii_digit bs
digits_in [] = refl
digits_in (b ∷ bs) = ap (λ (v : Bool). is_ascii_digit b && v) (digits_in bs)

no_digits : (bs : Bytes) → eqb (prefix_len is_ascii_digit bs) 0 ≡ false → some (take (prefix_len is_ascii_digit bs) bs) ≡ true
no_digits [] e = absurd cc
no_digits (b ∷ bs) e = by_test (is_ascii_digit b) refl
  where
    k : 1 + prefix_len is_ascii_digit bs ≡ suc (prefix_len is_ascii_digit bs)
    k = omega arith

    by_test : (v : Bool) → is_ascii_digit b ≡ v → some (take (prefix_len is_ascii_digit (b ∷ bs)) (b ∷ bs)) ≡ true
    by_test true f = ap (λ (v : Bool). some (take (cond v (1 + prefix_len is_ascii_digit bs) 0) (b ∷ bs))) f ∙ ap (λ (n : ℕ). some (take n (b ∷ bs))) k
    by_test false f = let g : eqb 0 0 ≡ false = sym (ap (λ (v : Bool). eqb (cond v (1 + prefix_len is_ascii_digit bs) 0) 0) f) ∙ e in absurd cc

number_sound : (negative : Bool) (front bs : Bytes) (t : Token) (rest : Bytes) → ((digits : Bytes) → SignBefore (front ++ digits) negative digits) → digits_at negative bs ≡ Some (t, rest) → Found (front ++ bs) t rest
unfolding digits_at
number_sound negative front bs t rest sign e =
    let n = prefix_len is_ascii_digit bs in
    let ds = take n bs in
    let after = drop n bs in
    pick (eqb n 0 || begins is_word_byte after) None (signed negative (digits_value 10 ds) >>= λ z. Some (Number z, after)) (Some (t, rest)) e
    (λ v f. absurd (let g : ◌≡◌ {A = Option (Token × Bytes)} None (Some (t, rest)) = f in cc))
    (λ v f.
    let p = neither (eqb n 0) (begins is_word_byte after) v in
    let z = bind_some (signed negative (digits_value 10 ds)) (λ z. Some (Number z, after)) (t, rest) f in
    found (front ++ bs) t (Number z.0) rest after (front ++ ds) (ap (λ (l : Bytes). front ++ l) (sym (take-append-drop n bs)) ∙ sym (append_assoc front ds after))
    (record { negative = negative; digits = ds; sign = sign ds; filled = no_digits bs p.0; all = digits_in ds ∙ all_in_prefix is_ascii_digit bs; value = z.1 }, p.1) z.2)
  where
    neither : (v w : Bool) → v || w ≡ false → (v ≡ false) × (w ≡ false)
    neither true w h = absurd cc
    neither false w h = (refl, h)

-- quotes

quoted_sound : (q : ℕ) (bs s rest : Bytes) → quoted q bs ≡ Some (s, rest) → (bs ≡ doubled q s ++ (q ∷ rest)) × (begins (λ c. eqb c q) rest ≡ false)
quoted_sound q [] s rest e = absurd cc
quoted_sound q (b ∷ []) s rest e =
    pick (eqb b q) (Some ([], [])) None (Some (s, rest)) e
    (λ v f. let p = pair_is [] s [] rest f in (ap (λ (x : ℕ). x ∷ []) (eqb-true b q v) ∙ ap (λ (l : Bytes). q ∷ l) p.1 ∙ ap (λ (l : Bytes). doubled q l ++ (q ∷ rest)) p.0, ap (begins (λ c. eqb c q)) (sym p.1)))
    (λ v f. absurd (let g : ◌≡◌ {A = Option (Bytes × Bytes)} None (Some (s, rest)) = f in cc))
quoted_sound q (b ∷ c ∷ bs) s rest e =
    pick (eqb b q) (cond (eqb c q) (with_byte q (quoted q bs)) (Some ([], c ∷ bs))) (with_byte b (quoted q (c ∷ bs))) (Some (s, rest)) e
    (λ v f. pick (eqb c q) (with_byte q (quoted q bs)) (Some ([], c ∷ bs)) (Some (s, rest)) f
    (λ w g.
    let x = bind_some (quoted q bs) (λ x. Some (q ∷ x.0, x.1)) (s, rest) g in
    let p = pair_is (q ∷ x.0.0) s x.0.1 rest x.2 in
    let h = quoted_sound q bs x.0.0 x.0.1 x.1 in
    let d : doubled q (q ∷ x.0.0) ≡ q ∷ q ∷ doubled q x.0.0 = ap (λ (o : Bool). cond o (q ∷ q ∷ doubled q x.0.0) (q ∷ doubled q x.0.0)) (eq-eqb q q refl) in (
      ap (λ (y : ℕ). y ∷ c ∷ bs) (eqb-true b q v) ∙ ap (λ (y : ℕ). q ∷ y ∷ bs) (eqb-true c q w) ∙ ap (λ (l : Bytes). q ∷ q ∷ l) h.0
          ∙ ap (λ (l : Bytes). l ++ (q ∷ x.0.1)) (sym d) ∙ ap (λ (l : Bytes). doubled q l ++ (q ∷ x.0.1)) p.0 ∙ ap (λ (l : Bytes). doubled q s ++ (q ∷ l)) p.1,
      ap (begins (λ c. eqb c q)) (sym p.1) ∙ h.1,
    ))
    (λ w g. let p = pair_is [] s (c ∷ bs) rest g in
    (ap (λ (x : ℕ). x ∷ c ∷ bs) (eqb-true b q v) ∙ ap (λ (l : Bytes). q ∷ l) p.1 ∙ ap (λ (l : Bytes). doubled q l ++ (q ∷ rest)) p.0, ap (begins (λ c. eqb c q)) (sym p.1) ∙ w)))
    (λ v f.
    let x = bind_some (quoted q (c ∷ bs)) (λ x. Some (b ∷ x.0, x.1)) (s, rest) f in
    let p = pair_is (b ∷ x.0.0) s x.0.1 rest x.2 in
    let h = quoted_sound q (c ∷ bs) x.0.0 x.0.1 x.1 in
    let d : doubled q (b ∷ x.0.0) ≡ b ∷ doubled q x.0.0 = ap (λ (o : Bool). cond o (q ∷ q ∷ doubled q x.0.0) (b ∷ doubled q x.0.0)) v in (
      ap (λ (l : Bytes). b ∷ l) h.0 ∙ ap (λ (l : Bytes). l ++ (q ∷ x.0.1)) (sym d) ∙ ap (λ (l : Bytes). doubled q l ++ (q ∷ x.0.1)) p.0 ∙ ap (λ (l : Bytes). doubled q s ++ (q ∷ l)) p.1,
      ap (begins (λ c. eqb c q)) (sym p.1) ∙ h.1,
    ))

quotes_cut : (q b : ℕ) (bs s rest : Bytes) → eqb b q ≡ true → bs ≡ doubled q s ++ (q ∷ rest) → b ∷ bs ≡ in_quotes q s ++ rest
quotes_cut q b bs s rest is e = ap (λ (y : ℕ). y ∷ bs) (eqb-true b q is) ∙ ap (λ (l : Bytes). q ∷ l) (e ∙ sym (append_assoc (doubled q s) (q ∷ []) rest))

text_sound : (b : ℕ) (bs : Bytes) (t : Token) (rest : Bytes) → eqb b 39 ≡ true → text_in_quotes bs ≡ Some (t, rest) → Found (b ∷ bs) t rest
unfolding text_in_quotes
text_sound b bs t rest is e =
    let x = bind_some (quoted 39 bs) (λ x. Some (Text x.0, x.1)) (t, rest) e in
    let h = quoted_sound 39 bs x.0.0 x.0.1 x.1 in
    found (b ∷ bs) t (Text x.0.0) rest x.0.1 (in_quotes 39 x.0.0) (quotes_cut 39 b bs x.0.0 x.0.1 is h.0) (refl, h.1) x.2

name_sound : (b : ℕ) (bs : Bytes) (t : Token) (rest : Bytes) → eqb b 34 ≡ true → name_in_quotes bs ≡ Some (t, rest) → Found (b ∷ bs) t rest
unfolding name_in_quotes
name_sound b bs t rest is e =
    let x = bind_some (quoted 34 bs) (λ x. cond (some x.0) (Some (Name x.0, x.1)) None) (t, rest) e in
    let h = quoted_sound 34 bs x.0.0 x.0.1 x.1 in
    pick (some x.0.0) (Some (Name x.0.0, x.0.1)) None (Some (t, rest)) x.2
    (λ v f. found (b ∷ bs) t (Name x.0.0) rest x.0.1 (in_quotes 34 x.0.0) (quotes_cut 34 b bs x.0.0 x.0.1 is h.0) (inr (refl, v, h.1)) f)
    (λ v f. absurd (let g : ◌≡◌ {A = Option (Token × Bytes)} None (Some (t, rest)) = f in cc))

pub token_sound : (bs : Bytes) (t : Token) (rest : Bytes) → token_at bs ≡ Some (t, rest) → Found bs t rest
unfolding token_at
token_sound [] t rest e = absurd cc
token_sound (b ∷ bs) t rest e =
    let O : Type 0 = Option (Token × Bytes) in
    let w : O = Some (t, rest) in
    let a6 : O = sign_at (b ∷ bs) in
    let a5 : O = cond (eqb b 39) (text_in_quotes bs) a6 in
    let a4 : O = cond (eqb b 34) (name_in_quotes bs) a5 in
    let a3 : O = cond (eqb b 45) (digits_at true bs) a4 in
    let a2 : O = cond (eqb b 43) (digits_at false bs) a3 in
    let a1 : O = cond (is_ascii_digit b) (digits_at false (b ∷ bs)) a2 in
    pick (starts_word b) (word_at (b ∷ bs)) a1 w e (word_sound b bs t rest) (λ n1 e1.
    pick (is_ascii_digit b) (digits_at false (b ∷ bs)) a2 w e1 (λ v f. number_sound false [] (b ∷ bs) t rest (λ ds. inl (refl, refl)) f) (λ n2 e2.
    pick (eqb b 43) (digits_at false bs) a3 w e2 (λ v f. subst (λ (y : ℕ). Found (y ∷ bs) t rest) (sym (eqb-true b 43 v)) (number_sound false (43 ∷ []) bs t rest (λ ds. inr (inl (refl, refl))) f)) (λ n3 e3.
    pick (eqb b 45) (digits_at true bs) a4 w e3 (λ v f. subst (λ (y : ℕ). Found (y ∷ bs) t rest) (sym (eqb-true b 45 v)) (number_sound true (45 ∷ []) bs t rest (λ ds. inr (inr (refl, refl))) f)) (λ n4 e4.
    pick (eqb b 34) (name_in_quotes bs) a5 w e4 (name_sound b bs t rest) (λ n5 e5.
    pick (eqb b 39) (text_in_quotes bs) a6 w e5 (text_sound b bs t rest) (λ n6 e6.
    sign_sound b bs t rest e6))))))
