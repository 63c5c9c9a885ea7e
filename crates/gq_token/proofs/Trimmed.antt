-- A line has the same tokens with and without leading blanks.
use Rattle.std.proofs.Common.{◌≡◌, ℕ, zero, suc, ◌+◌, ◌<◌, ◌≤◌, Bool, true, false, cond, List, [], ◌∷◌, length, take, drop, Option, Some, None, refl, sym, ap, ◌∙◌, arith, length-drop}
use Rattle.std.proofs.lemmas.Str.{IsUtf8-append, IsUtf8-from_ascii, is_utf8-from_IsUtf8, IsUtf8-from_is_utf8}
use Rattle.std.specs.List.{prefix_len, slice_index}
use Rattle.std.specs.Str.{is_utf8}
use Rattle.gq_token.specs.declared.token.Token.{Token}
use Rattle.gq_token.specs.Texts.{Bytes}
use Rattle.gq_token.specs.Results.{◌>>=◌}
use Rattle.gq_token.specs.Lexing.{is_blank, is_word_byte, starts_word, skip_blanks, first_word, word, word_at, lexed, tokens, token_at, digits_at}
use Rattle.gq_token.proofs.Bytes.{is_blank-ascii}
use Rattle.gq_token.proofs.Longest.{cuts_all}
use Rattle.gq_token.proofs.Quotes.{utf8_behind}

pub blank_first : (b : ℕ) (bs : Bytes) → is_blank b ≡ true → skip_blanks (b ∷ bs) ≡ skip_blanks bs
blank_first b bs e = let k : 1 + prefix_len is_blank bs ≡ suc (prefix_len is_blank bs) = omega arith in rw (e, k) refl

pub no_blank_first : (b : ℕ) (bs : Bytes) → is_blank b ≡ false → skip_blanks (b ∷ bs) ≡ b ∷ bs
no_blank_first b bs e = rw e refl

same_tests : (a b : Bool) → (a ≡ true → b ≡ true) → (b ≡ true → a ≡ true) → a ≡ b
same_tests true b f g = sym (f refl)
same_tests false true f g = g refl
same_tests false false f g = refl

one_ascii : (b : ℕ) → b < 128 → (i : ℕ) → slice_index (b ∷ []) i < 128
one_ascii b small zero = small
one_ascii b small (suc i) = omega arith

utf8_blank : (b : ℕ) (bs : Bytes) → b < 128 → is_utf8 (b ∷ bs) ≡ is_utf8 bs
utf8_blank b bs small = same_tests (is_utf8 (b ∷ bs)) (is_utf8 bs)
    (λ e. is_utf8-from_IsUtf8 bs (utf8_behind b [] bs small (IsUtf8-from_is_utf8 (b ∷ bs) e)))
    (λ e. is_utf8-from_IsUtf8 (b ∷ bs) (IsUtf8-append (b ∷ []) bs (IsUtf8-from_ascii (b ∷ []) (one_ascii b small)) (IsUtf8-from_is_utf8 bs e)))

utf8_trimmed : (bs : Bytes) → is_utf8 (skip_blanks bs) ≡ is_utf8 bs
utf8_trimmed [] = refl
utf8_trimmed (b ∷ bs) = by_blank (is_blank b) refl (utf8_trimmed bs)
  where
    by_blank : (t : Bool) → is_blank b ≡ t → is_utf8 (skip_blanks bs) ≡ is_utf8 bs → is_utf8 (skip_blanks (b ∷ bs)) ≡ is_utf8 (b ∷ bs)
    by_blank true e next = ap is_utf8 (blank_first b bs e) ∙ next ∙ sym (utf8_blank b bs (is_blank-ascii b e))
    by_blank false e next = ap is_utf8 (no_blank_first b bs e)

skipped_once : (bs : Bytes) → skip_blanks (skip_blanks bs) ≡ skip_blanks bs
skipped_once [] = refl
skipped_once (b ∷ bs) = by_blank (is_blank b) refl (skipped_once bs)
  where
    by_blank : (t : Bool) → is_blank b ≡ t → skip_blanks (skip_blanks bs) ≡ skip_blanks bs → skip_blanks (skip_blanks (b ∷ bs)) ≡ skip_blanks (b ∷ bs)
    by_blank true e next = ap skip_blanks (blank_first b bs e) ∙ next ∙ sym (blank_first b bs e)
    by_blank false e next = ap skip_blanks (no_blank_first b bs e)

-- the tokens after the blanks
behind : Bytes → Option (List Token)
behind bs = elim bs [ [] ↦ Some [] | b ∷ rest ↦ (token_at (b ∷ rest) >>= λ first. lexed first.1 >>= λ others. Some (first.0 ∷ others)) ]

lexed_trimmed : (bs : Bytes) → lexed (skip_blanks bs) ≡ lexed bs
unfolding behind
lexed_trimmed bs = cuts_all (skip_blanks bs) ∙ ap behind (skipped_once bs) ∙ sym (cuts_all bs)

pub tokens_trimmed : (bs : Bytes) → tokens (skip_blanks bs) ≡ tokens bs
unfolding tokens
tokens_trimmed bs = ap (λ (t : Bool). cond t (lexed (skip_blanks bs)) None) (utf8_trimmed bs) ∙ ap (λ (o : Option (List Token)). cond (is_utf8 bs) o None) (lexed_trimmed bs)

pub trimmed_shorter : (bs : Bytes) → length (skip_blanks bs) ≤ length bs
trimmed_shorter bs = omega (arith, length-drop (prefix_len is_blank bs) bs)

-- a line whose first word begins as words do has it as its first token

first_of : (t : Token) (others : Option (List Token)) (ts : List Token) → (others >>= λ rest. Some (t ∷ rest)) ≡ Some ts → (rest : List Token) × (ts ≡ t ∷ rest)
first_of t None ts e = absurd cc
first_of t (Some rest) ts e = (rest, cc)

first_lexed : (line : Bytes) (b : ℕ) (bs : Bytes) (ts : List Token) → skip_blanks line ≡ b ∷ bs → starts_word b ≡ true → lexed line ≡ Some ts → (rest : List Token) × (ts ≡ word (first_word line) ∷ rest)
unfolding behind token_at word_at
first_lexed line b bs ts e s h =
    let n = prefix_len is_word_byte (b ∷ bs) in
    let at : token_at (b ∷ bs) ≡ Some (word (take n (b ∷ bs)), drop n (b ∷ bs)) = rw s refl in
    let cut : behind (b ∷ bs) ≡ (lexed (drop n (b ∷ bs)) >>= λ rest. Some (word (take n (b ∷ bs)) ∷ rest)) = ap (λ (o : Option (Token × Bytes)). o >>= λ first. lexed first.1 >>= λ others. Some (first.0 ∷ others)) at in
    let told = first_of (word (take n (b ∷ bs))) (lexed (drop n (b ∷ bs))) ts (sym cut ∙ ap behind (sym e) ∙ sym (cuts_all line) ∙ h) in
    (told.0, told.1 ∙ ap (λ (l : Bytes). word (take (prefix_len is_word_byte l) l) ∷ told.0) (sym e))

pub first_token : (line : Bytes) (b : ℕ) (bs : Bytes) (ts : List Token) → skip_blanks line ≡ b ∷ bs → starts_word b ≡ true → tokens line ≡ Some ts → (rest : List Token) × (ts ≡ word (first_word line) ∷ rest)
unfolding tokens
first_token line b bs ts e s h = by_text (is_utf8 line) h
  where
    by_text : (t : Bool) → cond t (lexed line) None ≡ Some ts → (rest : List Token) × (ts ≡ word (first_word line) ∷ rest)
    by_text true f = first_lexed line b bs ts e s f
    by_text false f = absurd cc

-- a dash alone has no tokens

dash_lexed : (line : Bytes) → skip_blanks line ≡ 45 ∷ [] → lexed line ≡ None
unfolding behind token_at digits_at
dash_lexed line e = cuts_all line ∙ ap behind e

pub dash_unread : (line : Bytes) → skip_blanks line ≡ 45 ∷ [] → tokens line ≡ None
unfolding tokens
dash_unread line e = by_text (is_utf8 line)
  where
    by_text : (t : Bool) → cond t (lexed line) None ≡ None
    by_text true = dash_lexed line e
    by_text false = refl
