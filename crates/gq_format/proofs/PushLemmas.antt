-- Characters that are appended to bytes, and lines of them.
use Rattle.std.proofs.Common.{◌≡◌, ◌+◌, ◌-◌, ◌/◌, ◌%◌, ◌<◌, ◌≤◌, ℕ, suc, false, cond, List, [], ◌∷◌, ◌++◌, ◌∙◌, refl, sym, ap, length, drop, replicate, map, flat_map, codes, chars, IsUtf8, slice_index_or, append_assoc, eq-eqb, ne_eqb, arith, encode_utf8 as encode, encode_utf8_all as encodes}
use Rattle.std.specs.Fmt.{digit_glyph, digits, digits_onto}
use Rattle.std.proofs.lemmas.List.{append-nil, drop_more, replicate-append-replicate}
use Rattle.std.proofs.lemmas.List.Concat.{flat_map-append}
use Rattle.std.proofs.lemmas.Str.{chars-nil, chars_past_char, encodes-append}
use Rattle.gq_row.specs.declared.value.Value.{Value}
use Rattle.gq_format.specs.Boxes.{line, text_of}
use Rattle.gq_format.specs.Columns.{Column}
use Rattle.gq_format.specs.Shown.{shown_char}

pub pushed : (a b c xs ys : List ℕ) → b ≡ a ++ encodes xs → c ≡ b ++ encodes ys → c ≡ a ++ encodes (xs ++ ys)
pushed a b c xs ys one two = two ∙ ap (λ l. l ++ encodes ys) one ∙ append_assoc a (encodes xs) (encodes ys) ∙ ap (λ l. a ++ l) (sym (encodes-append xs ys))

pub first_char : (a b : List ℕ) (x : ℕ) → b ≡ a ++ encode x → b ≡ a ++ encodes (x ∷ [])
first_char a b x e = e ∙ ap (λ l. a ++ l) (sym (append-nil (encode x)))

pub pushed_char : (a b c xs : List ℕ) (y : ℕ) → b ≡ a ++ encodes xs → c ≡ b ++ encode y → c ≡ a ++ encodes (xs ++ y ∷ [])
pushed_char a b c xs y one two = pushed a b c xs (y ∷ []) one (first_char b c y two)

-- two texts between spaces
pub between_spaces : (a b c d e xs ys : List ℕ) → b ≡ a ++ encode 32 → c ≡ b ++ encodes xs → d ≡ c ++ encodes ys → e ≡ d ++ encode 32 → e ≡ a ++ encodes (32 ∷ xs ++ ys ++ 32 ∷ [])
between_spaces a b c d e xs ys one two three four =
    pushed_char a d e (32 ∷ xs ++ ys) 32 (pushed a c d (32 ∷ xs) ys (pushed a b c (32 ∷ []) xs (first_char a b 32 one) two) three) four

-- hexadecimal digits
hex_one : (n : ℕ) → n < 16 → digits 16 false n ≡ digit_glyph false n ∷ []
unfolding digits
hex_one n low =
    let none : n / 16 ≡ 0 = omega arith in
    let same : n % 16 ≡ n = omega arith in
    ap (λ b. cond b (digit_glyph false (n % 16) ∷ []) (digits_onto 63 16 false (n / 16) (digit_glyph false (n % 16) ∷ []))) (eq-eqb (n / 16) 0 none) ∙ ap (λ m. digit_glyph false m ∷ []) same

hex_two : (n : ℕ) → 16 ≤ n → n < 256 → digits 16 false n ≡ digit_glyph false (n / 16) ∷ digit_glyph false (n % 16) ∷ []
unfolding digits
hex_two n low high =
    let m = n / 16 in
    let last = digit_glyph false (n % 16) ∷ [] in
    let some : n / 16 ≡ 0 → ⊥ = λ e. omega (arith, e) in
    let none : m / 16 ≡ 0 = omega arith in
    let same : m % 16 ≡ m = omega arith in
    ap (λ b. cond b last (digits_onto 63 16 false m last)) (ne_eqb (n / 16) 0 some)
    ∙ ap (λ b. cond b (digit_glyph false (m % 16) ∷ last) (digits_onto 62 16 false (m / 16) (digit_glyph false (m % 16) ∷ last))) (eq-eqb (m / 16) 0 none)
    ∙ ap (λ k. digit_glyph false k ∷ last) same

pub hex_one_pushed : (n d : ℕ) (a b : List ℕ) → n < 16 → d ≡ digit_glyph false n → b ≡ a ++ encode d → b ≡ a ++ encodes (digits 16 false n)
hex_one_pushed n d a b low is e = first_char a b d e ∙ ap (λ l. a ++ encodes l) (ap (λ x. x ∷ []) is ∙ sym (hex_one n low))

pub hex_two_pushed : (n d e : ℕ) (a b c : List ℕ) → 16 ≤ n → n < 256 → d ≡ digit_glyph false (n / 16) → e ≡ digit_glyph false (n % 16) → b ≡ a ++ encode d → c ≡ b ++ encode e → c ≡ a ++ encodes (digits 16 false n)
hex_two_pushed n d e a b c low high is too one two =
    pushed_char a b c (d ∷ []) e (first_char a b d one) two ∙ ap (λ l. a ++ encodes l) (ap (λ x. x ∷ e ∷ []) is ∙ ap (λ x. digit_glyph false (n / 16) ∷ x ∷ []) too ∙ sym (hex_two n low high))

-- one character more of a text that is shown
pub one_more_shown : (bytes next rest behind whole : List ℕ) (c : ℕ) → IsUtf8 rest → rest ≡ encode c ++ behind → next ≡ bytes ++ encodes (shown_char c)
    → bytes ++ encodes (flat_map shown_char (chars rest)) ≡ whole → next ++ encodes (flat_map shown_char (chars behind)) ≡ whole
one_more_shown bytes next rest behind whole c utf8 is pushes e =
    let more = flat_map shown_char (chars behind) in
    ap (λ l. l ++ encodes more) pushes ∙ append_assoc bytes (encodes (shown_char c)) (encodes more) ∙ ap (λ l. bytes ++ l) (sym (encodes-append (shown_char c) more))
    ∙ ap (λ l. bytes ++ encodes (flat_map shown_char l)) (sym (chars_past_char rest behind c utf8 is)) ∙ e

pub no_more_shown : (bytes rest whole : List ℕ) → length rest ≡ 0 → bytes ++ encodes (flat_map shown_char (chars rest)) ≡ whole → bytes ≡ whole
no_more_shown bytes [] whole none e = sym (append-nil bytes) ∙ ap (λ l. bytes ++ encodes (flat_map shown_char l)) (sym chars-nil) ∙ e
no_more_shown bytes (b ∷ rest) whole none e = absurd (omega (arith, none))

-- one column more of a line
pub one_more_part : (part : Column → List ℕ) (columns : List Column) (i : ℕ) (column : Column) (mark between right : ℕ) (text marked next whole : List ℕ) → i < length columns → slice_index_or columns i column ≡ column
    → text ++ encodes (line mark between right part (drop i columns)) ≡ whole → marked ≡ text ++ encode mark → next ≡ marked ++ encodes (part column)
    → next ++ encodes (line between between right part (drop (i + 1) columns)) ≡ whole
one_more_part part columns i column mark between right text marked next whole within at e one two =
    let more = line between between right part (drop (i + 1) columns) in
    let split : drop i columns ≡ column ∷ drop (i + 1) columns = drop_more columns i column within ∙ ap (λ c. c ∷ drop (i + 1) columns) at in
    pushed text next (next ++ encodes more) (mark ∷ part column) more (pushed text marked next (mark ∷ []) (part column) (first_char text marked mark one) two) refl
    ∙ ap (λ l. text ++ encodes (line mark between right part l)) (sym split) ∙ e

pub bars_pushed : (w x : ℕ) (a b c : List ℕ) → b ≡ a ++ encodes (replicate w x) → c ≡ b ++ encodes (replicate 2 x) → c ≡ a ++ encodes (replicate (w + 2) x)
bars_pushed w x a b c one two = pushed a b c (replicate w x) (replicate 2 x) one two ∙ ap (λ l. a ++ encodes l) (replicate-append-replicate w 2 x)

-- one character more of those that are repeated
pub one_more_repeated : (n k x : ℕ) (bytes next whole : List ℕ) → k < n → next ≡ bytes ++ encode x → bytes ++ encodes (replicate (n - k) x) ≡ whole → next ++ encodes (replicate (n - (k + 1)) x) ≡ whole
one_more_repeated n k x bytes next whole less is e =
    let left : n - k ≡ suc (n - (k + 1)) = omega arith in
    pushed bytes next (next ++ encodes (replicate (n - (k + 1)) x)) (x ∷ []) (replicate (n - (k + 1)) x) (first_char bytes next x is) refl
    ∙ ap (λ m. bytes ++ encodes (replicate m x)) (sym left) ∙ e

-- one line more
pub one_more_line : (F : List Value → List ℕ) (rows : List (List Value)) (i : ℕ) (row : List Value) (bytes next whole : List ℕ) → i < length rows → row ≡ slice_index_or rows i []
    → next ≡ bytes ++ (encodes (F row) ++ codes "\n") → bytes ++ text_of (map F (drop i rows)) ≡ whole → next ++ text_of (map F (drop (i + 1) rows)) ≡ whole
one_more_line F rows i row bytes next whole within at is e =
    let more = text_of (map F (drop (i + 1) rows)) in
    let split : drop i rows ≡ row ∷ drop (i + 1) rows = drop_more rows i [] within ∙ ap (λ r. r ∷ drop (i + 1) rows) (sym at) in
    ap (λ l. l ++ more) is ∙ append_assoc bytes (encodes (F row) ++ codes "\n") more ∙ ap (λ l. bytes ++ text_of (map F l)) (sym split) ∙ e

-- the lines of a box, one after the other
pub boxed : (b0 b1 b2 b3 b4 b5 b6 l1 l2 l3 l5 count : List ℕ) (lines : List (List ℕ)) → b0 ≡ [] → b1 ≡ b0 ++ (encodes l1 ++ codes "\n") → b2 ≡ b1 ++ (encodes l2 ++ codes "\n")
    → b3 ≡ b2 ++ (encodes l3 ++ codes "\n") → b4 ≡ b3 ++ text_of lines → b5 ≡ b4 ++ (encodes l5 ++ codes "\n") → b6 ≡ b5 ++ count → b6 ≡ text_of (l1 ∷ l2 ∷ l3 ∷ lines ++ l5 ∷ []) ++ count
boxed b0 b1 b2 b3 b4 b5 b6 l1 l2 l3 l5 count lines e0 e1 e2 e3 e4 e5 e6 =
    let t : List ℕ → List ℕ = λ line. encodes line ++ codes "\n" in
    let join : text_of (lines ++ l5 ∷ []) ≡ text_of lines ++ t l5 = flat_map-append t lines (l5 ∷ []) ∙ ap (λ l. text_of lines ++ l) (append-nil (t l5)) in
    e6 ∙ ap (λ l. l ++ count) (e5 ∙ ap (λ l. l ++ t l5) (e4 ∙ ap (λ l. l ++ text_of lines) (e3 ∙ ap (λ l. l ++ t l3) (e2 ∙ ap (λ l. l ++ t l2) (e1 ∙ ap (λ l. l ++ t l1) e0))))
    ∙ append_assoc ((t l1 ++ t l2) ++ t l3) (text_of lines) (t l5)
    ∙ append_assoc (t l1 ++ t l2) (t l3) (text_of lines ++ t l5)
    ∙ append_assoc (t l1) (t l2) (t l3 ++ (text_of lines ++ t l5))
    ∙ ap (λ l. t l1 ++ (t l2 ++ (t l3 ++ l))) (sym join))
