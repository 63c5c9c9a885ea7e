-- Fields that call for no quotes, numbers among them; the digits of small numbers.
use Rattle.std.proofs.Common.{◌≡◌, ◌≤◌, ◌<◌, ◌+◌, ◌^◌, ◌==◌, ◌∷◌, ◌++◌, ◌∙◌, [], ℕ, ℤ, suc, pos, negsuc, true, false, List, refl, ap, set, sym, length, map, take, drop, ◌-◌, arith, append_assoc, append-nil, length-append, length-take-le}
use Rattle.std.specs.Fmt.{decimal, signed_decimal}
use Rattle.std.specs.Int.Signed.{mag}
use Rattle.std.specs.Str.Parse.{AllDigits}
use Rattle.std.proofs.lemmas.Str.Parse.{digit_from_value}
use Rattle.std.proofs.lemmas.Fmt.{decimal_is_IsNumeral, decimal_nonempty}
use Rattle.csv.specs.Writing.{default_writer, field_text, fields_text, is_blank, needs_byte, needs_quotes, row_body}
use Rattle.std.proofs.lemmas.Grind.{take-set_at}
use Rattle.std.proofs.lemmas.List.{drop_all, drop_more, take-append-drop, take-take}
use Rattle.std.proofs.Math.Seq.{take-append_seam}
use Rattle.std.specs.Prelude.{flat_map}
use Rattle.gq_row.specs.declared.value.Value.{Value}
use Rattle.gq_row.specs.declared.value.Value.TheVariants.{Null}
use Rattle.gq_row.specs.Rows.{cell}
use Rattle.gq_reply.specs.Bare.{is_plain, row_record}
use Rattle.gq_reply.specs.Replies.{cell_text}

-- a byte from 45 on that is no comma, quote or end of a line
pub plain_byte : (c : ℕ) → 44 < c → needs_byte default_writer c ≡ false
plain_byte c more = grind arith

plain_digits : (ds : List ℕ) → AllDigits 10 ds → needs_quotes default_writer ds ≡ false
plain_digits [] all = refl
plain_digits (d ∷ ds) all =
    let range = digit_from_value d all.0 in
    rw (plain_byte d (omega arith)) (plain_digits ds all.1)

plain_number : (z : ℤ) → mag z ≤ 2 ^ 63 → needs_quotes default_writer (signed_decimal z) ≡ false
plain_number (pos n) h = plain_digits (decimal n) (decimal_is_IsNumeral n (omega arith)).0.1
plain_number (negsuc n) h = plain_digits (decimal (suc n)) (decimal_is_IsNumeral (suc n) (omega arith)).0.1

pub number_shown : (z : ℤ) → mag z ≤ 2 ^ 63 → (length (signed_decimal z) == 0) ≡ false
number_shown (pos n) h = let some = decimal_nonempty n (omega arith) in grind arith
number_shown (negsuc n) h = grind arith

pub number_is_plain : (z : ℤ) → mag z ≤ 2 ^ 63 → is_plain (signed_decimal z) ≡ true
number_is_plain z h = rw (number_shown z h, plain_number z h) refl

-- a plain field is written unchanged, and shows a byte
pub plain_field : (field : List ℕ) → is_plain field ≡ true → field_text default_writer field ≡ field
plain_field field h = let no : needs_quotes default_writer field ≡ false = grind arith in rw no refl

pub plain_shown : (field : List ℕ) → is_plain field ≡ true → (length (field_text default_writer field) == 0) ≡ false
plain_shown field h = let some : (length field == 0) ≡ false = grind arith in rw (plain_field field h, some) refl

-- a field that another follows
row_body_more : (v w : Value) (behind : List Value) → row_body default_writer (map cell_text (v ∷ w ∷ behind)) ≡ field_text default_writer (cell_text v) ++ 44 ∷ row_body default_writer (map cell_text (w ∷ behind))
unfolding fields_text
row_body_more v w behind = refl

-- fields, each with a comma after it
abbrev pub fields_ended : List Value → List ℕ
fields_ended row = flat_map (λ v. field_text default_writer (cell_text v) ++ 44 ∷ []) row

-- those of a row
fields_ended_is : (v : Value) (behind : List Value) → fields_ended (v ∷ behind) ≡ row_body default_writer (map cell_text (v ∷ behind)) ++ 44 ∷ []
unfolding fields_text
fields_ended_is v [] = let field = field_text default_writer (cell_text v) in append-nil (field ++ 44 ∷ []) ∙ ap (λ l. l ++ 44 ∷ []) (sym (append-nil field))
fields_ended_is v (w ∷ behind) =
    let field = field_text default_writer (cell_text v) in
    let left = row_body default_writer (map cell_text (w ∷ behind)) in
    append_assoc field (44 ∷ []) (fields_ended (w ∷ behind)) ∙ ap (λ l. field ++ 44 ∷ l) (fields_ended_is w behind)
    ∙ sym (append_assoc field (44 ∷ left) (44 ∷ [])) ∙ ap (λ l. l ++ 44 ∷ []) (sym (row_body_more v w behind))

-- one field more
pub one_more_field : (row : List Value) (i : ℕ) (text next whole : List ℕ) → i < length row → text ++ fields_ended (drop i row) ≡ whole
    → next ≡ text ++ field_text default_writer (cell_text (cell row i)) ++ 44 ∷ [] → next ++ fields_ended (drop (i + 1) row) ≡ whole
one_more_field row i text next whole more e is =
    let field = field_text default_writer (cell_text (cell row i)) in
    let left = fields_ended (drop (i + 1) row) in
    let split : drop i row ≡ cell row i ∷ drop (i + 1) row = drop_more row i Null more in
    ap (λ l. l ++ left) is ∙ ap (λ l. l ++ left) (append_assoc text field (44 ∷ [])) ∙ append_assoc text (field ++ 44 ∷ []) left
    ∙ ap (λ l. text ++ fields_ended l) (sym split) ∙ e

-- the record of a row whose last field shows a byte
record_shown : (front : List Value) (last : Value) → (length (field_text default_writer (cell_text last)) == 0) ≡ false
    → row_record (front ++ last ∷ []) ≡ row_body default_writer (map cell_text (front ++ last ∷ [])) ++ 10 ∷ []
unfolding is_blank
record_shown [] last shown = rw shown refl
record_shown (v ∷ []) last shown = refl
record_shown (v ∷ w ∷ front) last shown = refl

-- the end of the line over the comma after the last field
line_ended : (buffer line : List ℕ) (next : ℕ) → next ≤ length buffer → take next buffer ≡ line ++ 44 ∷ [] → take next (set buffer (next - 1) 10) ≡ line ++ 10 ∷ []
line_ended buffer line next within is =
    let long : next ≡ length line + 1 = omega (arith, length-take-le next buffer within, ap length is, length-append line (44 ∷ [])) in
    let before : next - 1 ≡ length line = omega (arith, long) in
    let front : take (next - 1) buffer ≡ line = sym (take-take (next - 1) next buffer (omega arith)) ∙ ap (take (next - 1)) is ∙ ap (λ k. take k (line ++ 44 ∷ [])) before ∙ take-append_seam line (44 ∷ []) in
    take-set_at buffer (next - 1) next 10 (omega (arith, long)) (omega (arith, long)) ∙ ap (λ l. l ++ 10 ∷ []) front

pub row_ended : (row : List Value) (buffer before : List ℕ) (i next : ℕ) → length row ≡ i + 1 → next ≤ length buffer → (length (field_text default_writer (cell_text (cell row i))) == 0) ≡ false
    → take next buffer ≡ before ++ fields_ended row → take next (set buffer (next - 1) 10) ≡ before ++ row_record row
row_ended row buffer before i next long within shown is =
    let last : drop i row ≡ cell row i ∷ [] = drop_more row i Null (omega (arith, long)) ∙ ap (λ l. cell row i ∷ l) (drop_all (i + 1) row (omega (arith, long))) in
    let whole : row ≡ take i row ++ cell row i ∷ [] = sym (take-append-drop i row) ∙ ap (λ l. take i row ++ l) last in
    let body = row_body default_writer (map cell_text row) in
    let record_is : row_record row ≡ body ++ 10 ∷ [] = ap row_record whole ∙ record_shown (take i row) (cell row i) shown ∙ ap (λ l. row_body default_writer (map cell_text l) ++ 10 ∷ []) (sym whole) in
    line_ended buffer (before ++ body) next within (is ∙ ap (λ l. before ++ l) (ended row long) ∙ sym (append_assoc before body (44 ∷ [])))
    ∙ append_assoc before body (10 ∷ []) ∙ ap (λ l. before ++ l) (sym record_is)
  where
    ended : (row : List Value) → length row ≡ i + 1 → fields_ended row ≡ row_body default_writer (map cell_text row) ++ 44 ∷ []
    ended [] long = absurd (omega (arith, long))
    ended (v ∷ behind) long = fields_ended_is v behind
