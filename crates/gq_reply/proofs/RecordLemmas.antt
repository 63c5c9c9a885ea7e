-- The parts of a record, and records that show no byte.
use Rattle.std.proofs.Common.{◌≡◌, ◌<◌, ◌+◌, ◌==◌, ◌∷◌, ◌++◌, ◌∙◌, [], ℕ, suc, Bool, true, false, List, refl, sym, ap, length, map, take, drop, get_or, arith, append_assoc}
use Rattle.std.proofs.lemmas.Bool.{ne_eqb}
use Rattle.std.proofs.lemmas.List.{get_or-map, take-append-drop, take_more}
use Rattle.csv.specs.Writing.{default_writer, field_text, fields_text, escaped, is_blank, needs_quotes, next_sep, quoted, row_body}
use Rattle.csv.proofs.WriteFacts.{escaped-append, row-step}
use Rattle.gq_row.specs.declared.value.Value.{Value}
use Rattle.gq_row.specs.declared.value.Value.TheVariants.{Null}
use Rattle.gq_row.specs.Rows.{cell}
use Rattle.gq_reply.specs.Bare.{ending}
use Rattle.gq_reply.specs.Replies.{cell_text, record_text}

-- a field shows no byte exactly if it has none
shown : (field : List ℕ) → (length (field_text default_writer field) == 0) ≡ (length field == 0)
shown [] = refl
shown (b ∷ bs) = by (needs_quotes default_writer (b ∷ bs)) refl
  where
    some : (length (b ∷ bs) == 0) ≡ false
    some = ne_eqb (length (b ∷ bs)) 0 (λ e. omega (arith, e))

    by : (needs : Bool) → needs_quotes default_writer (b ∷ bs) ≡ needs → (length (field_text default_writer (b ∷ bs)) == 0) ≡ (length (b ∷ bs) == 0)
    by true e = rw (e, some) (ne_eqb (length (quoted default_writer (b ∷ bs))) 0 (λ e. omega (arith, e)))
    by false e = rw e refl

pub blank_none : (fields : List (List ℕ)) → length fields ≡ 0 → is_blank default_writer fields ≡ true
unfolding is_blank
blank_none [] e = refl
blank_none (f ∷ fs) e = absurd (omega (arith, e))

pub blank_one : (fields : List (List ℕ)) → length fields ≡ 1 → is_blank default_writer fields ≡ (length (get_or fields 0 []) == 0)
unfolding is_blank
blank_one [] e = absurd (omega (arith, e))
blank_one (f ∷ []) e = shown f
blank_one (f ∷ g ∷ fs) e = absurd (omega (arith, e))

pub blank_many : (fields : List (List ℕ)) → 1 < length fields → is_blank default_writer fields ≡ false
unfolding is_blank
blank_many [] h = absurd (omega (arith, h))
blank_many (f ∷ []) h = absurd (omega (arith, h))
blank_many (f ∷ g ∷ fs) h = refl

-- ---- the parts of a text

-- the bytes up to one, that one, and the others, as they are between quotes
pub escaped_parts : (field : List ℕ) (i : ℕ) → i < length field
    → escaped default_writer field ≡ (escaped default_writer (take i field) ++ escaped default_writer (get_or field i 0 ∷ [])) ++ escaped default_writer (drop (i + 1) field)
escaped_parts field i less =
    let w = default_writer in
    ap (escaped w) (sym (take-append-drop (i + 1) field)) ∙ escaped-append w (take (i + 1) field) (drop (i + 1) field)
    ∙ ap (λ l. l ++ escaped w (drop (i + 1) field)) (ap (escaped w) (take_more field i 0 less) ∙ escaped-append w (take i field) (get_or field i 0 ∷ []))

pub escaped_more : (field : List ℕ) (i : ℕ) → i < length field → escaped default_writer (take i field) ++ escaped default_writer (get_or field i 0 ∷ []) ≡ escaped default_writer (take (i + 1) field)
escaped_more field i less = sym (ap (escaped default_writer) (take_more field i 0 less) ∙ escaped-append default_writer (take i field) (get_or field i 0 ∷ []))

fields_both : (xs ys : List (List ℕ)) → fields_text default_writer (xs ++ ys) ≡ fields_text default_writer xs ++ fields_text default_writer ys
unfolding fields_text
fields_both [] ys = refl
fields_both (x ∷ xs) ys =
    let field = field_text default_writer x in
    ap (λ l. 44 ∷ (field ++ l)) (fields_both xs ys) ∙ ap (λ l. 44 ∷ l) (sym (append_assoc field (fields_text default_writer xs) (fields_text default_writer ys)))

-- the fields up to one, and the others
body_parts : (fields : List (List ℕ)) (i : ℕ) → i < length fields → row_body default_writer fields ≡ row_body default_writer (take (i + 1) fields) ++ fields_text default_writer (drop (i + 1) fields)
body_parts [] i less = absurd (omega (arith, less))
body_parts (f ∷ fs) i less =
    let field = field_text default_writer f in
    let next : i + 1 ≡ suc i = omega arith in
    rw next (ap (λ l. field ++ l) (ap (fields_text default_writer) (sym (take-append-drop i fs)) ∙ fields_both (take i fs) (drop i fs)) ∙ sym (append_assoc field (fields_text default_writer (take i fs)) (fields_text default_writer (drop i fs))))

-- what follows a field in its record
abbrev pub rest_after : ℕ → List (List ℕ) → List ℕ
rest_after i fields = fields_text default_writer (drop (i + 1) fields) ++ ending (is_blank default_writer fields)

pub record_parts : (fields : List (List ℕ)) (i : ℕ) → i < length fields
    → record_text fields ≡ (row_body default_writer (take i fields) ++ (next_sep default_writer i ++ field_text default_writer (get_or fields i []))) ++ rest_after i fields
record_parts fields i less =
    let end = ending (is_blank default_writer fields) in
    let front = row_body default_writer (take (i + 1) fields) in
    ap (λ l. l ++ end) (body_parts fields i less) ∙ append_assoc front (fields_text default_writer (drop (i + 1) fields)) end
    ∙ ap (λ l. l ++ rest_after i fields) (row-step default_writer fields i less)

-- the field of a cell
pub cell_field : (row : List Value) (i : ℕ) → i < length row → get_or (map cell_text row) i [] ≡ cell_text (cell row i)
cell_field row i less = get_or-map cell_text row i Null [] less
