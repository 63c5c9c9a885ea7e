-- The fields of a record as parts of its bytes.
use Rattle.std.proofs.Common.{◌≡◌, ◌∙◌, ℕ, zero, suc, ◌-◌, ◌<◌, ◌≤◌, List, [], ◌∷◌, ◌++◌, length, get_or, take, drop, Some, None, refl, sym, ap, arith, length-drop, take-append-drop}
use Rattle.std.proofs.lemmas.List.{drop-append-le, length-take-le, map-append, take-append-le}
use Rattle.std.proofs.lemmas.List.Elements.{All-head, All-tail}
use Rattle.csv.specs.Records.{field_at}
use Rattle.gq_csv.specs.declared.span.FieldSpan.{FieldSpan}
use Rattle.gq_csv.specs.Fields.{AreWithin, IsWithin, cut, fields_in}

-- ---- more bytes after those of the fields

cut_more : (bytes more : List ℕ) (span : FieldSpan) → IsWithin (length bytes) span → cut (bytes ++ more) span ≡ cut bytes span
cut_more bytes more span h =
    ap (take (span.end - span.start)) (drop-append-le span.start bytes more (omega (arith, h.0, h.1)))
    ∙ take-append-le (span.end - span.start) (drop span.start bytes) more (omega (arith, length-drop span.start bytes, h.0, h.1))

pub fields_more : (bytes more : List ℕ) (spans : List FieldSpan) → AreWithin (length bytes) spans → fields_in (bytes ++ more) spans ≡ fields_in bytes spans
fields_more bytes more [] h = refl
fields_more bytes more (span ∷ spans) h =
    let first = cut_more bytes more span (All-head (IsWithin (length bytes)) span spans h) in
    let others = fields_more bytes more spans (All-tail (IsWithin (length bytes)) span spans h) in
    λ i. first i ∷ others i

pub within_more : (n m : ℕ) (spans : List FieldSpan) → n ≤ m → AreWithin n spans → AreWithin m spans
within_more n m spans le h k d lt = let w = h k d lt in (w.0, omega (arith, w.1, le))

pub fields_taken : (n : ℕ) (bytes : List ℕ) (spans : List FieldSpan) → n ≤ length bytes → AreWithin n spans → fields_in (take n bytes) spans ≡ fields_in bytes spans
fields_taken n bytes spans le h =
    let size : n ≤ length (take n bytes) = omega (arith, length-take-le n bytes le) in
    sym (fields_more (take n bytes) (drop n bytes) spans (within_more n (length (take n bytes)) spans size h)) ∙ ap (λ all. fields_in all spans) (take-append-drop n bytes)

pub fields_end : (bytes : List ℕ) (spans : List FieldSpan) (span : FieldSpan) → fields_in bytes (spans ++ span ∷ []) ≡ fields_in bytes spans ++ cut bytes span ∷ []
fields_end bytes spans span = map-append (cut bytes) spans (span ∷ [])

-- ---- a field by its place

pub field_there : (bytes : List ℕ) (spans : List FieldSpan) (i : ℕ) (d : FieldSpan) → i < length spans → field_at (fields_in bytes spans) i ≡ Some (cut bytes (get_or spans i d))
unfolding field_at
field_there bytes [] i d lt = absurd (omega (arith, lt))
field_there bytes (span ∷ spans) zero d lt = refl
field_there bytes (span ∷ spans) (suc i) d lt = field_there bytes spans i d (omega (arith, lt))

pub no_field : (bytes : List ℕ) (spans : List FieldSpan) (i : ℕ) → length spans ≤ i → field_at (fields_in bytes spans) i ≡ None
unfolding field_at
no_field bytes [] i le = refl
no_field bytes (span ∷ spans) zero le = absurd (omega (arith, le))
no_field bytes (span ∷ spans) (suc i) le = no_field bytes spans i (omega (arith, le))
