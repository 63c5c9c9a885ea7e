-- The records of a part of rows, and of the next.
use Rattle.std.proofs.Common.{◌≡◌, ◌<◌, ◌≤◌, ◌+◌, ◌++◌, ◌∷◌, ◌∙◌, [], ℕ, List, length, drop, take, get_or, refl, sym, ap, arith, append_assoc}
use Rattle.std.proofs.lemmas.List.{append-nil, drop-append-le, drop_all, length-take, take-append-drop, take-take, take_all, take_more}
use Rattle.gq_row.specs.declared.value.Value.{Value}
use Rattle.gq_reply.specs.Bare.{records, row_record}

records_both : (xs ys : List (List Value)) → records (xs ++ ys) ≡ records xs ++ records ys
records_both [] ys = refl
records_both (x ∷ xs) ys = ap (λ l. row_record x ++ l) (records_both xs ys) ∙ sym (append_assoc (row_record x) (records xs) (records ys))

-- rows from one on, up to a second, and then up to a third
parts : (rows : List (List Value)) (from at end : ℕ) → from ≤ at → at ≤ end → end ≤ length rows → drop from (take end rows) ≡ drop from (take at rows) ++ drop at (take end rows)
parts rows from at end low order high =
    let front : take at (take end rows) ≡ take at rows = take-take at end rows order in
    let long : length (take at rows) ≡ at = length-take at rows ∙ omega arith in
    ap (drop from) (sym (take-append-drop at (take end rows)) ∙ ap (λ l. l ++ drop at (take end rows)) front)
    ∙ drop-append-le from (take at rows) (drop at (take end rows)) (omega (arith, long))

pub one_more_block : (rows : List (List Value)) (from at end : ℕ) → from ≤ at → at ≤ end → end ≤ length rows → records (drop from (take at rows)) ++ records (drop at (take end rows)) ≡ records (drop from (take end rows))
one_more_block rows from at end low order high = sym (ap records (parts rows from at end low order high) ∙ records_both (drop from (take at rows)) (drop at (take end rows)))

pub block_left : (rows : List (List Value)) (from at end : ℕ) → from ≤ at → at ≤ end → end ≤ length rows → records (drop from rows) ≡ (records (drop from (take at rows)) ++ records (drop at (take end rows))) ++ records (drop end rows)
block_left rows from at end low order high =
    let whole : take (length rows) rows ≡ rows = take_all (length rows) rows (omega arith) in
    ap (λ l. records (drop from l)) (sym whole) ∙ sym (one_more_block rows from end (length rows) (omega (arith, low, order)) high (omega arith))
    ∙ (λ i. sym (one_more_block rows from at end low order high) i ++ records (drop end (whole i)))

one_row : (rows : List (List Value)) (i : ℕ) → i < length rows → drop i (take (i + 1) rows) ≡ get_or rows i [] ∷ []
one_row rows i less =
    let long : length (take i rows) ≡ i = length-take i rows ∙ omega arith in
    ap (drop i) (take_more rows i [] less) ∙ drop-append-le i (take i rows) (get_or rows i [] ∷ []) (omega (arith, long)) ∙ ap (λ l. l ++ get_or rows i [] ∷ []) (drop_all i (take i rows) (omega (arith, long)))

pub one_more_record : (rows : List (List Value)) (start i : ℕ) → start ≤ i → i < length rows → records (drop start (take i rows)) ++ row_record (get_or rows i []) ≡ records (drop start (take (i + 1) rows))
one_more_record rows start i low less =
    ap (λ l. records (drop start (take i rows)) ++ l) (sym (append-nil (row_record (get_or rows i []))) ∙ ap records (sym (one_row rows i less)))
    ∙ one_more_block rows start i (i + 1) low (omega arith) (omega (arith, less))

pub records_left : (rows : List (List Value)) (start i end : ℕ) → start ≤ i → i < end → end ≤ length rows
    → records (drop start (take end rows)) ≡ (records (drop start (take i rows)) ++ row_record (get_or rows i [])) ++ records (drop (i + 1) (take end rows))
records_left rows start i end low less high =
    sym (one_more_block rows start (i + 1) end (omega (arith, low)) (omega (arith, less)) high) ∙ ap (λ l. l ++ records (drop (i + 1) (take end rows))) (sym (one_more_record rows start i low (omega (arith, less, high))))
