-- What is read of a CSV text.
use Rattle.std.proofs.Common.{◌≡◌, ◌+◌, ◌≤◌, ◌<◌, ℕ, zero, suc, List, [], ◌∷◌, ◌++◌, ◌∙◌, refl, ap, length, map, flat_map, arith, length-append}
use Rattle.csv.specs.Machine.{next_record}
use Rattle.csv.specs.Reading.{default_config, records, records_from}
use Rattle.csv.specs.Writing.{default_writer, read_back, row_text}
use Rattle.csv.specs.declared.parser.State.TheVariants as st
use Rattle.csv.proofs.RoundTrip.{read-write, rows_text}
use Rattle.gq_row.specs.declared.value.Value.{Value}
use Rattle.gq_reply.specs.Replies.{cell_text, record_text, records_text}

read_rows : (rows : List (List (List ℕ))) (n : ℕ) → length rows < n → records_from default_config n st.StartRecord (rows_text rows) ≡ map read_back rows
unfolding records_from rows_text next_record
read_rows [] zero less = absurd (omega (arith, less))
read_rows [] (suc n) less = refl
read_rows (row ∷ rows) zero less = absurd (omega (arith, less))
read_rows (row ∷ rows) (suc n) less = rw (read-write row (rows_text rows)) (ap (λ (t : List (List (List ℕ))). read_back row ∷ t) (read_rows rows n (omega (arith, less))))

row_length : (row : List (List ℕ)) → 1 ≤ length (row_text default_writer row)
row_length row = simp length-append (omega arith)

rows_length : (rows : List (List (List ℕ))) → length rows ≤ length (rows_text rows)
unfolding rows_text
rows_length [] = omega arith
rows_length (row ∷ rows) = let more = rows_length rows in let one = row_length row in rw (length-append (row_text default_writer row) (rows_text rows)) (omega (arith, more, one))

same_rows : (rows : List (List Value)) → flat_map (λ row. record_text (map cell_text row)) rows ≡ rows_text (map (map cell_text) rows)
unfolding rows_text
same_rows [] = refl
same_rows (row ∷ rows) = ap (λ l. record_text (map cell_text row) ++ l) (same_rows rows)

pub csv_back : (header : List (List ℕ)) (rows : List (List Value)) → records default_config (records_text header rows) ≡ map read_back (header ∷ map (map cell_text) rows)
unfolding rows_text
csv_back header rows =
    let all = header ∷ map (map cell_text) rows in
    let fits = rows_length all in
    ap (λ l. records default_config (record_text header ++ l)) (same_rows rows) ∙ read_rows all (length (rows_text all) + 1) (omega (arith, fits))
