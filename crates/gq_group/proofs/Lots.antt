-- One row more in the run of its partition.
use Rattle.std.proofs.Common.{◌≡◌, ◌≤◌, ◌<◌, ◌+◌, ◌++◌, ◌==◌, ℕ, zero, suc, true, false, not, cond, List, [], ◌∷◌, length, refl, ap, ◌∙◌, arith}
use Rattle.std.specs.Prelude.{filter}
use Rattle.std.specs.List.{sum_by}
use Rattle.std.proofs.lemmas.Bool.Decides.{nat_tests}
use Rattle.std.proofs.lemmas.List.{append-nil}
use Rattle.std.proofs.lemmas.List.Elements.{filter-append}
use Rattle.std.proofs.lemmas.List.Sums.{sum_by-cons}
use Rattle.std.proofs.lemmas.List.Filters.{length-filter_both}
use Rattle.gq_row.specs.declared.value.Value.{Value}
use Rattle.gq_row.specs.Rows.{key_of}
use Rattle.gq_group.specs.Partitioning.{lots}
use Rattle.gq_group.specs.Partitions.{push_at}
use Rattle.gq_group.proofs.Parts.{AllFrom, lots-later, all_from-next}

same_test : (m n : ℕ) → m ≡ n → (m == n) ≡ true
same_test m n e = grind (arith, nat_tests)

less_test : (m n : ℕ) → m < n → (m == n) ≡ false
less_test m n h = grind (arith, nat_tests)

more_test : (m n : ℕ) → n < m → (m == n) ≡ false
more_test m n h = grind (arith, nat_tests)

-- rows of earlier partitions aren't in later lots
lots-same : (part_of : List Value → ℕ) (by : List ℕ) (q n : ℕ) (rows : List (List Value)) (row : List Value) → part_of (key_of by row) < q → lots part_of by q n (rows ++ row ∷ []) ≡ lots part_of by q n rows
lots-same part_of by q zero rows row less = refl
lots-same part_of by q (suc n) rows row less =
    ap (λ l. l ∷ lots part_of by (suc q) n (rows ++ row ∷ []))
    (filter-append (λ r. part_of (key_of by r) == q) rows (row ∷ []) ∙ ap (λ b. filter (λ r. part_of (key_of by r) == q) rows ++ cond b (row ∷ []) []) (less_test (part_of (key_of by row)) q less) ∙ append-nil _)
    ∙ ap (λ l. filter (λ r. part_of (key_of by r) == q) rows ∷ l) (lots-same part_of by (suc q) n rows row (omega arith))

pub lots-push : (part_of : List Value → ℕ) (by : List ℕ) (q n i : ℕ) (rows : List (List Value)) (row : List Value) → part_of (key_of by row) ≡ q + i → i < n
    → lots part_of by q n (rows ++ row ∷ []) ≡ push_at i row (lots part_of by q n rows)
lots-push part_of by q zero i rows row is less = absurd (omega arith)
lots-push part_of by q (suc n) zero rows row is less =
    ap (λ l. l ∷ lots part_of by (suc q) n (rows ++ row ∷ []))
    (filter-append (λ r. part_of (key_of by r) == q) rows (row ∷ []) ∙ ap (λ b. filter (λ r. part_of (key_of by r) == q) rows ++ cond b (row ∷ []) []) (same_test (part_of (key_of by row)) q (omega arith)))
    ∙ ap (λ l. (filter (λ r. part_of (key_of by r) == q) rows ++ row ∷ []) ∷ l) (lots-same part_of by (suc q) n rows row (omega arith))
lots-push part_of by q (suc n) (suc i) rows row is less =
    ap (λ l. l ∷ lots part_of by (suc q) n (rows ++ row ∷ []))
    (filter-append (λ r. part_of (key_of by r) == q) rows (row ∷ []) ∙ ap (λ b. filter (λ r. part_of (key_of by r) == q) rows ++ cond b (row ∷ []) []) (more_test (part_of (key_of by row)) q (omega arith)) ∙ append-nil _)
    ∙ ap (λ l. filter (λ r. part_of (key_of by r) == q) rows ∷ l) (lots-push part_of by (suc q) n i rows row (omega arith) (omega arith))

-- the lots have all rows
pub lots-length : (part_of : List Value → ℕ) (by : List ℕ) (q n : ℕ) (rows : List (List Value)) → ((k : List Value) → part_of k < q + n) → AllFrom part_of by q rows → sum_by length (lots part_of by q n rows) ≡ length rows
lots-length part_of by q zero [] few from = refl
lots-length part_of by q zero (row ∷ rows) few from = let low : q ≤ part_of (key_of by row) = from.0 in let high : part_of (key_of by row) < q + zero = few (key_of by row) in absurd (omega arith)
lots-length part_of by q (suc n) rows few from =
    let rest : List (List Value) = filter (λ row. not (part_of (key_of by row) == q)) rows in
    let here : List (List Value) = filter (λ row. part_of (key_of by row) == q) rows in
    let later : sum_by length (lots part_of by (suc q) n rest) ≡ length rest
    = lots-length part_of by (suc q) n rest (λ k. let f : part_of k < q + suc n = few k in omega arith) (all_from-next part_of by q rows from) in
    let same : sum_by length (lots part_of by (suc q) n rest) ≡ sum_by length (lots part_of by (suc q) n rows) = ap (sum_by length) (lots-later part_of by q (suc q) n rows (omega arith)) in
    let both : length here + length rest ≡ length rows = length-filter_both (λ row. part_of (key_of by row) == q) (λ row. not (part_of (key_of by row) == q)) (λ row. refl) rows in
    omega (arith, sum_by-cons length here (lots part_of by (suc q) n rows), later, same, both)
