-- Line feeds, piece by piece.
use Rattle.std.proofs.Common.{◌≡◌, ◌∙◌, ◌+◌, ◌-◌, ◌≤◌, ℕ, Bool, cond, List, take, drop, eqb, count_by, ap, arith}
use Rattle.std.proofs.lemmas.List.Folds.{drop_split}
use Rattle.std.proofs.lemmas.List.Sums.{sum_by-append}

abbrev is_lf : ℕ → Bool
is_lf byte = eqb byte 10

-- the remaining bytes are a piece, and what remains after it
pub piece_more : (bytes : List ℕ) (count at end : ℕ) → at ≤ end → count + count_by (λ byte. eqb byte 10) (drop at bytes) ≡ count_by (λ byte. eqb byte 10) bytes
    → count + count_by (λ byte. eqb byte 10) (take (end - at) (drop at bytes)) + count_by (λ byte. eqb byte 10) (drop end bytes) ≡ count_by (λ byte. eqb byte 10) bytes
piece_more bytes count at end h total =
    let split : count_by is_lf (drop at bytes) ≡ count_by is_lf (take (end - at) (drop at bytes)) + count_by is_lf (drop end bytes) =
    ap (count_by is_lf) (drop_split bytes at end h) ∙ sum_by-append (λ byte. cond (is_lf byte) 1 0) (take (end - at) (drop at bytes)) (drop end bytes) in
    omega (arith, total, split)
