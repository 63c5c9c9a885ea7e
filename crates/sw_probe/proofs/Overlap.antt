-- Byte strings of 8 to 16 bytes by their first and last eight.
use Rattle.std.proofs.Common.{◌≡◌, ℕ, ◌+◌, ◌-◌, ◌≤◌, List, ◌++◌, length, take, drop, sym, ap, ◌∙◌, arith}
use Rattle.std.proofs.lemmas.List.{take-append-drop, drop-drop, take_all, length-drop}

-- the first 8 and the rest from `last` on are all of it, if `last` is at most 8
pub same_by_ends : (xs ys : List ℕ) (last : ℕ) → last ≤ 8 → length xs ≡ last + 8 → length ys ≡ last + 8 → take 8 xs ≡ take 8 ys → take 8 (drop last xs) ≡ take 8 (drop last ys) → xs ≡ ys
same_by_ends xs ys last le m n front back =
    let whole : drop last xs ≡ drop last ys =
    sym (take_all 8 (drop last xs) (omega (arith, length-drop last xs))) ∙ back ∙ take_all 8 (drop last ys) (omega (arith, length-drop last ys)) in
    let split : 8 ≡ last + (8 - last) = omega arith in
    let rest : drop 8 xs ≡ drop 8 ys =
    ap (λ k. drop k xs) split ∙ sym (drop-drop (8 - last) last xs) ∙ ap (drop (8 - last)) whole ∙ drop-drop (8 - last) last ys ∙ ap (λ k. drop k ys) (sym split) in
    sym (take-append-drop 8 xs) ∙ (λ j. front j ++ rest j) ∙ take-append-drop 8 ys
