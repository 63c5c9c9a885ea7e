-- Bytes that are marked stay control bytes.
use Rattle.std.proofs.Common.{◌≡◌, ℕ, ◌+◌, ◌≤◌, Bool, true, false, cond, List, ◌++◌, map, length, take, drop, refl, sym, ap, ◌∙◌, arith}
use Rattle.std.proofs.lemmas.List.{drop_all, append-nil, take_all, length-map, length-append, length-drop, length-take-le, take_at, drop_at, drop-drop, map-append, append_assoc}
use Rattle.std.proofs.Math.Seq.{take-add}
use Rattle.std.proofs.lemmas.List.Elements.{All-map}
use Rattle.std.specs.Prelude.{All, slice_index_or}
use Rattle.sw_ctrl.specs.Bytes.{IsControl, is_full, marked}
use Rattle.sw_ctrl.specs.declared.control.TheConstants.{EMPTY, DELETED}

chosen : (t : Bool) → IsControl (cond t DELETED EMPTY)
chosen true = refl
chosen false = refl

pub All-marked : (bs : List ℕ) → All IsControl (map marked bs)
All-marked bs = All-map IsControl marked bs (λ k d lt. chosen (is_full (slice_index_or bs k d)))

-- what a `Vec` holds after all its items were borrowed
pub lent_whole : (xs ys : List ℕ) (n : ℕ) → n ≡ length xs → length ys ≡ length xs → take n (ys ++ drop (length ys) xs) ≡ ys
lent_whole xs ys n e long = ap (λ l. take n (ys ++ l)) (drop_all (length ys) xs (omega arith)) ∙ ap (take n) (append-nil ys) ∙ take_all n ys (omega arith)

-- k more bytes are marked
pub marked_more : (xs ys zs : List ℕ) (at k : ℕ) → at + k ≤ length xs → ys ≡ map marked (take at xs) ++ drop at xs → zs ≡ map marked (take k (drop at ys))
    → take at ys ++ (zs ++ drop k (drop at ys)) ≡ map marked (take (at + k) xs) ++ drop (at + k) xs
marked_more xs ys zs at k le is new =
    let A = map marked (take at xs) in let B = drop at xs in
    let long : length A ≡ at = length-map (take at xs) marked ∙ length-take-le at xs (omega arith) in
    let rest : drop at ys ≡ B = ap (drop at) is ∙ drop_at A B at long in
    let front : take at ys ≡ A = ap (take at) is ∙ take_at A B at long in
    let Z = map marked (take k B) in
    let zs_is : zs ≡ Z = new ∙ ap (λ l. map marked (take k l)) rest in
    (λ i. front i ++ (zs_is i ++ drop k (rest i)))
    ∙ sym (append_assoc A Z (drop k B))
    ∙ (λ i. sym (map-append marked (take at xs) (take k B)) i ++ drop-drop k at xs i)
    ∙ ap (λ l. map marked l ++ drop (at + k) xs) (sym (take-add at k xs))

pub length_so_far : (xs ys : List ℕ) (at : ℕ) → at ≤ length xs → ys ≡ map marked (take at xs) ++ drop at xs → length ys ≡ length xs
length_so_far xs ys at le is = ap length is ∙ omega (arith, length-append (map marked (take at xs)) (drop at xs), length-map (take at xs) marked, length-take-le at xs le, length-drop at xs)
