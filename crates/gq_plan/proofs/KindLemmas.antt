-- Kinds of two lists of columns, one by one.
use Rattle.std.proofs.Common.{◌≡◌, ℕ, suc, Bool, true, false, ◌&&◌, List, [], ◌∷◌, length, map, refl, ap}
use Rattle.std.specs.Cmp.Lexicographic.{pointwise}
use Rattle.gq_row.specs.declared.schema.Kind.{Kind}
use Rattle.gq_plan.specs.Kinds.{same_kind}

and_false : (a b : Bool) → false ≡ b → false ≡ (a && b)
and_false true b e = e
and_false false b e = refl

-- lists of two lengths don't agree
pub unequal_lengths : (p q : ℕ → Kind) (xs ys : List ℕ) → (length xs ≡ length ys → ⊥) → false ≡ pointwise same_kind (map p xs) (map q ys)
unequal_lengths p q [] [] h = absurd (h refl)
unequal_lengths p q [] (y ∷ ys) h = refl
unequal_lengths p q (x ∷ xs) [] h = refl
unequal_lengths p q (x ∷ xs) (y ∷ ys) h = and_false (same_kind (p x) (q y)) (pointwise same_kind (map p xs) (map q ys)) (unequal_lengths p q xs ys (λ e. h (ap (λ n. suc n) e)))
