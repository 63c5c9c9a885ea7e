-- Names and texts of several clauses within their limits.
use Rattle.std.proofs.Common.{◌≡◌, Bool, true, false, List, [], ◌∷◌, refl, ap, ◌∙◌}
use Rattle.std.proofs.lemmas.List.Folds.{list_all-append}
use Rattle.std.specs.Prelude.{◌&&◌}
use Rattle.std.specs.List.{list_all, flat_map}
use Rattle.gq_clause.specs.Words.{Bytes}

-- what holds of all that items have holds of what each has
pub all_of : {A : Type 0} (p : Bytes → Bool) (has : A → List Bytes) (xs : List A) → list_all p (flat_map has xs) ≡ list_all (λ x. list_all p (has x)) xs
all_of p has [] = refl
all_of p has (x ∷ xs) = list_all-append p (has x) (flat_map has xs) ∙ ap (λ (b : Bool). list_all p (has x) && b) (all_of p has xs)

crossed : (a b c d : Bool) → (a && b) && (c && d) ≡ (a && c) && (b && d)
crossed false b c d = refl
crossed true false false d = refl
crossed true false true d = refl
crossed true true c d = refl

-- two tests of each item
pub all_both : {A : Type 0} (p q : A → Bool) (xs : List A) → list_all (λ x. p x && q x) xs ≡ list_all p xs && list_all q xs
all_both p q [] = refl
all_both p q (x ∷ xs) = ap (λ (b : Bool). (p x && q x) && b) (all_both p q xs) ∙ crossed (p x) (q x) (list_all p xs) (list_all q xs)
