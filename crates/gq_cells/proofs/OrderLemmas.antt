-- Lists of numbers in the order of keys.
use Rattle.std.proofs.Common.{◌≡◌, ℕ, ℤ, true, List, [], ◌∷◌, Option, Some, None, map, Ordering, Less, Equal, Greater, refl, sym, ap₂, ◌∙◌}
use Rattle.std.specs.Cmp.{Equal-is}
use Rattle.std.specs.Cmp.Lexicographic.{slice_cmp}
use Rattle.std.specs.Option.{option_cmp}
use Rattle.std.specs.Ordering.{int_cmp, nat_cmp, ordering_then}
use Rattle.std.specs.Prelude.{bytes_eq}
use Rattle.std.proofs.lemmas.Map.Text.{is_eq-slice_cmp}
use Rattle.gq_row.specs.declared.value.Value.{Value}
use Rattle.gq_row.specs.declared.value.Value.TheVariants.{Int}
use Rattle.gq_row.specs.Order.{compare_keys, compare_values, folded_order, plain_order}
use Rattle.gq_row.proofs.FoldLemmas.{then_same}
use Rattle.gq_cells.specs.Cells.{number_cell}

-- values that are their own folds, in an order of what they are made of
module _ {X : Type 0} (order : X → X → Ordering) (f : X → Value) (plain : (x y : X) → plain_order (f x) (f y) ≡ order x y) (fold : (x y : X) → folded_order (f x) (f y) ≡ order x y) where
  by_plain : (a b : List X) → slice_cmp plain_order (map f a) (map f b) ≡ slice_cmp order a b
  by_plain [] [] = refl
  by_plain [] (y ∷ b) = refl
  by_plain (x ∷ a) [] = refl
  by_plain (x ∷ a) (y ∷ b) = ap₂ ordering_then (plain x y) (by_plain a b)

  by_fold : (a b : List X) → slice_cmp folded_order (map f a) (map f b) ≡ slice_cmp order a b
  by_fold [] [] = refl
  by_fold [] (y ∷ b) = refl
  by_fold (x ∷ a) [] = refl
  by_fold (x ∷ a) (y ∷ b) = ap₂ ordering_then (fold x y) (by_fold a b)

  by_each : (a b : List X) → compare_keys (map f a) (map f b) ≡ slice_cmp order a b
  by_each a b = ap₂ ordering_then (by_fold a b) (by_plain a b) ∙ then_same (slice_cmp order a b)

pub numbers_by_each : (a b : List ℤ) → slice_cmp int_cmp a b ≡ compare_keys (map Int a) (map Int b)
numbers_by_each a b = sym (by_each int_cmp Int (λ x y. refl) (λ x y. refl) a b)

pub nullable_by_each : (a b : List (Option ℤ)) → slice_cmp (option_cmp int_cmp) a b ≡ compare_keys (map number_cell a) (map number_cell b)
nullable_by_each a b = sym (by_each (option_cmp int_cmp) number_cell plain fold a b)
  where
    plain : (x y : Option ℤ) → plain_order (number_cell x) (number_cell y) ≡ option_cmp int_cmp x y
    plain None None = refl
    plain None (Some y) = refl
    plain (Some x) None = refl
    plain (Some x) (Some y) = refl

    fold : (x y : Option ℤ) → folded_order (number_cell x) (number_cell y) ≡ option_cmp int_cmp x y
    fold None None = refl
    fold None (Some y) = refl
    fold (Some x) None = refl
    fold (Some x) (Some y) = refl

-- ---- lists that are compared by the folds of their values, and by values where these tie

ended : (p q : Ordering) → ordering_then p q ≡ Equal → (p ≡ Equal) × (q ≡ Equal)
ended Less q tie = cc tie
ended Equal q tie = (refl, tie)
ended Greater q tie = cc tie

same_ties : (a b : List Value) → slice_cmp folded_order a b ≡ Equal → slice_cmp compare_values a b ≡ slice_cmp plain_order a b
same_ties [] [] tie = refl
same_ties [] (y ∷ b) tie = refl
same_ties (x ∷ a) [] tie = refl
same_ties (x ∷ a) (y ∷ b) tie =
    let both = ended (folded_order x y) (slice_cmp folded_order a b) tie in
    λ i. ordering_then (ordering_then (both.0 i) (plain_order x y)) (same_ties a b both.1 i)

pub keys_by_values : (a b : List Value) → slice_cmp folded_order a b ≡ Equal → slice_cmp compare_values a b ≡ compare_keys a b
keys_by_values a b tie = same_ties a b tie ∙ (λ i. ordering_then (sym tie i) (slice_cmp plain_order a b))

first_told : (p q : Ordering) → (p ≡ Equal → ⊥) → p ≡ ordering_then p q
first_told Less q told = refl
first_told Equal q told = absurd (told refl)
first_told Greater q told = refl

pub keys_by_folds : (a b : List Value) → (slice_cmp folded_order a b ≡ Equal → ⊥) → slice_cmp folded_order a b ≡ compare_keys a b
keys_by_folds a b told = first_told (slice_cmp folded_order a b) (slice_cmp plain_order a b) told

-- texts of the same bytes tie
pub texts_tie : (s t : List ℕ) → bytes_eq s t ≡ true → Equal ≡ slice_cmp nat_cmp s t
texts_tie s t same = sym ((Equal-is (slice_cmp nat_cmp s t)).0 (is_eq-slice_cmp s t ∙ same))
