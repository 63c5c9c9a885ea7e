-- Folds of texts and of values.
use Rattle.std.proofs.Common.{◌≡◌, ◌≤◌, ◌<◌, ◌+◌, ◌⊎◌, inl, inr, ℕ, suc, Bool, true, false, ◌&&◌, List, [], ◌∷◌, map, length, drop, bytes_eq, nat_eq, Ordering, Less, Equal, Greater, refl, ap, ap₂, ◌∙◌, arith, IsTrue}
use Rattle.std.specs.Char.{to_ascii_lowercase}
use Rattle.std.specs.Cmp.Lexicographic.{slice_cmp, pointwise}
use Rattle.std.specs.List.{list_all}
use Rattle.std.specs.Ordering.{nat_cmp, ordering_then}
use Rattle.std.proofs.lemmas.Bool.{and_parts, false≢true}
use Rattle.std.proofs.lemmas.Bool.Decides.{nat_tests}
use Rattle.std.proofs.lemmas.List.{drop_more, drop_all}
use Rattle.gq_row.specs.declared.value.Value.{Value}
use Rattle.gq_row.specs.declared.value.Value.TheVariants.{Null, Int, Text, NoCase}
use Rattle.gq_row.specs.Folding.{fold_case, folded, has_case}
use Rattle.gq_row.specs.Order.{compare_values, compare_keys, plain_order, folded_order, equal_value, same_value, same_key}
use Rattle.gq_row.specs.Rows.{cell, cells_in, key_of}

-- ---- texts

and_false : (a b : Bool) → false ≡ b → false ≡ (a && b)
and_false true b e = e
and_false false b e = refl

pub unequal_texts : (text other : List ℕ) → (length text ≡ length other → ⊥) → false ≡ bytes_eq (fold_case text) other
unequal_texts [] [] h = absurd (h refl)
unequal_texts [] (d ∷ ds) h = refl
unequal_texts (c ∷ cs) [] h = refl
unequal_texts (c ∷ cs) (d ∷ ds) h = and_false (nat_eq (to_ascii_lowercase c) d) (bytes_eq (fold_case cs) ds) (unequal_texts cs ds (λ e. h (ap (λ n. suc n) e)))

pub longer_fold : (a b : List ℕ) (i : ℕ) → i < length a → length b ≤ i
    → slice_cmp nat_cmp (fold_case (drop i a)) (fold_case (drop i b)) ≡ slice_cmp nat_cmp (fold_case a) (fold_case b) → Greater ≡ slice_cmp nat_cmp (fold_case a) (fold_case b)
longer_fold a b i more done rest = rw (drop_more a i 0 more, drop_all i b done) at rest

pub shorter_fold : (a b : List ℕ) (i : ℕ) → i < length b → length a ≤ i
    → slice_cmp nat_cmp (fold_case (drop i a)) (fold_case (drop i b)) ≡ slice_cmp nat_cmp (fold_case a) (fold_case b) → Less ≡ slice_cmp nat_cmp (fold_case a) (fold_case b)
shorter_fold a b i more done rest = rw (drop_more b i 0 more, drop_all i a done) at rest

pub letter_folds : (c : ℕ) → 65 ≤ c → c ≤ 90 → to_ascii_lowercase c ≡ c + 32
letter_folds c low high = grind (arith, nat_tests)

pub other_stays : (c : ℕ) → (c < 65) ⊎ (90 < c) → to_ascii_lowercase c ≡ c
other_stays c (inl low) = grind (arith, nat_tests)
other_stays c (inr high) = grind (arith, nat_tests)

fold_once : (c : ℕ) → to_ascii_lowercase (to_ascii_lowercase c) ≡ to_ascii_lowercase c
fold_once c = grind (arith, nat_tests)

pub folds_once : (text : List ℕ) → fold_case (fold_case text) ≡ fold_case text
folds_once [] = refl
folds_once (c ∷ cs) = λ i. fold_once c i ∷ folds_once cs i

pub length-fold : (text : List ℕ) → length (fold_case text) ≡ length text
length-fold [] = refl
length-fold (c ∷ cs) = ap (λ n. suc n) (length-fold cs)

-- ---- values

pub folded_once : (a : Value) → folded (folded a) ≡ folded a
folded_once Null = refl
folded_once (Int n) = refl
folded_once (Text t) = refl
folded_once (NoCase t) = ap NoCase (folds_once t)

pub folded_all_once : (cells : List Value) → map folded (map folded cells) ≡ map folded cells
folded_all_once [] = refl
folded_all_once (v ∷ vs) = λ i. folded_once v i ∷ folded_all_once vs i

-- the key of a row is of the folds of its cells
pub key-cells : (columns : List ℕ) (row : List Value) → map folded (cells_in columns row) ≡ key_of columns row
key-cells [] row = refl
key-cells (c ∷ cs) row = ap (λ vs. folded (cell row c) ∷ vs) (key-cells cs row)

-- and is folded
pub key_folded : (columns : List ℕ) (row : List Value) → map folded (key_of columns row) ≡ key_of columns row
key_folded [] row = refl
key_folded (c ∷ cs) row = λ i. folded_once (cell row c) i ∷ key_folded cs row i

pub same_cells : (columns : List ℕ) (a b : List Value) → same_key (key_of columns a) (key_of columns b) ≡ pointwise same_value (cells_in columns a) (cells_in columns b)
same_cells [] a b = refl
same_cells (c ∷ cs) a b = ap (λ rest. equal_value (folded (cell a c)) (folded (cell b c)) && rest) (same_cells cs a b)

-- ---- where there is no text without case

pub folded_plain : (a : Value) → IsTrue (has_case a) → folded a ≡ a
folded_plain Null h = refl
folded_plain (Int n) h = refl
folded_plain (Text t) h = refl
folded_plain (NoCase t) h = absurd (false≢true h)

pub key_plain : (columns : List ℕ) (row : List Value) → IsTrue (list_all has_case (cells_in columns row)) → key_of columns row ≡ cells_in columns row
key_plain [] row h = refl
key_plain (c ∷ cs) row h =
    let parts = and_parts (has_case (cell row c)) (list_all has_case (cells_in cs row)) h in
    λ i. folded_plain (cell row c) parts.0 i ∷ key_plain cs row parts.1 i

pub same_plain : (a b : Value) → IsTrue (has_case a) → IsTrue (has_case b) → same_value a b ≡ equal_value a b
same_plain a b h g = ap₂ equal_value (folded_plain a h) (folded_plain b g)

pub folded_order-plain : (a b : Value) → IsTrue (has_case a) → IsTrue (has_case b) → folded_order a b ≡ plain_order a b
folded_order-plain a b h g = ap₂ plain_order (folded_plain a h) (folded_plain b g)

pub then_same : (o : Ordering) → ordering_then o o ≡ o
then_same Less = refl
then_same Equal = refl
then_same Greater = refl

pub values_plain : (a b : Value) → IsTrue (has_case a) → IsTrue (has_case b) → compare_values a b ≡ plain_order a b
values_plain a b h g = ap (λ o. ordering_then o (plain_order a b)) (folded_order-plain a b h g) ∙ then_same (plain_order a b)

lists_plain : (a b : List Value) → IsTrue (list_all has_case a) → IsTrue (list_all has_case b) → slice_cmp folded_order a b ≡ slice_cmp plain_order a b
lists_plain [] [] h g = refl
lists_plain [] (w ∷ ws) h g = refl
lists_plain (v ∷ vs) [] h g = refl
lists_plain (v ∷ vs) (w ∷ ws) h g =
    let left = and_parts (has_case v) (list_all has_case vs) h in
    let right = and_parts (has_case w) (list_all has_case ws) g in
    ap₂ ordering_then (folded_order-plain v w left.0 right.0) (lists_plain vs ws left.1 right.1)

pub keys_plain : (a b : List Value) → IsTrue (list_all has_case a) → IsTrue (list_all has_case b) → compare_keys a b ≡ slice_cmp plain_order a b
keys_plain a b h g = ap (λ o. ordering_then o (slice_cmp plain_order a b)) (lists_plain a b h g) ∙ then_same (slice_cmp plain_order a b)
