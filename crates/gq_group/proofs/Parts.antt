-- The groups of rows that are parted by their keys.
use Rattle.std.proofs.Common.{◌≡◌, ◌≤◌, ◌<◌, ◌+◌, ◌==◌, ◌++◌, ℕ, zero, suc, Bool, true, false, not, cond, List, [], ◌∷◌, map, refl, sym, ap, subst, ◌∙◌, arith}
use Rattle.std.specs.Prelude.{filter, IsPermutation, Option}
use Rattle.std.specs.List.{flat_map, AllByRecursion}
use Rattle.std.proofs.lemmas.Bool.Decides.{nat_tests}
use Rattle.std.proofs.lemmas.List.{map-append}
use Rattle.std.proofs.lemmas.List.Sorted.{IsPermutation-refl, IsPermutation-trans, IsPermutation-map, IsPermutation-append_right, IsPermutation-filter_both}
use Rattle.gq_row.proofs.OrderLemmas.{same_key_exact}
use Rattle.gq_row.specs.declared.value.Value.{Value}
use Rattle.gq_row.specs.Order.{same_key}
use Rattle.gq_row.specs.Repeats.{without_repeats}
use Rattle.gq_row.specs.Rows.{key_of}
use Rattle.gq_row.specs.Tables.{keys}
use Rattle.gq_group.specs.Groups.{Spec, group_of, answers}
use Rattle.gq_group.specs.Partitioning.{row_groups, lots}
use Rattle.gq_group.proofs.Spilling.{without_repeats-filter, filter_absorb}

pub filter-map : {X Y : Type 0} (f : X → Y) (p : Y → Bool) (xs : List X) → map f (filter (λ x. p (f x)) xs) ≡ filter p (map f xs)
filter-map f p [] = refl
filter-map f p (x ∷ xs) = moved (p (f x)) ∙ ap (λ l. cond (p (f x)) (f x ∷ l) l) (filter-map f p xs)
  where
    moved : (b : Bool) → map f (cond b (x ∷ filter (λ y. p (f y)) xs) (filter (λ y. p (f y)) xs)) ≡ cond b (f x ∷ map f (filter (λ y. p (f y)) xs)) (map f (filter (λ y. p (f y)) xs))
    moved true = refl
    moved false = refl

-- the keys of the rows whose key passes a test
pub keys-filter : (by : List ℕ) (p : List Value → Bool) (rows : List (List Value)) → keys by (filter (λ row. p (key_of by row)) rows) ≡ filter p (keys by rows)
keys-filter by p rows =
    ap (without_repeats same_key) (filter-map (key_of by) p rows)
    ∙ without_repeats-filter p (λ k other same. ap p (sym (same_key_exact k other same))) (map (key_of by) rows)

-- a key that passes has the same group among the rows that pass
pub same_group : (spec : Spec) (p : List Value → Bool) (rows : List (List Value)) (k : List Value) → p k ≡ true → group_of spec rows k ≡ group_of spec (filter (λ row. p (key_of spec.by row)) rows) k
same_group spec p rows k here =
    ap (λ l. (k, answers spec.aggs l)) (sym (filter_absorb (λ row. same_key (key_of spec.by row) k) (λ row. p (key_of spec.by row)) (λ row same. ap p (same_key_exact (key_of spec.by row) k same) ∙ here) rows))

pub same_groups : (spec : Spec) (p : List Value → Bool) (rows ks : List (List Value)) → map (group_of spec rows) (filter p ks) ≡ map (group_of spec (filter (λ row. p (key_of spec.by row)) rows)) (filter p ks)
same_groups spec p rows [] = refl
same_groups spec p rows (k ∷ ks) = at (p k) refl (same_groups spec p rows ks)
  where
    at : (b : Bool) → p k ≡ b → map (group_of spec rows) (filter p ks) ≡ map (group_of spec (filter (λ row. p (key_of spec.by row)) rows)) (filter p ks) → map (group_of spec rows) (cond b (k ∷ filter p ks) (filter p ks)) ≡ map (group_of spec (filter (λ row. p (key_of spec.by row)) rows)) (cond b (k ∷ filter p ks) (filter p ks))
    at true e rest = ap (λ g. g ∷ map (group_of spec rows) (filter p ks)) (same_group spec p rows k e) ∙ ap (λ l. group_of spec (filter (λ row. p (key_of spec.by row)) rows) k ∷ l) rest
    at false e rest = rest

-- the groups of the rows that pass are the groups of the keys that pass
pub groups-filter : (spec : Spec) (p : List Value → Bool) (rows : List (List Value)) → row_groups spec (filter (λ row. p (key_of spec.by row)) rows) ≡ map (group_of spec rows) (filter p (keys spec.by rows))
groups-filter spec p rows =
    ap (map (group_of spec (filter (λ row. p (key_of spec.by row)) rows))) (keys-filter spec.by p rows)
    ∙ sym (same_groups spec p rows (keys spec.by rows))

-- a test of keys parts the groups
pub groups_parted : (spec : Spec) (p : List Value → Bool) (rows : List (List Value))
    → IsPermutation (row_groups spec rows) (row_groups spec (filter (λ row. p (key_of spec.by row)) rows) ++ row_groups spec (filter (λ row. not (p (key_of spec.by row))) rows))
groups_parted spec p rows =
    let parted : IsPermutation (keys spec.by rows) (filter p (keys spec.by rows) ++ filter (λ k. not (p k)) (keys spec.by rows))
    = IsPermutation-filter_both p (λ k. not (p k)) (λ k. refl) (keys spec.by rows) in
    let P : List (List Value × List (Option Value)) → Type 0 = λ l. IsPermutation (row_groups spec rows) l in
    subst P (map-append (group_of spec rows) (filter p (keys spec.by rows)) (filter (λ k. not (p k)) (keys spec.by rows))
    ∙ ap (λ l. l ++ map (group_of spec rows) (filter (λ k. not (p k)) (keys spec.by rows))) (sym (groups-filter spec p rows))
    ∙ ap (λ l. row_groups spec (filter (λ row. p (key_of spec.by row)) rows) ++ l) (sym (groups-filter spec (λ k. not (p k)) rows)))
    (IsPermutation-map (group_of spec rows) _ _ parted)

-- no row has a partition below q
abbrev pub AllFrom : (List Value → ℕ) → List ℕ → ℕ → List (List Value) → Type 0
AllFrom part_of by q rows = AllByRecursion (λ row. q ≤ part_of (key_of by row)) rows

pub all_from-next : (part_of : List Value → ℕ) (by : List ℕ) (q : ℕ) (rows : List (List Value)) → AllFrom part_of by q rows → AllFrom part_of by (suc q) (filter (λ row. not (part_of (key_of by row) == q)) rows)
all_from-next part_of by q [] h = tt
all_from-next part_of by q (row ∷ rows) h = at (part_of (key_of by row) == q) refl (all_from-next part_of by q rows h.1)
  where
    at : (b : Bool) → (part_of (key_of by row) == q) ≡ b → AllFrom part_of by (suc q) (filter (λ other. not (part_of (key_of by other) == q)) rows) → AllFrom part_of by (suc q) (cond (not b) (row ∷ filter (λ other. not (part_of (key_of by other) == q)) rows) (filter (λ other. not (part_of (key_of by other) == q)) rows))
    at true e rest = rest
    at false e rest = (let low : q ≤ part_of (key_of by row) = h.0 in grind (arith, nat_tests), rest)

other_part : (c q r : ℕ) → q < r → (c == r) ≡ true → not (c == q) ≡ true
other_part c q r less e = grind (arith, nat_tests)

-- later partitions don't see that the rows of an earlier one are gone
pub lots-later : (part_of : List Value → ℕ) (by : List ℕ) (q r n : ℕ) (rows : List (List Value)) → q < r → lots part_of by r n (filter (λ row. not (part_of (key_of by row) == q)) rows) ≡ lots part_of by r n rows
lots-later part_of by q r zero rows less = refl
lots-later part_of by q r (suc n) rows less =
    ap (λ l. l ∷ lots part_of by (suc r) n (filter (λ row. not (part_of (key_of by row) == q)) rows)) (filter_absorb (λ row. part_of (key_of by row) == r) (λ row. not (part_of (key_of by row) == q)) (λ row e. other_part (part_of (key_of by row)) q r less e) rows)
    ∙ ap (λ l. filter (λ row. part_of (key_of by row) == r) rows ∷ l) (lots-later part_of by q (suc r) n rows (omega arith))

-- the groups of the partitions are those of the rows
pub lots-groups : (spec : Spec) (part_of : List Value → ℕ) (q n : ℕ) (rows : List (List Value)) → ((k : List Value) → part_of k < q + n) → AllFrom part_of spec.by q rows
    → IsPermutation (row_groups spec rows) (flat_map (row_groups spec) (lots part_of spec.by q n rows))
lots-groups spec part_of q zero [] few from = IsPermutation-refl []
lots-groups spec part_of q zero (row ∷ rows) few from = let low : q ≤ part_of (key_of spec.by row) = from.0 in let high : part_of (key_of spec.by row) < q + zero = few (key_of spec.by row) in absurd (omega arith)
lots-groups spec part_of q (suc n) rows few from =
    let rest : List (List Value) = filter (λ row. not (part_of (key_of spec.by row) == q)) rows in
    let here : List (List Value) = filter (λ row. part_of (key_of spec.by row) == q) rows in
    let later : IsPermutation (row_groups spec rest) (flat_map (row_groups spec) (lots part_of spec.by (suc q) n rest))
    = lots-groups spec part_of (suc q) n rest (λ k. let f : part_of k < q + suc n = few k in omega arith) (all_from-next part_of spec.by q rows from) in
    let P : List (List (List Value)) → Type 0 = λ l. IsPermutation (row_groups spec rest) (flat_map (row_groups spec) l) in
    IsPermutation-trans _ _ _ (groups_parted spec (λ k. part_of k == q) rows)
    (IsPermutation-append_right (row_groups spec here) _ _ (subst P (lots-later part_of spec.by q (suc q) n rows (omega arith)) later))
