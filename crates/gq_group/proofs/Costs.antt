-- What one pass over rows costs: the rows that it writes, and what may be written for its runs.
use Rattle.std.proofs.Common.{◌≡◌, ◌≤◌, ◌<◌, ◌+◌, ◌-◌, ◌*◌, ◌/◌, ◌++◌, ℕ, zero, suc, Bool, List, [], ◌∷◌, length, map, refl, sym, ap, subst, ◌∙◌, arith, length-append}
use Rattle.std.specs.Prelude.{filter, IsPermutation, Option, not}
use Rattle.std.specs.List.{flat_map, sum_by}
use Rattle.std.proofs.Math.Nat.{mul-le-mul_right}
use Rattle.std.proofs.lemmas.List.{length-map}
use Rattle.std.proofs.lemmas.List.Sums.{sum_by-cons}
use Rattle.std.proofs.lemmas.List.Filters.{length-filter_both}
use Rattle.std.proofs.lemmas.List.Sorted.{length_permutation}
use Rattle.gq_row.specs.declared.value.Value.{Value}
use Rattle.gq_row.specs.Repeats.{without_repeats}
use Rattle.gq_row.specs.Rows.{key_of}
use Rattle.gq_row.specs.Tables.{keys}
use Rattle.gq_row.specs.Order.{same_key}
use Rattle.gq_group.specs.Groups.{Spec, Group, group_of, answered}
use Rattle.gq_group.specs.Partitioning.{row_groups, count_groups, cost, excess, one_if_some}
use Rattle.gq_group.proofs.Bounds.{part_cost, part_runs}

pub length-flat_map : {X Y : Type 0} (f : X → List Y) (xs : List X) → length (flat_map f xs) ≡ sum_by (λ x. length (f x)) xs
length-flat_map f [] = refl
length-flat_map f (x ∷ xs) = length-append (f x) (flat_map f xs) ∙ ap (λ n. length (f x) + n) (length-flat_map f xs) ∙ sym (sum_by-cons (λ y. length (f y)) x xs)

-- rows have groups
pub some_groups : (spec : Spec) (rows : List (List Value)) → 0 < length rows → 0 < count_groups spec rows
some_groups spec [] some = absurd (omega arith)
some_groups spec (row ∷ rows) some = omega arith

pub cost-none : (budget : ℕ) (spec : Spec) (rows : List (List Value)) → length rows ≡ 0 → cost budget spec rows ≡ 0
cost-none budget spec rows none = ap (λ n. n * ((count_groups spec rows - 1) / budget)) none ∙ omega arith

one_cost : (budget whole : ℕ) (spec : Spec) (rows : List (List Value)) → 0 < budget → (0 < length rows → count_groups spec rows + budget ≤ whole)
    → length rows + cost budget spec rows ≤ length rows * ((whole - 1) / budget)
one_cost budget whole spec [] some within = omega (arith, cost-none budget spec [] refl)
one_cost budget whole spec (row ∷ rows) some within = part_cost (length (row ∷ rows)) budget (count_groups spec (row ∷ rows)) whole some (some_groups spec (row ∷ rows) (omega arith)) (within (omega arith))

-- the rows of the runs, and what may be written for them, are within what those rows may cost the whole
pub parts_cost : (budget whole : ℕ) (spec : Spec) (parts : List (List (List Value))) → 0 < budget
    → (0 < sum_by length parts → sum_by (count_groups spec) parts + budget ≤ whole)
    → sum_by length parts + sum_by (cost budget spec) parts ≤ sum_by length parts * ((whole - 1) / budget)
parts_cost budget whole spec [] some within = omega arith
parts_cost budget whole spec (part ∷ parts) some within =
    let rows = sum_by-cons length part parts in
    let costs = sum_by-cons (cost budget spec) part parts in
    let counts = sum_by-cons (count_groups spec) part parts in
    let here : length part + cost budget spec part ≤ length part * ((whole - 1) / budget)
    = one_cost budget whole spec part some (λ more. let all : sum_by (count_groups spec) (part ∷ parts) + budget ≤ whole = within (omega (arith, rows, more)) in omega (arith, counts, all)) in
    let rest : sum_by length parts + sum_by (cost budget spec) parts ≤ sum_by length parts * ((whole - 1) / budget)
    = parts_cost budget whole spec parts some (λ more. let all : sum_by (count_groups spec) (part ∷ parts) + budget ≤ whole = within (omega (arith, rows, more)) in omega (arith, counts, all)) in
    joined (length part) (sum_by length parts) (cost budget spec part) (sum_by (cost budget spec) parts) ((whole - 1) / budget) _ _ rows costs here rest
  where
    joined : (a b c d x rows costs : ℕ) → rows ≡ a + b → costs ≡ c + d → a + c ≤ a * x → b + d ≤ b * x → rows + costs ≤ rows * x
    joined a b c d x rows costs r k h i = subst (λ (n : ℕ). n + costs ≤ n * x) (sym r) (omega (arith, k, h, i))

one_run : (budget : ℕ) (spec : Spec) (rows : List (List Value)) → 0 < budget → one_if_some rows + excess budget spec rows ≤ count_groups spec rows
one_run budget spec [] some = omega arith
one_run budget spec (row ∷ rows) some = part_runs budget (count_groups spec (row ∷ rows)) some (some_groups spec (row ∷ rows) (omega arith))

-- the runs, and those that may be made for them, are at most as many as their groups
pub parts_runs : (budget : ℕ) (spec : Spec) (parts : List (List (List Value))) → 0 < budget
    → sum_by one_if_some parts + sum_by (excess budget spec) parts ≤ sum_by (count_groups spec) parts
parts_runs budget spec [] some = omega arith
parts_runs budget spec (part ∷ parts) some =
    omega (arith, sum_by-cons one_if_some part parts, sum_by-cons (excess budget spec) part parts, sum_by-cons (count_groups spec) part parts, one_run budget spec part some, parts_runs budget spec parts some)

-- runs have at least as many rows as groups
filter_le : {X : Type 0} (p : X → Bool) (xs : List X) → length (filter p xs) ≤ length xs
filter_le p xs = omega (arith, length-filter_both p (λ x. not (p x)) (λ x. refl) xs)

without_repeats_le : (ks : List (List Value)) → length (without_repeats same_key ks) ≤ length ks
without_repeats_le [] = omega arith
without_repeats_le (k ∷ ks) = omega (arith, filter_le (λ other. not (same_key k other)) (without_repeats same_key ks), without_repeats_le ks)

pub groups_le_rows : (spec : Spec) (rows : List (List Value)) → count_groups spec rows ≤ length rows
groups_le_rows spec rows = omega (arith, length-map (keys spec.by rows) (group_of spec rows), without_repeats_le (map (key_of spec.by) rows), length-map rows (key_of spec.by))

pub parts_groups_le : (spec : Spec) (parts : List (List (List Value))) → sum_by (count_groups spec) parts ≤ sum_by length parts
parts_groups_le spec [] = omega arith
parts_groups_le spec (part ∷ parts) = omega (arith, sum_by-cons length part parts, sum_by-cons (count_groups spec) part parts, groups_le_rows spec part, parts_groups_le spec parts)

-- rows that have the groups that were pushed and those of their runs
pub parted_count : (spec : Spec) (all : List (List Value × List (Option Value))) (out : List Group) (parts : List (List (List Value)))
    → IsPermutation all (map answered out ++ flat_map (row_groups spec) parts) → length all ≡ length out + sum_by (count_groups spec) parts
parted_count spec all out parts same =
    omega (arith, length_permutation all _ same, length-append (map answered out) (flat_map (row_groups spec) parts), length-map out answered, length-flat_map (row_groups spec) parts)

-- one pass's share: what it writes, and what may be written for its runs
pub pass_cost : (budget rows whole pushed : ℕ) (spec : Spec) (parts : List (List (List Value))) → 0 < budget
    → whole ≡ pushed + sum_by (count_groups spec) parts
    → (0 < sum_by length parts → pushed ≡ budget)
    → sum_by length parts ≤ rows
    → sum_by length parts + sum_by (cost budget spec) parts ≤ rows * ((whole - 1) / budget)
pass_cost budget rows whole pushed spec parts some counted full fewer =
    let bound : sum_by length parts + sum_by (cost budget spec) parts ≤ sum_by length parts * ((whole - 1) / budget)
    = parts_cost budget whole spec parts some (λ more. let f : pushed ≡ budget = full more in omega arith) in
    let wide : sum_by length parts * ((whole - 1) / budget) ≤ rows * ((whole - 1) / budget) = mul-le-mul_right ((whole - 1) / budget) fewer in
    omega (arith, bound, wide)

-- and the runs
pub pass_runs : (budget whole pushed : ℕ) (spec : Spec) (parts : List (List (List Value))) → 0 < budget
    → whole ≡ pushed + sum_by (count_groups spec) parts
    → (0 < sum_by length parts → pushed ≡ budget)
    → sum_by one_if_some parts + sum_by (excess budget spec) parts ≤ whole - budget
pass_runs budget whole pushed spec parts some counted full = at (sum_by length parts) refl
  where
    at : (n : ℕ) → sum_by length parts ≡ n → sum_by one_if_some parts + sum_by (excess budget spec) parts ≤ whole - budget
    at zero e = let none = parts_groups_le spec parts in let few = parts_runs budget spec parts some in omega (arith, none, few, e)
    at (suc n) e = let f : pushed ≡ budget = full (omega (arith, e)) in let few = parts_runs budget spec parts some in omega (arith, few, f, counted)
