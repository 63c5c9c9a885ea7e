-- Groups without aggregates are keys.
use Rattle.std.proofs.Common.{◌≡◌, ◌<◌, ℕ, false, List, [], ◌∷◌, length, map, Option, Some, None, refl, ap, subst, ◌∙◌, arith, IsPermutation}
use Rattle.std.specs.List.{list_any}
use Rattle.std.proofs.lemmas.List.Sorted.{IsPermutation-map}
use Rattle.gq_row.specs.declared.value.Value.{Value}
use Rattle.gq_row.specs.Tables.{keys}
use Rattle.gq_group.specs.Groups.{Spec, Group, keys_of, group_of, groups, answered, is_none, out_of_range, Pushes}
use Rattle.gq_select.specs.Distinct.{bare_keys, PushesKeys}

-- groups by some columns, without aggregates
abbrev pub bare : List ℕ → Spec
bare columns = record { by = columns; aggs = [] }

pub bare_is : (spec : Spec) (columns : List ℕ) → spec.by ≡ columns → spec.aggs ≡ [] → spec ≡ bare columns
bare_is spec columns by none = λ i. record { by = by i; aggs = none i }

none_out : (columns : List ℕ) (rows ks : List (List Value)) → list_any (λ (g : List Value × List (Option Value)). list_any is_none g.1) (map (group_of (bare columns) rows) ks) ≡ false
none_out columns rows [] = refl
none_out columns rows (k ∷ ks) = none_out columns rows ks

-- without sums none is out of range
pub in_range : (spec : Spec) (columns : List ℕ) (rows : List (List Value)) → spec.by ≡ columns → spec.aggs ≡ [] → out_of_range spec rows ≡ false
in_range spec columns rows by none = ap (λ s. out_of_range s rows) (bare_is spec columns by none) ∙ none_out columns rows (keys_of columns rows)

-- the values that are there
somes : List (Option Value) → List Value
somes [] = []
somes (None ∷ os) = somes os
somes (Some v ∷ os) = v ∷ somes os

plain : List Value × List (Option Value) → Group
plain g = (g.0, somes g.1)

somes-map : (vs : List Value) → somes (map Some vs) ≡ vs
unfolding somes
somes-map [] = refl
somes-map (v ∷ vs) = ap (λ l. v ∷ l) (somes-map vs)

plain-answered : (out : List Group) → map plain (map answered out) ≡ out
unfolding plain
plain-answered [] = refl
plain-answered (g ∷ out) = λ i. (g.0, somes-map g.1 i) ∷ plain-answered out i

plain-bare : (columns : List ℕ) (rows ks : List (List Value)) → map plain (map (group_of (bare columns) rows) ks) ≡ map (λ key. (key, [])) ks
unfolding plain somes
plain-bare columns rows [] = refl
plain-bare columns rows (k ∷ ks) = ap (λ l. (k, []) ∷ l) (plain-bare columns rows ks)

some_keys : (columns : List ℕ) (rows : List (List Value)) → 0 < length columns → keys_of columns rows ≡ keys columns rows
some_keys [] rows some = let none : ⊥ = omega (arith, some) in absurd none
some_keys (column ∷ columns) rows some = refl

pub counted_keys : (spec : Spec) (columns : List ℕ) (rows : List (List Value)) → 0 < length columns → spec.by ≡ columns → length (keys_of spec.by rows) ≡ length (keys columns rows)
counted_keys spec columns rows some by = ap (λ c. length (keys_of c rows)) by ∙ ap length (some_keys columns rows some)

-- the groups that are pushed are the keys, with no aggregates
pub pushes_keys : (spec : Spec) (columns : List ℕ) (rows : List (List Value)) (holds : List Group → Type 0) → 0 < length columns → spec.by ≡ columns → spec.aggs ≡ [] → Pushes spec rows holds → PushesKeys columns rows holds
pushes_keys spec columns rows holds some by none pushed =
    let out : List Group = pushed.0 in
    let are : IsPermutation (groups (bare columns) rows) (map answered out) = subst (λ s. IsPermutation (groups s rows) (map answered out)) (bare_is spec columns by none) pushed.1 in
    let moved : IsPermutation (map plain (groups (bare columns) rows)) (map plain (map answered out)) = IsPermutation-map plain (groups (bare columns) rows) (map answered out) are in
    let left : map plain (groups (bare columns) rows) ≡ bare_keys columns rows = plain-bare columns rows (keys_of columns rows) ∙ ap (map (λ key. (key, []))) (some_keys columns rows some) in
    (out, subst (λ l. IsPermutation l out) left (subst (IsPermutation (map plain (groups (bare columns) rows))) (plain-answered out) moved), pushed.2)
