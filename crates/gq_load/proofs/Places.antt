-- Headers, from left to right.
use Rattle.std.proofs.Common.{◌≡◌, ◌∙◌, ◌+◌, ◌<◌, ◌≤◌, ◌++◌, ℕ, zero, suc, Bool, true, false, List, [], ◌∷◌, length, drop, get_or, Option, Some, None, Ok, Err, eqb, refl, sym, ap, arith}
use Rattle.std.specs.Prelude.{◌&&◌, ◌||◌, not, nat_eq, option_map}
use Rattle.std.specs.List.{list_any}
use Rattle.std.proofs.lemmas.List.{drop_more, drop_all, append_assoc, append-nil}
use Rattle.std.proofs.lemmas.List.Folds.{list_any-append}
use Rattle.std.proofs.lemmas.Bool.Decides.{nat_tests}
use Rattle.csv.specs.Records.{field_at}
use Rattle.gq_row.specs.declared.schema.Column.{Column}
use Rattle.gq_row.specs.Schemas.{position_of, positions_of}
use Rattle.gq_row.specs.Repeats.{no_repeats}
use Rattle.gq_load.specs.declared.load_refusal.LoadRefusal.TheVariants.{Header}
use Rattle.gq_load.specs.Headers.{are_all, all_columns, places_of}

-- a field by its place, where it has one
pub field_or : (fields : List (List ℕ)) (i : ℕ) (none : List ℕ) → elim (field_at fields i) [ None ↦ none | Some f ↦ f ] ≡ get_or fields i none
unfolding field_at
field_or [] i none = refl
field_or (f ∷ fields) zero none = refl
field_or (f ∷ fields) (suc i) none = field_or fields i none

-- places without repeats

pub either : (a b : Bool) → a || b ≡ false → (a ≡ false) × (b ≡ false)
either true b h = let none : ⊥ = cc in absurd none
either false b h = (refl, h)

pub both : (a b : Bool) → a && b ≡ true → (a ≡ true) × (b ≡ true)
both true b h = (refl, h)
both false b h = let none : ⊥ = cc in absurd none

pub not_true : (b : Bool) → not b ≡ true → b ≡ false
not_true true h = let none : ⊥ = cc in absurd none
not_true false h = refl

same_sides : (a b : ℕ) → nat_eq a b ≡ nat_eq b a
same_sides a b = grind (arith, nat_tests)

pub repeats : (places : List ℕ) (p : ℕ) (rest : List ℕ) → list_any (λ y. nat_eq y p) places ≡ true → no_repeats nat_eq (places ++ p ∷ rest) ≡ false
repeats [] p rest h = let none : ⊥ = cc in absurd none
repeats (q ∷ qs) p rest h = by_first (nat_eq q p) refl h (repeats qs p rest)
  where
    later : (b : Bool) → (no_repeats nat_eq (qs ++ p ∷ rest) ≡ false) → not b && no_repeats nat_eq (qs ++ p ∷ rest) ≡ false
    later true e = refl
    later false e = e

    here : (b : Bool) → (b || true) ≡ true
    here true = refl
    here false = refl

    by_first : (b : Bool) → nat_eq q p ≡ b → b || list_any (λ y. nat_eq y p) qs ≡ true → (list_any (λ y. nat_eq y p) qs ≡ true → no_repeats nat_eq (qs ++ p ∷ rest) ≡ false) → no_repeats nat_eq (q ∷ (qs ++ p ∷ rest)) ≡ false
    by_first true e h again =
        let among : list_any (nat_eq q) (qs ++ p ∷ rest) ≡ true = list_any-append (nat_eq q) qs (p ∷ rest) ∙ rw e (here (list_any (nat_eq q) qs)) in
        rw among refl
    by_first false e h again = later (list_any (nat_eq q) (qs ++ p ∷ rest)) (again h)

pub differs : (places : List ℕ) (p : ℕ) → no_repeats nat_eq places ≡ true → list_any (λ y. nat_eq y p) places ≡ false → no_repeats nat_eq (places ++ p ∷ []) ≡ true
differs [] p h e = refl
differs (q ∷ qs) p h e =
    let apart = both (not (list_any (nat_eq q) qs)) (no_repeats nat_eq qs) h in
    let others = either (nat_eq q p) (list_any (λ y. nat_eq y p) qs) e in
    let none : list_any (nat_eq q) (qs ++ p ∷ []) ≡ false = list_any-append (nat_eq q) qs (p ∷ []) ∙ rw (not_true (list_any (nat_eq q) qs) apart.0, others.0) refl in
    rw (none, differs qs p apart.1 others.1) refl

-- one name of a header

pub missing : (columns : List Column) (names : List (List ℕ)) (i : ℕ) → i < length names → position_of columns (get_or names i []) ≡ None → positions_of columns (drop i names) ≡ None
missing columns names i h e = rw (drop_more names i [] h, e) refl

pub given : (columns : List Column) (names : List (List ℕ)) (i p : ℕ) → i < length names → position_of columns (get_or names i []) ≡ Some p → positions_of columns (drop i names) ≡ option_map (λ rest. p ∷ rest) (positions_of columns (drop (i + 1) names))
given columns names i p h e = rw (drop_more names i [] h, e) refl

-- what the places so far and those of the names left come to

abbrev pub Named : List Column → List (List ℕ) → List ℕ → ℕ → Type 0
Named columns names places i = option_map (λ rest. places ++ rest) (positions_of columns (drop i names)) ≡ positions_of columns names

pub named_none : (columns : List Column) (names : List (List ℕ)) (places : List ℕ) (i : ℕ) → Named columns names places i → i < length names → position_of columns (get_or names i []) ≡ None → places_of columns names ≡ Err Header
unfolding places_of
named_none columns names places i n h e = ap (all_columns (length columns)) (sym n ∙ ap (option_map (λ rest. places ++ rest)) (missing columns names i h e))

no_all : (count : ℕ) (b : Bool) (places : List ℕ) → no_repeats nat_eq places ≡ false → are_all count places ≡ false
no_all count b places e = by (eqb (length places) count)
  where
    by : (b : Bool) → b && no_repeats nat_eq places ≡ false
    by true = e
    by false = refl

pub named_repeats : (columns : List Column) (names : List (List ℕ)) (places : List ℕ) (i p : ℕ) → Named columns names places i → i < length names → position_of columns (get_or names i []) ≡ Some p
    → list_any (λ y. nat_eq y p) places ≡ true → places_of columns names ≡ Err Header
unfolding places_of
named_repeats columns names places i p n h e among =
    ap (all_columns (length columns)) (sym n ∙ ap (option_map (λ rest. places ++ rest)) (given columns names i p h e)) ∙ by_rest (positions_of columns (drop (i + 1) names))
  where
    by_rest : (o : Option (List ℕ)) → all_columns (length columns) (option_map (λ rest. places ++ rest) (option_map (λ rest. p ∷ rest) o)) ≡ Err Header
    by_rest None = refl
    by_rest (Some rest) = rw (no_all (length columns) true (places ++ p ∷ rest) (repeats places p rest among)) refl

pub named_more : (columns : List Column) (names : List (List ℕ)) (places : List ℕ) (i p : ℕ) → Named columns names places i → i < length names → position_of columns (get_or names i []) ≡ Some p
    → Named columns names (places ++ p ∷ []) (i + 1)
named_more columns names places i p n h e = by_rest (positions_of columns (drop (i + 1) names)) ∙ sym (ap (option_map (λ rest. places ++ rest)) (given columns names i p h e)) ∙ n
  where
    by_rest : (o : Option (List ℕ)) → option_map (λ rest. (places ++ p ∷ []) ++ rest) o ≡ option_map (λ rest. places ++ rest) (option_map (λ rest. p ∷ rest) o)
    by_rest None = refl
    by_rest (Some rest) = ap Some (append_assoc places (p ∷ []) rest)

pub named_all : (columns : List Column) (names : List (List ℕ)) (places : List ℕ) (i : ℕ) → Named columns names places i → length names ≤ i → positions_of columns names ≡ Some places
named_all columns names places i n h = sym n ∙ ap (λ left. option_map (λ rest. places ++ rest) (positions_of columns left)) (drop_all i names h) ∙ ap Some (append-nil places)

pub found_all : (columns : List Column) (names : List (List ℕ)) (places : List ℕ) → positions_of columns names ≡ Some places → no_repeats nat_eq places ≡ true → length places ≡ length columns → places_of columns names ≡ Ok places
unfolding places_of
found_all columns names places e apart count =
    let yes : eqb (length places) (length columns) ≡ true = grind (arith, nat_tests) in
    ap (all_columns (length columns)) e ∙ rw (yes, apart) refl

pub too_few : (columns : List Column) (names : List (List ℕ)) (places : List ℕ) → positions_of columns names ≡ Some places → eqb (length places) (length columns) ≡ false → places_of columns names ≡ Err Header
unfolding places_of
too_few columns names places e count = ap (all_columns (length columns)) e ∙ rw count refl
