-- Columns by their names: the positions of different names are different, and in range.
use Rattle.std.proofs.Common.{◌≡◌, ◌<◌, ℕ, Bool, true, false, not, ◌&&◌, ◌||◌, List, [], ◌∷◌, length, get_or, map, refl, sym, ap, ◌∙◌, subst, All, Option, Some, None, bytes_eq, nat_eq, nat_lt}
use Rattle.std.specs.Prelude.{option_map, option_and_then}
use Rattle.std.specs.List.{list_any, list_all}
use Rattle.std.proofs.lemmas.Bool.{eqb-true, ltb-true, lt-ltb, not-true}
use Rattle.std.proofs.lemmas.Slice.Eq.{bytes_eq-Decides}
use Rattle.std.proofs.lemmas.List.Quantifiers.{position-Some}
use Rattle.std.proofs.lemmas.List.Elements.{All-cons, All-nil}
use Rattle.gq_row.specs.declared.schema.Column.{Column}
use Rattle.gq_row.specs.declared.schema.Kind.TheVariants as kind
use Rattle.gq_row.specs.Schemas.{is_schema, position_of, positions_of}
use Rattle.gq_row.specs.Repeats.{no_repeats}

two : (a b : Bool) → (a && b) ≡ true → (a ≡ true) × (b ≡ true)
two true b h = (refl, h)
two false b h = let none : ⊥ = cc in absurd none

both : (a b : Bool) → a ≡ true → b ≡ true → (a && b) ≡ true
both true b h k = k
both false b h k = h

pub no_false : false ≡ true → ⊥
no_false e = let none : ⊥ = cc in none

-- the positions of a name and of further ones
pub record Found (columns : List Column) (name : List ℕ) (names : List (List ℕ)) (positions : List ℕ) : Type 0 where
  pub first : ℕ
  pub rest : List ℕ
  pub first_is : position_of columns name ≡ Some first
  pub rest_are : positions_of columns names ≡ Some rest
  pub are : positions ≡ first ∷ rest

chained : (columns : List Column) (name : List ℕ) (names : List (List ℕ)) (positions : List ℕ) (o : Option ℕ) (q : Option (List ℕ)) → position_of columns name ≡ o → positions_of columns names ≡ q
    → option_and_then (λ first. option_map (λ rest. first ∷ rest) q) o ≡ Some positions → Found columns name names positions
chained columns name names positions None q e f h = let none : ⊥ = cc in absurd none
chained columns name names positions (Some i) None e f h = let none : ⊥ = cc in absurd none
chained columns name names positions (Some i) (Some is) e f h = record { first = i; rest = is; first_is = e; rest_are = f; are = cc }

pub found : (columns : List Column) (name : List ℕ) (names : List (List ℕ)) (positions : List ℕ) → positions_of columns (name ∷ names) ≡ Some positions → Found columns name names positions
found columns name names positions h = chained columns name names positions (position_of columns name) (positions_of columns names) refl refl h

-- a column, for where there is none
no_column : Column
no_column = record { name = []; kind = kind.Int }

neither : (a b : Bool) → (a || b) ≡ false → (a ≡ false) × (b ≡ false)
neither true b h = let none : ⊥ = cc in absurd none
neither false b h = (refl, h)

none_of : (a b : Bool) → a ≡ false → b ≡ false → (a || b) ≡ false
none_of true b h k = h
none_of false b h k = k

-- a position found is one of a column's, of that name
in_range : (columns : List Column) (name : List ℕ) (i : ℕ) → position_of columns name ≡ Some i → nat_lt i (length columns) ≡ true
in_range columns name i h = lt-ltb i (length columns) (position-Some (λ (c : Column). bytes_eq c.name name) columns i no_column h).0

pub all_in_range : (columns : List Column) (names : List (List ℕ)) (positions : List ℕ) → positions_of columns names ≡ Some positions → list_all (λ position. nat_lt position (length columns)) positions ≡ true
all_in_range columns [] positions h = let e : positions ≡ [] = cc in ap (list_all (λ position. nat_lt position (length columns))) e
all_in_range columns (name ∷ names) positions h =
    let f = found columns name names positions h in
    ap (list_all (λ position. nat_lt position (length columns))) f.are
    ∙ both _ _ (in_range columns name f.first f.first_is) (all_in_range columns names f.rest f.rest_are)

-- two names at one position are one
same_name : (columns : List Column) (a b : List ℕ) (i : ℕ) → position_of columns a ≡ Some i → position_of columns b ≡ Some i → a ≡ b
same_name columns a b i h k =
    let column = get_or columns i no_column in
    sym ((bytes_eq-Decides column.name a).0 (position-Some (λ (c : Column). bytes_eq c.name a) columns i no_column h).1)
    ∙ (bytes_eq-Decides column.name b).0 (position-Some (λ (c : Column). bytes_eq c.name b) columns i no_column k).1

-- other names have other positions
other_place : (columns : List Column) (a b : List ℕ) (i j : ℕ) → position_of columns a ≡ Some i → position_of columns b ≡ Some j → bytes_eq a b ≡ false → (r : Bool) → nat_eq i j ≡ r → r ≡ false
other_place columns a b i j h k d true e =
    let P : ℕ → Type 0 = λ n. position_of columns b ≡ Some n in
    let same : bytes_eq a b ≡ true = (bytes_eq-Decides a b).1 (same_name columns a b i h (subst P (sym (eqb-true i j e)) k)) in
    let none : ⊥ = cc in absurd none
other_place columns a b i j h k d false e = refl

apart : (columns : List Column) (name : List ℕ) (i : ℕ) (names : List (List ℕ)) (positions : List ℕ) → position_of columns name ≡ Some i → positions_of columns names ≡ Some positions
    → list_any (bytes_eq name) names ≡ false → list_any (nat_eq i) positions ≡ false
apart columns name i [] positions h k none = let e : positions ≡ [] = cc in ap (list_any (nat_eq i)) e
apart columns name i (other ∷ names) positions h k none =
    let f = found columns other names positions k in
    let apart_from = neither (bytes_eq name other) (list_any (bytes_eq name) names) none in
    ap (list_any (nat_eq i)) f.are
    ∙ none_of (nat_eq i f.first) (list_any (nat_eq i) f.rest) (other_place columns name other i f.first h f.first_is apart_from.0 (nat_eq i f.first) refl)
    (apart columns name i names f.rest h f.rest_are apart_from.1)

pub positions_differ : (columns : List Column) (names : List (List ℕ)) (positions : List ℕ) → no_repeats bytes_eq names ≡ true → positions_of columns names ≡ Some positions → no_repeats nat_eq positions ≡ true
positions_differ columns [] positions d h = let e : positions ≡ [] = cc in ap (no_repeats nat_eq) e
positions_differ columns (name ∷ names) positions d h =
    let f = found columns name names positions h in
    let different = two (not (list_any (bytes_eq name) names)) (no_repeats bytes_eq names) d in
    ap (no_repeats nat_eq) f.are
    ∙ both (not (list_any (nat_eq f.first) f.rest)) (no_repeats nat_eq f.rest)
    (ap not (apart columns name f.first names f.rest f.first_is f.rest_are (not-true (list_any (bytes_eq name) names) different.0)))
    (positions_differ columns names f.rest different.1 f.rest_are)

-- the columns and the key of a create are a well-formed schema
pub is_schema_of : (columns : List Column) (names : List (List ℕ)) (positions : List ℕ) → no_repeats bytes_eq (map (λ (c : Column). c.name) columns) ≡ true → no_repeats bytes_eq names ≡ true
    → positions_of columns names ≡ Some positions → is_schema (record { columns = columns; key = positions }) ≡ true
is_schema_of columns names positions a b h = both _ _ a (both _ _ (positions_differ columns names positions b h) (all_in_range columns names positions h))

all_tested : {X : Type 0} (P : X → Type 0) (p : X → Bool) → ((x : X) → p x ≡ true → P x) → (xs : List X) → list_all p xs ≡ true → All P xs
all_tested P p says [] h = All-nil P
all_tested P p says (x ∷ xs) h = All-cons P x xs (says x (two (p x) (list_all p xs) h).0) (all_tested P p says xs (two (p x) (list_all p xs) h).1)

-- the positions that were found are those of columns
pub positions_within : (columns : List Column) (names : List (List ℕ)) (positions : List ℕ) → positions_of columns names ≡ Some positions → All (λ position. position < length columns) positions
positions_within columns names positions h =
    all_tested (λ position. position < length columns) (λ position. nat_lt position (length columns)) (λ position below. ltb-true position (length columns) below) positions (all_in_range columns names positions h)
