-- Values under the names of a header.
use Rattle.std.proofs.Common.{◌≡◌, ◌∙◌, ◌<◌, ℕ, zero, suc, Bool, true, false, cond, List, [], ◌∷◌, length, get_or, eqb, Option, Some, None, Result, Ok, Err, refl, sym, ap, arith}
use Rattle.std.specs.Prelude.{not, nat_eq, nat_lt, option_map, option_and_then, bytes_eq}
use Rattle.std.specs.List.{list_any, position_or_len}
use Rattle.std.proofs.lemmas.Bool.{ltb-true}
use Rattle.std.proofs.lemmas.Bool.Decides.{nat_tests}
use Rattle.std.proofs.lemmas.List.FromFn.{get_or-map-range_with_len}
use Rattle.gq_row.specs.declared.schema.Column.{Column}
use Rattle.gq_row.specs.declared.value.Value.{Value}
use Rattle.gq_row.specs.declared.value.Value.TheVariants.{Null}
use Rattle.gq_row.specs.Schemas.{position_of, positions_of}
use Rattle.gq_row.specs.Repeats.{no_repeats}
use Rattle.gq_row.specs.Rows.{cell}
use Rattle.gq_load.specs.declared.load_refusal.LoadRefusal.{LoadRefusal}
use Rattle.gq_load.specs.declared.load_refusal.LoadRefusal.TheVariants.{Header}
use Rattle.gq_load.specs.Payloads.{arranged, value_in}
use Rattle.gq_load.specs.Headers.{all_columns, are_all, places_of}
use Rattle.gq_load.proofs.Places.{both, either, not_true}

some_same : {A : Type 0} (x y : A) → Some x ≡ Some y → x ≡ y
some_same x y e = ap (λ o. elim o [ None ↦ x | Some z ↦ z ]) e

record Taken (count : ℕ) (o : Option (List ℕ)) (places : List ℕ) : Type 0 where
  found : o ≡ Some places
  all : are_all count places ≡ true

taken_of : (count : ℕ) (o : Option (List ℕ)) (places : List ℕ) → all_columns count o ≡ Ok places → Taken count o places
taken_of count None places h = let none : ⊥ = cc in absurd none
taken_of count (Some found) places h = by_all (are_all count found) refl h
  where
    same : (b : Result (List ℕ) LoadRefusal) → List ℕ
    same (Ok x) = x
    same (Err e) = found

    by_all : (b : Bool) → are_all count found ≡ b → cond b (Ok found) (Err Header) ≡ Ok places → Taken count (Some found) places
    by_all true e h = let k : found ≡ places = ap same h in record { found = ap Some k; all = rw (← k) e }
    by_all false e h = let none : ⊥ = cc in absurd none

taken : (columns : List Column) (names : List (List ℕ)) (places : List ℕ) → places_of columns names ≡ Ok places → Taken (length columns) (positions_of columns names) places
unfolding places_of
taken columns names places h = taken_of (length columns) (positions_of columns names) places h

pub taken_all : (columns : List Column) (names : List (List ℕ)) (places : List ℕ) → places_of columns names ≡ Ok places → length places ≡ length columns
taken_all columns names places h =
    let count = (both (eqb (length places) (length columns)) (no_repeats nat_eq places) (taken columns names places h).all).0 in
    grind (arith, nat_tests)

-- as many places as names

places_many : (columns : List Column) (names : List (List ℕ)) (places : List ℕ) → positions_of columns names ≡ Some places → length places ≡ length names
places_many columns [] places h = ap length (sym (some_same [] places h))
places_many columns (name ∷ names) places h = by (position_of columns name) (positions_of columns names) refl h (places_many columns names)
  where
    by : (o : Option ℕ) (r : Option (List ℕ)) → positions_of columns names ≡ r → option_and_then (λ first. option_map (λ rest. first ∷ rest) r) o ≡ Some places
        → ((rest : List ℕ) → positions_of columns names ≡ Some rest → length rest ≡ length names) → length places ≡ suc (length names)
    by None r e h again = let none : ⊥ = cc in absurd none
    by (Some first) None e h again = let none : ⊥ = cc in absurd none
    by (Some first) (Some rest) e h again = ap length (sym (some_same (first ∷ rest) places h)) ∙ ap suc (again rest e)

pub named_many : (columns : List Column) (names : List (List ℕ)) (places : List ℕ) → places_of columns names ≡ Ok places → length places ≡ length names
named_many columns names places h = places_many columns names places (taken columns names places h).found

-- the place of each name

record First (columns : List Column) (name : List ℕ) (names : List (List ℕ)) (places : List ℕ) : Type 0 where
  place : ℕ
  others : List ℕ
  here : position_of columns name ≡ Some place
  rest : positions_of columns names ≡ Some others
  whole : places ≡ place ∷ others

first_of : (columns : List Column) (name : List ℕ) (names : List (List ℕ)) (places : List ℕ) → positions_of columns (name ∷ names) ≡ Some places → First columns name names places
first_of columns name names places h = by (position_of columns name) refl (positions_of columns names) refl h
  where
    by : (o : Option ℕ) → position_of columns name ≡ o → (r : Option (List ℕ)) → positions_of columns names ≡ r
        → option_and_then (λ first. option_map (λ rest. first ∷ rest) r) o ≡ Some places → First columns name names places
    by None p r q h = let none : ⊥ = cc in absurd none
    by (Some x) p None q h = let none : ⊥ = cc in absurd none
    by (Some x) p (Some xs) q h = record { place = x; others = xs; here = p; rest = q; whole = sym (some_same (x ∷ xs) places h) }

as_many : (columns : List Column) (names : List (List ℕ)) (places : List ℕ) → positions_of columns names ≡ Some places → length places ≡ length names
as_many columns [] places h = ap length (sym (some_same [] places h))
as_many columns (name ∷ names) places h =
    let f = first_of columns name names places h in
    ap length f.whole ∙ ap (λ n. suc n) (as_many columns names f.others f.rest)

placed_at : (columns : List Column) (names : List (List ℕ)) (places : List ℕ) (i place : ℕ) → positions_of columns names ≡ Some places → i < length names → position_of columns (get_or names i []) ≡ Some place → get_or places i 0 ≡ place
placed_at columns [] places i place h s e = let none : ⊥ = omega (arith, s) in absurd none
placed_at columns (name ∷ names) places zero place h s e =
    let f = first_of columns name names places h in
    ap (λ xs. get_or xs 0 0) f.whole ∙ some_same f.place place (sym f.here ∙ e)
placed_at columns (name ∷ names) places (suc i) place h s e =
    let f = first_of columns name names places h in
    ap (λ xs. get_or xs (suc i) 0) f.whole ∙ placed_at columns names f.others i place f.rest (omega (arith, s)) e

among : (places : List ℕ) (i p : ℕ) → i < length places → list_any (nat_eq p) places ≡ false → eqb p (get_or places i 0) ≡ false
among [] i p s h = let none : ⊥ = omega (arith, s) in absurd none
among (q ∷ qs) zero p s h = (either (nat_eq p q) (list_any (nat_eq p) qs) h).0
among (q ∷ qs) (suc i) p s h = among qs i p (omega (arith, s)) (either (nat_eq p q) (list_any (nat_eq p) qs) h).1

in_first : (places : List ℕ) (values : List Value) (i : ℕ) → no_repeats nat_eq places ≡ true → i < length places → length values ≡ length places → value_in places values (get_or places i 0) ≡ get_or values i Null
in_first [] values i a s n = let none : ⊥ = omega (arith, s) in absurd none
in_first (p ∷ ps) [] i a s n = let none : ⊥ = omega (arith, n) in absurd none
in_first (p ∷ ps) (v ∷ vs) zero a s n =
    let same : eqb p p ≡ true = grind (arith, nat_tests) in
    rw same refl
in_first (p ∷ ps) (v ∷ vs) (suc i) a s n =
    let parts = both (not (list_any (nat_eq p) ps)) (no_repeats nat_eq ps) a in
    let other = among ps i p (omega (arith, s)) (not_true (list_any (nat_eq p) ps) parts.0) in
    rw other (in_first ps vs i parts.1 (omega (arith, s)) (omega (arith, n)))

position_small : (columns : List Column) (name : List ℕ) (place : ℕ) → position_of columns name ≡ Some place → place < length columns
position_small columns name place e = by (nat_lt (position_or_len (λ (column : Column). bytes_eq column.name name) columns) (length columns)) refl e
  where
    by : (b : Bool) → nat_lt (position_or_len (λ (column : Column). bytes_eq column.name name) columns) (length columns) ≡ b
        → cond b (Some (position_or_len (λ (column : Column). bytes_eq column.name name) columns)) None ≡ Some place → place < length columns
    by true t e = let same = some_same (position_or_len (λ (column : Column). bytes_eq column.name name) columns) place e in omega (arith, same, ltb-true _ _ t)
    by false t e = let none : ⊥ = cc in absurd none

pub under_name : (columns : List Column) (names : List (List ℕ)) (places : List ℕ) (values : List Value) (i place : ℕ) → places_of columns names ≡ Ok places → length values ≡ length names → i < length names
    → position_of columns (get_or names i []) ≡ Some place → cell (arranged (length columns) places values) place ≡ get_or values i Null
under_name columns names places values i place h n s e =
    let t = taken columns names places h in
    let many = as_many columns names places t.found in
    let at = placed_at columns names places i place t.found s e in
    let apart = (both (eqb (length places) (length columns)) (no_repeats nat_eq places) t.all).1 in
    get_or-map-range_with_len (value_in places values) 0 (length columns) place place Null (position_small columns (get_or names i []) place e) (omega arith)
    ∙ ap (value_in places values) (sym at) ∙ in_first places values i apart (omega (arith, s, many)) (omega (arith, n, many))
