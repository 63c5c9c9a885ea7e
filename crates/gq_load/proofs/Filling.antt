-- Values moved to their places come to the row in the order of columns.
use Rattle.std.proofs.Common.{◌≡◌, ◌≢◌, ◌∙◌, ◌+◌, ◌<◌, ◌≤◌, ℕ, Bool, true, false, cond, List, [], ◌∷◌, length, map, drop, get_or, set, Result, Ok, Err, eqb, All, refl, sym, ap, zero, suc, arith}
use Rattle.std.specs.Prelude.{nat_eq, ◌||◌}
use Rattle.std.specs.List.{list_any}
use Rattle.std.proofs.lemmas.Bool.Decides.{nat_tests}
use Rattle.std.proofs.lemmas.List.{drop_more, drop_all, get_or-map, get_or-set_same, get_or-set_other, length-set}
use Rattle.std.proofs.lemmas.List.Elements.{recursion_from_All}
use Rattle.std.specs.List.{AllByRecursion}
use Rattle.std.proofs.lemmas.List.FromFn.{fill_by_all}
use Rattle.gq_row.specs.declared.value.Value.{Value}
use Rattle.gq_row.specs.declared.value.Value.TheVariants.{Null}
use Rattle.gq_row.specs.declared.schema.Column.{Column}
use Rattle.gq_row.specs.declared.schema.Kind.TheVariants as kind
use Rattle.gq_row.specs.Repeats.{no_repeats}
use Rattle.gq_load.specs.declared.load_refusal.LoadRefusal.{LoadRefusal}
use Rattle.gq_load.specs.Answers.{◌>>=◌}
use Rattle.gq_load.specs.Fields.{value_of}
use Rattle.gq_load.specs.Payloads.{values_of, value_in, arranged, cells_of, kind_at}
use Rattle.gq_load.specs.Headers.{EachOnce, are_all}
use Rattle.gq_load.proofs.Covering.{all_named}
use Rattle.gq_load.proofs.Places.{both, not_true}

-- a row with values written to these places
abbrev pub filled : List ℕ → List Value → List Value → List Value
filled [] values row = row
filled (place ∷ places) [] row = row
filled (place ∷ places) (value ∷ values) row = filled places values (set row place value)

-- the value of a column, or else a value
abbrev value_or : Value → List ℕ → List Value → ℕ → Value
value_or none [] values column = none
value_or none (place ∷ places) [] column = none
value_or none (place ∷ places) (value ∷ values) column = cond (eqb place column) value (value_or none places values column)

-- a column that is named has a value of its own
or_named : (none : Value) (places : List ℕ) (values : List Value) (column : ℕ) → list_any (nat_eq column) places ≡ true → length values ≡ length places → value_or none places values column ≡ value_in places values column
or_named none [] values column h size = let no_one : ⊥ = cc in absurd no_one
or_named none (place ∷ places) [] column h size = let no_one : ⊥ = omega (arith, size) in absurd no_one
or_named none (place ∷ places) (value ∷ values) column h size = by_first (eqb place column) refl (eqb column place) refl h (λ among. or_named none places values column among (omega (arith, size)))
  where
    by_first : (b : Bool) → eqb place column ≡ b → (c : Bool) → eqb column place ≡ c → c || list_any (nat_eq column) places ≡ true
        → (list_any (nat_eq column) places ≡ true → value_or none places values column ≡ value_in places values column)
        → cond b value (value_or none places values column) ≡ cond b value (value_in places values column)
    by_first true e c f h again = refl
    by_first false e true f h again = let no_one : ⊥ = grind (arith, nat_tests) in absurd no_one
    by_first false e false f h again = again h

or_else : (none : Value) (places : List ℕ) (values : List Value) (column : ℕ) → list_any (nat_eq column) places ≡ false → value_or none places values column ≡ none
or_else none [] values column h = refl
or_else none (place ∷ places) [] column h = refl
or_else none (place ∷ places) (value ∷ values) column h = by_first (eqb place column) refl (eqb column place) refl h (or_else none places values column)
  where
    by_first : (b : Bool) → eqb place column ≡ b → (c : Bool) → eqb column place ≡ c → c || list_any (nat_eq column) places ≡ false
        → (list_any (nat_eq column) places ≡ false → value_or none places values column ≡ none) → cond b value (value_or none places values column) ≡ none
    by_first true e true f h again = let none : ⊥ = cc in absurd none
    by_first true e false f h again = let none : ⊥ = grind (arith, nat_tests) in absurd none
    by_first false e true f h again = let none : ⊥ = cc in absurd none
    by_first false e false f h again = again h

length_filled : (places : List ℕ) (values row : List Value) → length (filled places values row) ≡ length row
length_filled [] values row = refl
length_filled (place ∷ places) [] row = refl
length_filled (place ∷ places) (value ∷ values) row = length_filled places values (set row place value) ∙ length-set row place value

filled_at : (places : List ℕ) (values row : List Value) (column : ℕ) → no_repeats nat_eq places ≡ true → AllByRecursion (λ place. place < length row) places
    → get_or (filled places values row) column Null ≡ value_or (get_or row column Null) places values column
filled_at [] values row column apart within = refl
filled_at (place ∷ places) [] row column apart within = refl
filled_at (place ∷ places) (value ∷ values) row column apart within =
    let parts = both _ _ apart in
    let kept = length-set row place value in
    filled_at places values (set row place value) column parts.1 (rw kept within.1)
    ∙ by_first (eqb place column) refl (not_true _ parts.0) within.0
  where
    by_first : (b : Bool) → eqb place column ≡ b → list_any (nat_eq place) places ≡ false → place < length row
        → value_or (get_or (set row place value) column Null) places values column ≡ cond b value (value_or (get_or row column Null) places values column)
    by_first true e none small =
        let same : place ≡ column = grind (arith, nat_tests) in
        or_else _ places values column (rw (← same) none) ∙ rw (← same) (get_or-set_same row place value Null small)
    by_first false e none small =
        let other : column ≢ place = grind (arith, nat_tests) in
        rw (get_or-set_other row place column value Null other) refl

-- any row, written to at the places of all columns, is the values in the order of columns
pub placed : (count : ℕ) (places : List ℕ) (values row : List Value) → are_all count places ≡ true → All (λ place. place < count) places → length row ≡ count → length values ≡ length places → filled places values row ≡ arranged count places values
placed count places values row all within size many =
    let parts = both (eqb (length places) count) (no_repeats nat_eq places) all in
    let below : AllByRecursion (λ place. place < count) places = recursion_from_All (λ place. place < count) places within in
    let small : AllByRecursion (λ place. place < length row) places = rw size below in
    let as_many : length places ≡ count = grind (arith, nat_tests, parts.0) in
    fill_by_all (value_in places values) (filled places values row) count Null (length_filled places values row ∙ size)
    (λ k h. filled_at places values row k parts.1 small ∙ or_named (get_or row k Null) places values k (all_named count places parts.1 below as_many k h) many)

-- what gave a value gave it at each step
pub bound : {A B : Type 0} (r : Result A LoadRefusal) (f : A → Result B LoadRefusal) (y : B) → (r >>= f) ≡ Ok y → (x : A) × (r ≡ Ok x) × (f x ≡ Ok y)
bound (Ok x) f y h = (x, refl, h)
bound (Err e) f y h = let none : ⊥ = cc in absurd none

pub ok_same : {A : Type 0} (x y : A) → ◌≡◌ {A = Result A LoadRefusal} (Ok x) (Ok y) → x ≡ y
ok_same x y h = ap (λ r. elim r [ Ok z ↦ z | Err e ↦ x ]) h

-- the row, from the fields that are left and the row so far
abbrev pub finished : ℕ → ℕ → List Column → List ℕ → List (List ℕ) → List Value → Result (List Value) LoadRefusal
finished most number columns places fields row = values_of most number (map (kind_at columns) places) fields >>= λ values. Ok (filled places values row)

filled_first : (r : Result (List Value) LoadRefusal) (place : ℕ) (places : List ℕ) (value : Value) (row : List Value)
    → ((r >>= λ values. Ok (value ∷ values)) >>= λ values. Ok (filled (place ∷ places) values row)) ≡ (r >>= λ values. Ok (filled places values (set row place value)))
filled_first (Ok values) place places value row = refl
filled_first (Err f) place places value row = refl

pub one_more : (most number : ℕ) (columns : List Column) (places : List ℕ) (fields : List (List ℕ)) (row : List Value) (i : ℕ) (value : Value) → i < length places → i < length fields
    → value_of most number (kind_at columns (get_or places i 0)) (get_or fields i []) ≡ Ok value
    → finished most number columns (drop i places) (drop i fields) row ≡ finished most number columns (drop (i + 1) places) (drop (i + 1) fields) (set row (get_or places i 0) value)
unfolding values_of
one_more most number columns places fields row i value h k e =
    rw (drop_more places i 0 h, drop_more fields i [] k, e) (filled_first (values_of most number (map (kind_at columns) (drop (i + 1) places)) (drop (i + 1) fields)) (get_or places i 0) (drop (i + 1) places) value row)

pub one_written : (most number : ℕ) (columns : List Column) (places : List ℕ) (fields : List (List ℕ)) (row now : List Value) (i : ℕ) (value : Value) (all : Result (List Value) LoadRefusal) → now ≡ set row (get_or places i 0) value
    → i < length places → i < length fields → value_of most number (kind_at columns (get_or places i 0)) (get_or fields i []) ≡ Ok value
    → length row ≡ length columns → finished most number columns (drop i places) (drop i fields) row ≡ all
    → (length now ≡ length columns) × (finished most number columns (drop (i + 1) places) (drop (i + 1) fields) now ≡ all)
one_written most number columns places fields row now i value all is h k e size so_far =
    rw is (length-set row (get_or places i 0) value ∙ size, sym (one_more most number columns places fields row i value h k e) ∙ so_far)

pub set_twice : (row : List Value) (place : ℕ) (a b : Value) → set (set row place a) place b ≡ set row place b
set_twice [] zero a b = refl
set_twice [] (suc place) a b = refl
set_twice (value ∷ row) zero a b = refl
set_twice (value ∷ row) (suc place) a b = ap (λ l. value ∷ l) (set_twice row place a b)

pub one_bad : (most number : ℕ) (columns : List Column) (places : List ℕ) (fields : List (List ℕ)) (row : List Value) (i : ℕ) (fault : LoadRefusal) → i < length places → i < length fields
    → value_of most number (kind_at columns (get_or places i 0)) (get_or fields i []) ≡ Err fault
    → finished most number columns (drop i places) (drop i fields) row ≡ Err fault
unfolding values_of
one_bad most number columns places fields row i fault h k e = rw (drop_more places i 0 h, drop_more fields i [] k, e) refl

pub no_more : (most number : ℕ) (columns : List Column) (places : List ℕ) (fields : List (List ℕ)) (row : List Value) (i : ℕ) → length places ≤ i → finished most number columns (drop i places) fields row ≡ Ok row
unfolding values_of
no_more most number columns places fields row i h = rw (drop_all i places h) refl

-- as many values as places are read
values_many : (most number : ℕ) (columns : List Column) (places : List ℕ) (fields : List (List ℕ)) (values : List Value) → length fields ≡ length places → values_of most number (map (kind_at columns) places) fields ≡ Ok values → length values ≡ length places
unfolding values_of
values_many most number columns [] fields values size h = ap length (sym (ok_same [] values h))
values_many most number columns (place ∷ places) [] values size h = let no_one : ⊥ = omega (arith, size) in absurd no_one
values_many most number columns (place ∷ places) (field ∷ fields) values size h =
    let a = bound (value_of most number (kind_at columns place) field) _ values h in
    let b = bound (values_of most number (map (kind_at columns) places) fields) _ values a.2 in
    ap length (sym (ok_same (a.0 ∷ b.0) values b.2)) ∙ ap suc (values_many most number columns places fields b.0 (omega (arith, size)) b.1)

pub from_any : (most number : ℕ) (columns : List Column) (places : List ℕ) (fields : List (List ℕ)) (row : List Value) → are_all (length columns) places ≡ true → All (λ place. place < length columns) places → length fields ≡ length places → length row ≡ length columns
    → finished most number columns places fields row ≡ cells_of most number columns places fields
unfolding cells_of
from_any most number columns places fields row all within many size = by_values (values_of most number (map (kind_at columns) places) fields) refl
  where
    by_values : (r : Result (List Value) LoadRefusal) → values_of most number (map (kind_at columns) places) fields ≡ r → (r >>= λ values. Ok (filled places values row)) ≡ (r >>= λ values. Ok (arranged (length columns) places values))
    by_values (Ok values) e = ap Ok (placed (length columns) places values row all within size (values_many most number columns places fields values many e))
    by_values (Err f) e = refl

-- the kind of a column by the column
pub kind_is : (columns : List Column) (place : ℕ) (other : Column) → place < length columns → kind_at columns place ≡ (get_or columns place other).kind
kind_is columns place other h = get_or-map (λ (c : Column). c.kind) columns place other kind.Int h

-- a header's columns are all of the table's
pub once_all : (columns : List Column) (places : List ℕ) → EachOnce places → length places ≡ length columns → are_all (length columns) places ≡ true
once_all columns places each count =
    let yes : eqb (length places) (length columns) ≡ true = grind (arith, nat_tests) in
    rw (yes, each.apart) refl

pub once_within : (columns : List Column) (places : List ℕ) → EachOnce places → length places ≡ length columns → All (λ place. place < length columns) places
once_within columns places each count = rw (← count) each.within
