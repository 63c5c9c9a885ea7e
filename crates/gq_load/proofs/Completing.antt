-- Data records that are completed.
use Rattle.std.proofs.Common.{◌≡◌, ◌∙◌, ◌+◌, ◌-◌, ◌++◌, ◌<◌, ◌≤◌, ℕ, zero, suc, true, List, [], ◌∷◌, length, map, get_or, eqb, replicate, Result, Ok, Err, refl, sym, ap, arith}
use Rattle.std.specs.Prelude.{nat_le}
use Rattle.std.specs.List.{list_all}
use Rattle.std.proofs.lemmas.Bool.Decides.{nat_tests}
use Rattle.std.proofs.lemmas.List.{append-nil, get_or-replicate, length-append, length-replicate}
use Rattle.gq_load.specs.declared.short_records.Short.{Short}
use Rattle.gq_load.specs.declared.short_records.Short.TheVariants.{Refused, Completed}
use Rattle.gq_load.specs.Fields.{null_field}
use Rattle.gq_row.specs.declared.limits.Bounds.{Bounds}
use Rattle.gq_row.specs.Schemas.{PlainSchema}
use Rattle.gq_load.specs.declared.load_refusal.LoadRefusal.{LoadRefusal}
use Rattle.gq_load.specs.Answers.{◌>>=◌}
use Rattle.gq_load.specs.Headers.{places_of}
use Rattle.gq_load.specs.Laws.{are_even}
use Rattle.gq_load.specs.Payloads.{completed, data_rows, rows_of}
use Rattle.gq_load.proofs.Names.{named_many}
use Rattle.gq_load.proofs.Places.{both}

-- how many fields it has then
long : (count : ℕ) (fields : List (List ℕ)) → length (completed Completed count fields) ≡ length fields + (count - length fields)
long count fields = length-append fields (replicate (count - length fields) null_field) ∙ ap (λ n. length fields + n) (length-replicate (count - length fields) null_field)

pub size : (count : ℕ) (fields : List (List ℕ)) → length fields ≤ count → length (completed Completed count fields) ≡ count
size count fields h = let e = long count fields in omega (arith, e, h)

pub is_whole : (count : ℕ) (fields : List (List ℕ)) → nat_le (length fields) count ≡ eqb (length (completed Completed count fields)) count
is_whole count fields = let e = long count fields in grind (arith, nat_tests, e)

pub within : (short : Short) (count : ℕ) (fields : List (List ℕ)) → eqb (length (completed short count fields)) count ≡ true → length fields ≤ count
within Refused count fields h = grind (arith, nat_tests, h)
within Completed count fields h = let e = long count fields in grind (arith, nat_tests, h, e)

-- one with a field for each is as it was
pub whole_same : (count : ℕ) (fields : List (List ℕ)) → length fields ≡ count → completed Completed count fields ≡ fields
whole_same count fields h =
    let none : count - length fields ≡ 0 = omega (arith, h) in
    ap (λ n. fields ++ replicate n null_field) none ∙ append-nil fields

pub as_completed : (short : Short) (count : ℕ) (fields : List (List ℕ)) → eqb (length (completed short count fields)) count ≡ true → completed Completed count fields ≡ completed short count fields
as_completed Refused count fields h = let same : length fields ≡ count = grind (arith, nat_tests, h) in whole_same count fields same
as_completed Completed count fields h = refl

-- its fields, by their places
pub field_at_place : (count i : ℕ) (fields : List (List ℕ)) → i < count → get_or fields i null_field ≡ get_or (completed Completed count fields) i []
field_at_place count zero [] h = sym (get_or-replicate (count - 0) zero null_field [] (omega (arith, h)))
field_at_place count (suc i) [] h = sym (get_or-replicate (count - 0) (suc i) null_field [] (omega (arith, h)))
field_at_place count zero (field ∷ fields) h = refl
field_at_place zero (suc i) (field ∷ fields) h = let none : ⊥ = omega (arith, h) in absurd none
field_at_place (suc count) (suc i) (field ∷ fields) h =
    let fewer : suc count - length (field ∷ fields) ≡ count - length fields = omega arith in
    field_at_place count i fields (omega (arith, h)) ∙ ap (λ n. get_or (fields ++ replicate n null_field) i []) (sym fewer)

-- records that all have as many fields as the header

all_same : (count : ℕ) (others : List (List (List ℕ))) → list_all (λ fields. eqb (length fields) count) others ≡ true → map (completed Completed count) others ≡ map (completed Refused count) others
all_same count [] h = refl
all_same count (fields ∷ others) h =
    let parts = both (eqb (length fields) count) (list_all (λ given. eqb (length given) count) others) h in
    let same : length fields ≡ count = grind (arith, nat_tests, parts.0) in
    rw (whole_same count fields same, all_same count others parts.1) refl

pub even_same : (schema : PlainSchema) (bounds : Bounds) (given : List (List (List ℕ))) → are_even given ≡ true → rows_of Completed schema bounds given ≡ rows_of Refused schema bounds given
unfolding rows_of
even_same schema bounds [] h = refl
even_same schema bounds (names ∷ others) h = by_places (places_of schema.columns names) refl
  where
    by_places : (r : Result (List ℕ) LoadRefusal) → places_of schema.columns names ≡ r
        → (r >>= λ places. data_rows schema bounds.text bounds.rows places (map (completed Completed (length places)) others)) ≡ (r >>= λ places. data_rows schema bounds.text bounds.rows places (map (completed Refused (length places)) others))
    by_places (Err why) e = refl
    by_places (Ok places) e =
        let many = named_many schema.columns names places e in
        ap (data_rows schema bounds.text bounds.rows places) (all_same (length places) others (rw many h))
