-- Rows that fit columns, and what columns store.
use Rattle.std.proofs.Common.{◌≡◌, ◌≤◌, ℕ, suc, Bool, true, false, ◌&&◌, List, [], ◌∷◌, length, min, drop, All, inl, inr, refl, sym, ap, ◌∙◌, arith}
use Rattle.std.specs.List.{list_all}
use Rattle.std.proofs.lemmas.Bool.{and_parts, cases_lt, false≢true}
use Rattle.std.proofs.lemmas.List.{drop_all}
use Rattle.std.proofs.lemmas.List.Elements.{All-nil, All-cons}
use Rattle.gq_row.specs.declared.value.Value.{Value}
use Rattle.gq_row.specs.declared.schema.Column.{Column}
use Rattle.gq_row.specs.Fitting.{fits_columns, goes_in, stored_in}

and_false : (a b : Bool) → false ≡ b → false ≡ (a && b)
and_false true b e = e
and_false false b e = refl

pub unequal_lengths : (columns : List Column) (row : List Value) → (length columns ≡ length row → ⊥) → false ≡ fits_columns columns row
unequal_lengths [] [] h = absurd (h refl)
unequal_lengths [] (v ∷ vs) h = refl
unequal_lengths (c ∷ cs) [] h = refl
unequal_lengths (c ∷ cs) (v ∷ vs) h = and_false (goes_in c.kind v) (fits_columns cs vs) (unequal_lengths cs vs (λ e. h (ap (λ n. suc n) e)))

-- a row that fits has a value for each column
pub as_long : (columns : List Column) (row : List Value) → fits_columns columns row ≡ true → length row ≡ length columns
as_long [] [] h = refl
as_long [] (v ∷ row) h = absurd (false≢true h)
as_long (c ∷ columns) [] h = absurd (false≢true h)
as_long (c ∷ columns) (v ∷ row) h = ap (λ n. suc n) (as_long columns row (and_parts (goes_in c.kind v) (fits_columns columns row) h).1)

-- so that rows that fit are of one length
pub all_as_long : (columns : List Column) (rows : List (List Value)) (n : ℕ) → list_all (fits_columns columns) rows ≡ true → n ≡ length columns
    → All (λ (row : List Value). length row ≡ n) rows
all_as_long columns [] n h e = All-nil (λ (row : List Value). length row ≡ n)
all_as_long columns (row ∷ rows) n h e =
    let p = and_parts (fits_columns columns row) (list_all (fits_columns columns) rows) h in
    All-cons (λ (other : List Value). length other ≡ n) row rows (as_long columns row p.0 ∙ sym e) (all_as_long columns rows n p.1 e)

pub each_as_long : (columns : List Column) (rows more : List (List Value)) → list_all (fits_columns columns) rows ≡ true → list_all (fits_columns columns) more ≡ true
    → All (λ (row : List Value). All (λ (other : List Value). length other ≡ length row) rows) more
each_as_long columns rows [] h k = All-nil (λ (row : List Value). All (λ (other : List Value). length other ≡ length row) rows)
each_as_long columns rows (row ∷ more) h k =
    let p = and_parts (fits_columns columns row) (list_all (fits_columns columns) more) k in
    All-cons (λ (one : List Value). All (λ (other : List Value). length other ≡ length one) rows) row more
    (all_as_long columns rows (length row) h (as_long columns row p.0)) (each_as_long columns rows more h p.1)

stored_nothing : (columns : List Column) → stored_in columns [] ≡ []
stored_nothing [] = refl
stored_nothing (c ∷ cs) = refl

-- after the last column, or the last value, nothing changes
pub stored_rest : (columns : List Column) (row : List Value) (i : ℕ) → min (length row) (length columns) ≤ i → stored_in (drop i columns) (drop i row) ≡ drop i row
stored_rest columns row i far = elim (cases_lt (length row) (length columns)) [
  | inl fewer ↦ rw (drop_all i row (omega arith)) (stored_nothing (drop i columns))
  | inr more ↦ ap (λ cs. stored_in cs (drop i row)) (drop_all i columns (omega arith))
]
