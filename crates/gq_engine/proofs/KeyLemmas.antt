-- Values given as a key.
use Rattle.std.proofs.Common.{◌≡◌, ◌≤◌, ℕ, false, List, [], ◌∷◌, length, min, drop, suc, inl, inr, refl, sym, ap, arith}
use Rattle.std.proofs.lemmas.Bool.{and_right, cases_lt}
use Rattle.std.proofs.lemmas.List.{drop_all}
use Rattle.gq_row.specs.declared.value.Value.{Value}
use Rattle.gq_row.specs.declared.schema.Column.{Column}
use Rattle.gq_row.specs.Fitting.{goes_in}
use Rattle.gq_load.specs.Payloads.{kind_at}
use Rattle.gq_engine.specs.Refusing.{fits_key, stored_key}

-- more or fewer values than key columns don't fit
pub unequal_lengths : (columns : List Column) (key : List ℕ) (values : List Value) → (length key ≡ length values → ⊥) → false ≡ fits_key columns key values
unequal_lengths columns [] [] h = absurd (h refl)
unequal_lengths columns [] (v ∷ vs) h = refl
unequal_lengths columns (p ∷ ps) [] h = refl
unequal_lengths columns (p ∷ ps) (v ∷ vs) h =
    sym (and_right (goes_in (kind_at columns p) v) (fits_key columns ps vs) (sym (unequal_lengths columns ps vs (λ e. h (ap (λ n. suc n) e)))))

stored_nothing : (columns : List Column) (key : List ℕ) → stored_key columns key [] ≡ []
stored_nothing columns [] = refl
stored_nothing columns (p ∷ ps) = refl

-- after the last key column, or the last value, nothing changes
pub stored_rest : (columns : List Column) (key : List ℕ) (values : List Value) (i : ℕ) → min (length values) (length key) ≤ i → stored_key columns (drop i key) (drop i values) ≡ drop i values
stored_rest columns key values i far = elim (cases_lt (length values) (length key)) [
  | inl fewer ↦ rw (drop_all i values (omega arith)) (stored_nothing columns (drop i key))
  | inr more ↦ ap (λ ps. stored_key columns ps (drop i values)) (drop_all i key (omega arith))
]
