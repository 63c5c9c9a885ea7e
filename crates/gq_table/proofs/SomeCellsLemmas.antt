-- The cells of a row in some columns, one after the other.
use Rattle.std.proofs.Common.{◌≡◌, ◌<◌, ◌+◌, ℕ, Bool, true, false, List, length, All, sym, ap, subst, ◌∙◌, arith, refl, slice_index_or}
use Rattle.std.specs.Prelude.{nat_eq, nat_lt}
use Rattle.std.proofs.lemmas.Bool.Decides.{nat_tests}
use Rattle.std.proofs.lemmas.List.{get_or_default}
use Rattle.gq_row.specs.declared.value.Value.{Value}
use Rattle.gq_row.specs.Rows.{cell}
use Rattle.gq_table.specs.Walking.{AgreeIn}

-- a row has the same cells as another in the first of some columns
abbrev pub AgreeUpTo : ℕ → List ℕ → List Value → List Value → Type 0
AgreeUpTo n columns row there = (k : ℕ) → k < n → cell row (slice_index_or columns k 0) ≡ cell there (slice_index_or columns k 0)

before_last : (columns : List ℕ) (k i : ℕ) → k < i + 1 → (slice_index_or columns k 0 ≡ slice_index_or columns i 0 → ⊥) → k < i
before_last columns k i lt apart = told (nat_lt k i) refl
  where
    told : (b : Bool) → nat_lt k i ≡ b → k < i
    told true test = grind (arith, nat_tests)
    told false test = let same : k ≡ i = grind (arith, nat_tests) in absurd (apart (ap (λ n. slice_index_or columns n 0) same))

pub agree_next : (columns : List ℕ) (row new there : List Value) (i : ℕ) → AgreeUpTo i columns row there → cell new (slice_index_or columns i 0) ≡ cell there (slice_index_or columns i 0)
    → ((other : ℕ) → (other ≡ slice_index_or columns i 0 → ⊥) → cell new other ≡ cell row other) → AgreeUpTo (i + 1) columns new there
agree_next columns row new there i before put others k lt = told (nat_eq (slice_index_or columns k 0) (slice_index_or columns i 0)) refl
  where
    told : (b : Bool) → nat_eq (slice_index_or columns k 0) (slice_index_or columns i 0) ≡ b → cell new (slice_index_or columns k 0) ≡ cell there (slice_index_or columns k 0)
    told true test =
        let same : slice_index_or columns k 0 ≡ slice_index_or columns i 0 = grind (arith, nat_tests) in
        ap (cell new) same ∙ put ∙ ap (cell there) (sym same)
    told false test =
        let apart : slice_index_or columns k 0 ≡ slice_index_or columns i 0 → ⊥ = λ same. grind (arith, nat_tests) in
        others (slice_index_or columns k 0) apart ∙ before k (before_last columns k i lt apart)

pub agree_all : (columns : List ℕ) (row there : List Value) (n : ℕ) → length columns ≡ n → AgreeUpTo n columns row there → All (λ column. cell row column ≡ cell there column) columns
agree_all columns row there n all agree = λ k d lt.
    subst (λ column. cell row column ≡ cell there column) (get_or_default columns k 0 d lt) (agree k (omega (arith, all, lt)))

pub agree_in : (columns : List ℕ) (row all : List Value) {row' all' : List Value} → row' ≡ row → all ≡ all' → length row ≡ length all → All (λ column. cell row column ≡ cell all column) columns → AgreeIn columns row' all'
agree_in columns row all are others long cells = record {
  long = ap length are ∙ long ∙ ap length others;
  cells = λ k d lt. ap (λ r. cell r (slice_index_or columns k d)) are ∙ cells k d lt ∙ ap (λ r. cell r (slice_index_or columns k d)) others;
}
