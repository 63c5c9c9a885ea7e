-- The kind of a column, in the subject's own words.
use Rattle.std.specs.Prelude.{◌≡◌, ℕ, List, All, IsOk, IsErr, IsSome, None}
use Rattle.std.specs.List.{Any}
use Rattle.gq_row.specs.declared.schema.Kind.TheVariants as kind
use Rattle.gq_load.specs.Fields.{value_of}
use Rattle.gq_load.specs.Numbers.{int_of}
use Rattle.gq_infer.specs.Kinds.{kind_of}

-- a field has a value in an INT column, in a record of any number, under any bound on texts
abbrev pub IsTaken : List ℕ → Type 0
IsTaken field = (longest number : ℕ) → IsOk (value_of longest number kind.Int field)

-- a field is refused there
abbrev pub IsRefused : List ℕ → Type 0
IsRefused field = (longest number : ℕ) → IsErr (value_of longest number kind.Int field)

-- the kind is the narrowest that takes every field
pub record IsNarrowest : Type 0 where
  -- an INT column takes each of its fields, and has a number
  pub takes : (fields : List (List ℕ)) → kind_of fields ≡ kind.Int → All IsTaken fields
  pub counts : (fields : List (List ℕ)) → kind_of fields ≡ kind.Int → Any (λ field. IsSome (int_of field)) fields
  -- a column that INT takes and that has a number is INT
  pub narrow : (fields : List (List ℕ)) → All IsTaken fields → Any (λ field. IsSome (int_of field)) fields → kind_of fields ≡ kind.Int
  -- a column with a field that INT refuses is TEXT, and so is one without numbers
  pub refused : (fields : List (List ℕ)) → Any IsRefused fields → kind_of fields ≡ kind.Text
  pub numberless : (fields : List (List ℕ)) → All (λ field. int_of field ≡ None) fields → kind_of fields ≡ kind.Text
