-- What a reader has read last, and the records that it has yet to read.
use Rattle.std.specs.Prelude.{◌≡◌, ℕ, Bool, true, false, List, [], ◌∷◌, Option, Some, None, option_map}
use Rattle.csv.specs.Reading.{default_config, records}

-- the fields of the record that was read last, and the records that are left, if the source's bytes are known
pub record Reading : Type 0 where
  pub fields : List (List ℕ)
  pub rest : Option (List (List (List ℕ)))

-- the records of a text, if its bytes are known
abbrev pub records_of : Option (List ℕ) → Option (List (List (List ℕ)))
records_of known = option_map (records default_config) known

-- what a read of a record gave, and the records that it left, if the records before it are known
abbrev pub Took : Option (List (List (List ℕ))) → Bool → List (List ℕ) → Option (List (List (List ℕ))) → Type 0
Took None found fields rest = Unit {0}
Took (Some []) found fields rest = found ≡ false
Took (Some (first ∷ others)) found fields rest = (found ≡ true) × (fields ≡ first) × (rest ≡ Some others)
