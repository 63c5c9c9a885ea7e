-- Reads of the next record.
use Rattle.std.specs.Prelude.{◌≡◌, ℕ, Bool, true, List, [], ◌∷◌, ◌++◌, Option, Some, None}
use Rattle.std.specs.Io.KnownBytes.{Consumes, IsAtEnd, Keeps}
use Rattle.csv.specs.Machine.{next_record}
use Rattle.csv.specs.Reading.{ReadsNext, default_config}
use Rattle.csv.specs.declared.parser.State.{State as MachineState}
use Rattle.csv.specs.declared.parser.State.TheVariants as st
use Rattle.gq_csv.specs.declared.state.State.{State}
use Rattle.gq_csv.specs.Steps.{ends_record}

-- the next record of the bytes before is this one, and the bytes after follow it
abbrev pub Reads : Option (List ℕ) → Option (List ℕ) → Bool → List (List ℕ) → Type 0
Reads before after found fields = (s : MachineState) × ReadsNext default_config st.StartRecord before after found fields s

-- these bytes have the same records as those before, if those are known
abbrev pub SameRecords : Option (List ℕ) → Option (List ℕ) → Type 0
SameRecords None after = Unit {0}
SameRecords (Some xs) None = ⊥
SameRecords (Some xs) (Some ys) = next_record default_config st.StartRecord [] [] xs ≡ next_record default_config st.StartRecord [] [] ys

-- the first of the bytes before was given, or they are at their end
abbrev pub Gave : Option (List ℕ) → Option (List ℕ) → Option ℕ → Type 0
Gave before after None = IsAtEnd before × Keeps before after
Gave before after (Some byte) = Consumes before after (byte ∷ [])

-- whether the end of a text ends a record, and its fields
abbrev pub EndsAs : State → List (List ℕ) → List ℕ → Bool → List (List ℕ) → Type 0
EndsAs state fields field found after = (found ≡ ends_record state) × (found ≡ true → after ≡ fields ++ field ∷ [])
