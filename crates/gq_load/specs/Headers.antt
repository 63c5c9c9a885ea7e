-- Which columns a header names.
use Rattle.std.specs.Prelude.{◌≡◌, ◌<◌, ℕ, Bool, true, ◌==◌, ◌&&◌, nat_eq, List, length, All, Option, Some, None, Result, Ok, Err, if◌then◌else◌}
use Rattle.gq_row.specs.declared.schema.Column.{Column}
use Rattle.gq_row.specs.Schemas.{positions_of}
use Rattle.gq_row.specs.Repeats.{no_repeats}
use Rattle.gq_load.specs.declared.load_refusal.LoadRefusal.{LoadRefusal}
use Rattle.gq_load.specs.declared.load_refusal.LoadRefusal.TheVariants.{Header}

-- whether columns are all of the given number of columns, each once
abbrev pub are_all : ℕ → List ℕ → Bool
are_all count places = (length places == count) && no_repeats nat_eq places

abbrev pub all_columns : ℕ → Option (List ℕ) → Result (List ℕ) LoadRefusal
all_columns count None = Err Header
all_columns count (Some places) = if are_all count places then Ok places else Err Header

-- the columns that a header names, in the payload's order: all of the table's, each once
unfoldable pub places_of : List Column → List (List ℕ) → Result (List ℕ) LoadRefusal
places_of columns names = all_columns (length columns) (positions_of columns names)

-- the positions of as many columns as there are, each once
pub record EachOnce (places : List ℕ) : Type 0 where
  pub apart : no_repeats nat_eq places ≡ true
  pub within : All (λ place. place < length places) places
