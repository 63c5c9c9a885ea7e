-- The results of reading a command line.
use Rattle.std.specs.Prelude.{◌≡◌, ◌≢◌, ◌||◌, ℕ, Bool, true, false, List, [], ◌∷◌, Option, Some, None, Result, Ok, Err, codes, map, option_map}
use Rattle.std.specs.Option.{option_map_or}
use Rattle.std.specs.Str.{bytes_eq}
use Rattle.clap.specs.Words.{IsAmong, Kinds, Row, Text, one_of}
use Rattle.clap.specs.declared.error.kind.ErrorKind.{ErrorKind}
use Rattle.clap.specs.declared.error.kind.ErrorKind.TheVariants as kind
use Rattle.gq_options.specs.CommandLine.{Asked, Names, asked_in, faults_in, faults_of, is_budget, is_set, number_of, output_by, output_fault, seed_by, seed_fault}
use Rattle.gq_options.specs.declared.options.Options.{Options}
use Rattle.gq_options.specs.declared.options.Output.{Output}
use Rattle.gq_options.specs.declared.options.Seed.{Seed}
use Rattle.gq_options.specs.declared.options.BadLine.{BadLine}
use Rattle.gq_options.specs.declared.options.BadLine.TheVariants.{Help, Version, Mistake, Memory}

-- a kind of clap's errors that asks for neither help nor the version
abbrev pub AsksNothing : ErrorKind → Type 0
AsksNothing k = (k ≢ kind.DisplayHelp) × (k ≢ kind.DisplayVersion)

-- how a kind of clap's errors is returned: help and the version as such, any other kind but out of memory as a mistake; `Memory` may replace each of them
abbrev pub IsToldAs : ErrorKind → BadLine → Type 0
IsToldAs k (Help text) = k ≡ kind.DisplayHelp
IsToldAs k (Version text) = k ≡ kind.DisplayVersion
IsToldAs k (Mistake text) = AsksNothing k × (k ≢ kind.OutOfMemory)
IsToldAs k Memory = Unit {0}

-- how faults are returned: help and the version as such, and any other as a mistake; `Memory` may replace each of them
abbrev pub IsBad : Kinds → BadLine → Type 0
IsBad faults (Help text) = IsAmong kind.DisplayHelp faults
IsBad faults (Version text) = IsAmong kind.DisplayVersion faults
IsBad faults (Mistake text) = (k : ErrorKind) × IsAmong k faults × AsksNothing k
IsBad faults Memory = Unit {0}

-- a text that passes the test is read as its number, and without a text the number is `otherwise`
abbrev pub IsReadAs : (Text → Bool) → ℕ → Option Text → ℕ → Type 0
IsReadAs test otherwise None number = number ≡ otherwise
IsReadAs test otherwise (Some text) number = test text ≡ true → number ≡ number_of text

-- whether a text is one of a flag's two
abbrev pub is_flag : Text → Bool
is_flag text = bytes_eq text (codes "true") || bytes_eq text (codes "false")

-- a flag's text is read as its value, and without a text the flag is false
abbrev pub IsReadAsFlag : Option Text → Bool → Type 0
IsReadAsFlag None value = value ≡ false
IsReadAsFlag (Some text) value = is_flag text ≡ true → value ≡ is_set text

-- the result is a mistake, or `Memory` instead
abbrev pub IsToldAsMistake : BadLine → Type 0
IsToldAsMistake (Help text) = ⊥
IsToldAsMistake (Version text) = ⊥
IsToldAsMistake (Mistake text) = Unit {0}
IsToldAsMistake Memory = Unit {0}

-- a text is read as the seed that it names, and without a text the seed is 0; any other text is a mistake
abbrev pub ReadsSeed : Option Text → Result Seed BadLine → Type 0
ReadsSeed named (Ok seed) = (seed_fault named ≡ []) × (seed_by named ≡ seed)
ReadsSeed named (Err bad) = (seed_fault named ≡ kind.ValueValidation ∷ []) × IsToldAsMistake bad

-- a text is read as the output format that it names, and without a text the format is replies; any other text is a mistake
abbrev pub ReadsOutput : Option Text → Result Output BadLine → Type 0
ReadsOutput named (Ok output) = (output_fault named ≡ []) × (output_by named ≡ output)
ReadsOutput named (Err bad) = (output_fault named ≡ kind.InvalidValue ∷ []) × IsToldAsMistake bad

-- what options ask for
abbrev pub asked_by : Options → Asked
asked_by options = record {
  script = option_map (λ s. s.now) options.script;
  tables = map (λ s. s.now) options.tables.items;
  commands = map (λ s. s.now) options.commands.items;
  output = options.output;
  ragged = options.ragged;
  seed = options.seed;
  budget = options.budget;
  spill = option_map (λ s. s.now) options.spill;
  stats = options.stats;
  check = options.check;
}

-- the text passes the test, if there is a text
abbrev pub Passes : (Text → Bool) → Option Text → Type 0
Passes test text = option_map_or test text true ≡ true

-- the numbers and the flags among clap's matches are valid
pub record AreParsed (rows : List Row) : Type 0 where
  pub budget : Passes is_budget (one_of (codes "budget") rows)
  pub ragged : Passes is_flag (one_of (codes "ragged") rows)
  pub stats : Passes is_flag (one_of (codes "stats") rows)
  pub check : Passes is_flag (one_of (codes "check") rows)

-- options are returned only for matches without a fault, and ask for what the matches ask for
abbrev pub ReadsMatches : List Row → Result Options BadLine → Type 0
ReadsMatches rows (Ok options) = (faults_in rows ≡ []) × (AreParsed rows → asked_in rows ≡ asked_by options)
ReadsMatches rows (Err bad) = IsBad (faults_in rows) bad

-- options are returned only for words without a fault, and ask for what the words ask for
abbrev pub Reads : List Text → Result Options BadLine → Type 0
Reads words (Ok options) = Names words (asked_by options)
Reads words (Err bad) = IsBad (faults_of words) bad
