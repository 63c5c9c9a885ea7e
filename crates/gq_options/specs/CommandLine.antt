-- The program's command line, in clap's terms, and what follows from them.
use Rattle.std.specs.Prelude.{◌≡◌, ◌≢◌, ◌==◌, ◌&&◌, ◌||◌, ◌++◌, ◌^◌, ℕ, Bool, true, false, if◌then◌else◌, List, [], ◌∷◌, Option, Some, None, codes, find, fold, is_some, map, nat_le, nat_lt, option_and_then, option_map, unwrap_or}
use Rattle.std.specs.Option.{option_map_or}
use Rattle.std.specs.Str.{bytes_eq}
use Rattle.std.specs.Str.Parse.{digits_value, without_leading_plus}
pub use Rattle.clap.specs.Words.{Text}
use Rattle.clap.specs.Words.{App, Kinds, Row, Rule, all_of, fault_of, first_of, matches_of, new_app, new_rule, one_of, with_rule}
use Rattle.clap.specs.Kinds.{or_else}
use Rattle.clap.specs.ValueTests.{is_numeral}
use Rattle.clap.specs.declared.builder.action.ArgAction.TheVariants.{Append, SetTrue}
use Rattle.clap.specs.declared.builder.value_parser.ValueParser.TheVariants as vp
use Rattle.clap.specs.declared.error.kind.ErrorKind.TheVariants.{ArgumentConflict, DisplayHelp, DisplayVersion, InvalidValue, TooManyValues, UnknownArgument, ValueValidation}
use Rattle.gq_options.specs.declared.options.Output.{Output}
use Rattle.gq_options.specs.declared.options.Output.TheVariants.{Replies, Csv, Json, Box}
use Rattle.gq_options.specs.declared.options.Seed.{Seed}
use Rattle.gq_options.specs.declared.options.Seed.TheVariants.{Number, Random}

-- an option with one value, by its long name
abbrev pub option_named : Text → Rule
option_named name = record (new_rule name) {
  long = Some name;
  value_names = 1;
}

-- an option with one value, by its long name and its short one, a letter
abbrev pub short_named : Text → ℕ → Rule
short_named name letter = record (option_named name) { short = Some letter }

-- an option with one value, by its long name and its short one, that may be repeated
abbrev pub repeated_named : Text → ℕ → Rule
repeated_named name letter = record (short_named name letter) { action = Some Append }

-- the option for tables: its value is any text, it may be repeated, and its letter is t
abbrev pub TABLE : Rule
TABLE = repeated_named (codes "table") 116

-- the option for commands: its value is any text, it may be repeated, and its letter is c
abbrev pub COMMAND : Rule
COMMAND = repeated_named (codes "command") 99

-- the option for the output format: its value is any text, and `replies` if it isn't given; its letter is o
abbrev pub OUTPUT : Rule
OUTPUT = record (short_named (codes "output") 111) { defaults = codes "replies" ∷ [] }

-- the option for the seed: its value is any text, and `0` if it isn't given
abbrev pub SEED : Rule
SEED = record (option_named (codes "seed")) { defaults = codes "0" ∷ [] }

-- the option for the budget: its value is a number of 1 to 1,048,576, and 65,536 if it isn't given
abbrev pub BUDGET : Rule
BUDGET = record (option_named (codes "budget")) {
  defaults = codes "65536" ∷ [];
  parser = Some (vp.Unsigned 1 1048576);
}

-- the option for the folder of spilled rows: its value is any text
abbrev pub SPILL : Rule
SPILL = option_named (codes "spill")

-- a flag, by its long name
abbrev pub flag_named : Text → Rule
flag_named name = record (new_rule name) {
  long = Some name;
  action = Some SetTrue;
  parser = Some vp.Bool;
}

-- the flag that completes short records with nulls
abbrev pub RAGGED : Rule
RAGGED = flag_named (codes "ragged")

-- the flag for the report of the work
abbrev pub STATS : Rule
STATS = flag_named (codes "stats")

-- the flag for a check
abbrev pub CHECK : Rule
CHECK = flag_named (codes "check")

-- the script's path: a word by its position
abbrev pub SCRIPT : Rule
SCRIPT = new_rule (codes "SCRIPT")

-- a command line that also has `--version`
abbrev pub with_version : App → App
with_version app = record app { top = record app.top { has_version = true } }

-- the options and the word, in the order of the help
abbrev pub ARGUMENTS : List Rule
ARGUMENTS = TABLE ∷ COMMAND ∷ OUTPUT ∷ RAGGED ∷ BUDGET ∷ SEED ∷ SPILL ∷ STATS ∷ CHECK ∷ SCRIPT ∷ []

-- the command line: these options, at most one word, which is the script's path, `--version`, and the `--help` that each command line has
abbrev pub LINE : App
LINE = fold with_rule (with_version (new_app (codes "groupsh"))) ARGUMENTS

-- what a command line may ask for: a script by its path, or else the standard input; the tables to load and the commands to run instead of a script, each as given and in order; the format of results; whether short records are completed with nulls; a seed, by its number or from the system; a budget; a folder for spilled rows, or else memory; whether the work is reported; and whether the script is only checked
pub record Asked : Type 0 where
  pub script : Option Text
  pub tables : List Text
  pub commands : List Text
  pub output : Output
  pub ragged : Bool
  pub seed : Seed
  pub budget : ℕ
  pub spill : Option Text
  pub stats : Bool
  pub check : Bool

-- what a command line without words asks for
abbrev pub DEFAULTS : Asked
DEFAULTS = record { script = None; tables = []; commands = []; output = Replies; ragged = false; seed = Number 0; budget = 65536; spill = None; stats = false; check = false }

-- the number that digits spell, with or without `+` before them
abbrev pub number_of : Text → ℕ
number_of text = digits_value 10 (without_leading_plus text)

-- whether a text is the word that asks for a seed from the system
abbrev pub is_random : Text → Bool
is_random text = bytes_eq text (codes "random")

-- the seed that a text names, if it names one
abbrev pub seed_named : Text → Seed
seed_named text = if is_random text then Random else Number (number_of text)

-- the names of the output formats
abbrev pub FORMATS : List (Text × Output)
FORMATS = (codes "replies", Replies) ∷ (codes "csv", Csv) ∷ (codes "json", Json) ∷ (codes "box", Box) ∷ []

-- the output format that a text names, if it names one
abbrev pub output_named : Text → Option Output
output_named text = option_map (λ format. format.1) (find (λ format. bytes_eq text format.0) FORMATS)

-- the value of a flag, given its text
abbrev pub is_set : Text → Bool
is_set text = bytes_eq text (codes "true")

-- all values of an option, in order
abbrev pub values_in : Text → List Row → List Text
values_in name rows = unwrap_or (all_of name rows) []

-- the number that is an option's value, or `otherwise` without a value
abbrev pub number_in : Text → ℕ → List Row → ℕ
number_in name otherwise rows = option_map_or number_of (one_of name rows) otherwise

-- whether a flag is set
abbrev pub flag_in : Text → List Row → Bool
flag_in name rows = option_map_or is_set (one_of name rows) false

-- the seed that a text names, or the number 0 without a text
abbrev pub seed_by : Option Text → Seed
seed_by named = option_map_or seed_named named (Number 0)

-- the output format that a text names, or replies without a text
abbrev pub output_by : Option Text → Output
output_by named = unwrap_or (option_and_then output_named named) Replies

-- what clap's matches ask for
abbrev pub asked_in : List Row → Asked
asked_in rows = record {
  script = first_of (codes "SCRIPT") rows;
  tables = values_in (codes "table") rows;
  commands = values_in (codes "command") rows;
  output = output_by (first_of (codes "output") rows);
  ragged = flag_in (codes "ragged") rows;
  seed = seed_by (first_of (codes "seed") rows);
  budget = number_in (codes "budget") 65536 rows;
  spill = first_of (codes "spill") rows;
  stats = flag_in (codes "stats") rows;
  check = flag_in (codes "check") rows;
}

-- what the words ask for
abbrev pub asked_of : List Text → Asked
asked_of words = asked_in (matches_of LINE words)

-- whether a word begins with a dash, as options do
abbrev pub has_dash : Text → Bool
has_dash [] = false
has_dash (c ∷ cs) = c == 45

-- whether a text is the digits of a number below 2^64, with or without `+` before them
abbrev pub is_seed : Text → Bool
is_seed text = is_numeral (without_leading_plus text) && nat_lt (number_of text) (2 ^ 64)

-- whether a text names a seed: it is `random`, or such digits
abbrev pub names_seed : Text → Bool
names_seed text = is_random text || is_seed text

-- the fault of a seed's text, if there is a text
abbrev pub seed_fault : Option Text → Kinds
seed_fault None = []
seed_fault (Some text) = if names_seed text then [] else ValueValidation ∷ []

-- whether a text names an output format
abbrev pub is_output : Text → Bool
is_output text = is_some (output_named text)

-- the fault of an output format's text, if there is a text
abbrev pub output_fault : Option Text → Kinds
output_fault None = []
output_fault (Some text) = if is_output text then [] else InvalidValue ∷ []

-- the fault of commands that are given with a script
abbrev pub script_fault : Option Text → List Text → Kinds
script_fault None commands = []
script_fault (Some path) [] = []
script_fault (Some path) (lines ∷ more) = ArgumentConflict ∷ []

-- the first fault of clap's matches: in the seed's text, in the output format's text, or commands that are given with a script
abbrev pub faults_in : List Row → Kinds
faults_in rows =
    or_else (seed_fault (first_of (codes "seed") rows))
    (or_else (output_fault (first_of (codes "output") rows))
    (script_fault (first_of (codes "SCRIPT") rows) (values_in (codes "command") rows)))

-- the faults of the words, or that they ask for help or the version: the faults that clap finds, or else those of its matches; none if the words may be run
abbrev pub faults_of : List Text → Kinds
faults_of words = or_else (fault_of LINE words) (faults_in (matches_of LINE words))

-- whether a text is the digits of a number of 1 to 1,048,576, with or without `+` before them
abbrev pub is_budget : Text → Bool
is_budget text = is_numeral (without_leading_plus text) && (nat_le 1 (number_of text) && nat_le (number_of text) 1048576)

-- the words may be run, and ask for this
pub record Names (words : List Text) (asked : Asked) : Type 0 where
  pub accepted : faults_of words ≡ []
  pub asked_is : asked_of words ≡ asked

-- Paths without clap, in the words after the program's name: a word that doesn't begin with a dash is the script's path, and so are a dash alone and the word after `--`; `--help` and `-h` ask for help, and `--version` and `-V` for the version, whatever follows, and also after a path; a second path is refused, and so is an unknown option, `--nonesuch`.
pub record TakesOnePath : Type 0 where
  pub nothing : (name : Text) → Names (name ∷ []) DEFAULTS
  pub path : (name path : Text) → has_dash path ≡ false → Names (name ∷ path ∷ []) (record DEFAULTS { script = Some path })
  pub dash : (name : Text) → Names (name ∷ codes "-" ∷ []) (record DEFAULTS { script = Some (codes "-") })
  pub any_path : (name path : Text) → Names (name ∷ codes "--" ∷ path ∷ []) (record DEFAULTS { script = Some path })
  pub help : (name : Text) (more : List Text) → faults_of (name ∷ codes "--help" ∷ more) ≡ DisplayHelp ∷ []
  pub short_help : (name : Text) (more : List Text) → faults_of (name ∷ codes "-h" ∷ more) ≡ DisplayHelp ∷ []
  pub late_help : (name path : Text) (more : List Text) → has_dash path ≡ false → faults_of (name ∷ path ∷ codes "--help" ∷ more) ≡ DisplayHelp ∷ []
  pub late_short_help : (name path : Text) (more : List Text) → has_dash path ≡ false → faults_of (name ∷ path ∷ codes "-h" ∷ more) ≡ DisplayHelp ∷ []
  pub version : (name : Text) (more : List Text) → faults_of (name ∷ codes "--version" ∷ more) ≡ DisplayVersion ∷ []
  pub short_version : (name : Text) (more : List Text) → faults_of (name ∷ codes "-V" ∷ more) ≡ DisplayVersion ∷ []
  pub late_version : (name path : Text) (more : List Text) → has_dash path ≡ false → faults_of (name ∷ path ∷ codes "--version" ∷ more) ≡ DisplayVersion ∷ []
  pub late_short_version : (name path : Text) (more : List Text) → has_dash path ≡ false → faults_of (name ∷ path ∷ codes "-V" ∷ more) ≡ DisplayVersion ∷ []
  pub two_paths : (name one two : Text) → has_dash one ≡ false → has_dash two ≡ false → faults_of (name ∷ one ∷ two ∷ []) ≡ UnknownArgument ∷ []
  pub no_option : (name : Text) (more : List Text) → faults_of (name ∷ codes "--nonesuch" ∷ more) ≡ UnknownArgument ∷ []

-- `--seed N` and `--seed=N` with a number below 2^64 name that seed, alone and before or after a path. With any other text than such a number and `random` they are refused: in the same word whatever follows, and in the next word if the text doesn't begin with a dash. They are also refused with `-1`, without a value, and the second time.
pub record TakesOneSeed : Type 0 where
  pub alone : (name seed : Text) → is_seed seed ≡ true → Names (name ∷ codes "--seed" ∷ seed ∷ []) (record DEFAULTS { seed = Number (number_of seed) })
  pub before : (name seed path : Text) → is_seed seed ≡ true → has_dash path ≡ false → Names (name ∷ codes "--seed" ∷ seed ∷ path ∷ []) (record DEFAULTS { script = Some path; seed = Number (number_of seed) })
  pub behind : (name seed path : Text) → is_seed seed ≡ true → has_dash path ≡ false → Names (name ∷ path ∷ codes "--seed" ∷ seed ∷ []) (record DEFAULTS { script = Some path; seed = Number (number_of seed) })
  pub joined : (name seed : Text) → is_seed seed ≡ true → Names (name ∷ (codes "--seed=" ++ seed) ∷ []) (record DEFAULTS { seed = Number (number_of seed) })
  pub joined_before : (name seed path : Text) → is_seed seed ≡ true → has_dash path ≡ false → Names (name ∷ (codes "--seed=" ++ seed) ∷ path ∷ []) (record DEFAULTS { script = Some path; seed = Number (number_of seed) })
  pub joined_after : (name seed path : Text) → is_seed seed ≡ true → has_dash path ≡ false → Names (name ∷ path ∷ (codes "--seed=" ++ seed) ∷ []) (record DEFAULTS { script = Some path; seed = Number (number_of seed) })
  pub no_seed : (name text : Text) → names_seed text ≡ false → has_dash text ≡ false → faults_of (name ∷ codes "--seed" ∷ text ∷ []) ≡ ValueValidation ∷ []
  pub joined_no_seed : (name text : Text) (more : List Text) → names_seed text ≡ false → faults_of (name ∷ (codes "--seed=" ++ text) ∷ more) ≢ []
  pub no_seed_alone : (name text : Text) → names_seed text ≡ false → faults_of (name ∷ (codes "--seed=" ++ text) ∷ []) ≡ ValueValidation ∷ []
  pub no_seed_before : (name text path : Text) → names_seed text ≡ false → has_dash path ≡ false → faults_of (name ∷ (codes "--seed=" ++ text) ∷ path ∷ []) ≡ ValueValidation ∷ []
  pub no_seed_after : (name text path : Text) → names_seed text ≡ false → has_dash path ≡ false → faults_of (name ∷ path ∷ (codes "--seed=" ++ text) ∷ []) ≡ ValueValidation ∷ []
  pub below_zero : (name : Text) (more : List Text) → faults_of (name ∷ codes "--seed" ∷ codes "-1" ∷ more) ≡ UnknownArgument ∷ []
  pub without_value : (name : Text) → faults_of (name ∷ codes "--seed" ∷ []) ≡ InvalidValue ∷ []
  pub twice : (name one two : Text) → has_dash one ≡ false → has_dash two ≡ false → faults_of (name ∷ codes "--seed" ∷ one ∷ codes "--seed" ∷ two ∷ []) ≡ ArgumentConflict ∷ []

-- `--seed random` and `--seed=random` ask for a seed from the system, alone and before or after a path; no other spelling does.
pub record TakesRandom : Type 0 where
  pub alone : (name : Text) → Names (name ∷ codes "--seed" ∷ codes "random" ∷ []) (record DEFAULTS { seed = Random })
  pub before : (name path : Text) → has_dash path ≡ false → Names (name ∷ codes "--seed" ∷ codes "random" ∷ path ∷ []) (record DEFAULTS { script = Some path; seed = Random })
  pub behind : (name path : Text) → has_dash path ≡ false → Names (name ∷ path ∷ codes "--seed" ∷ codes "random" ∷ []) (record DEFAULTS { script = Some path; seed = Random })
  pub joined : (name : Text) → Names (name ∷ codes "--seed=random" ∷ []) (record DEFAULTS { seed = Random })
  pub joined_before : (name path : Text) → has_dash path ≡ false → Names (name ∷ codes "--seed=random" ∷ path ∷ []) (record DEFAULTS { script = Some path; seed = Random })
  pub joined_after : (name path : Text) → has_dash path ≡ false → Names (name ∷ path ∷ codes "--seed=random" ∷ []) (record DEFAULTS { script = Some path; seed = Random })
  pub capital : (name : Text) → faults_of (name ∷ codes "--seed" ∷ codes "Random" ∷ []) ≡ ValueValidation ∷ []
  pub longer : (name : Text) → faults_of (name ∷ codes "--seed=random1" ∷ []) ≡ ValueValidation ∷ []
  -- with a budget, a folder and the flag for the report
  pub all : (name budget folder : Text) → is_budget budget ≡ true → Names (name ∷ codes "--seed=random" ∷ (codes "--budget=" ++ budget) ∷ (codes "--spill=" ++ folder) ∷ codes "--stats" ∷ []) (record DEFAULTS { script = None; seed = Random; budget = number_of budget; spill = Some folder; stats = true; check = false })

-- `--budget N` and `--budget=N` are like `--seed`, with a number of 1 to 1,048,576.
pub record TakesOneBudget : Type 0 where
  pub alone : (name budget : Text) → is_budget budget ≡ true → Names (name ∷ codes "--budget" ∷ budget ∷ []) (record DEFAULTS { budget = number_of budget })
  pub before : (name budget path : Text) → is_budget budget ≡ true → has_dash path ≡ false → Names (name ∷ codes "--budget" ∷ budget ∷ path ∷ []) (record DEFAULTS { script = Some path; budget = number_of budget })
  pub behind : (name budget path : Text) → is_budget budget ≡ true → has_dash path ≡ false → Names (name ∷ path ∷ codes "--budget" ∷ budget ∷ []) (record DEFAULTS { script = Some path; budget = number_of budget })
  pub joined : (name budget : Text) → is_budget budget ≡ true → Names (name ∷ (codes "--budget=" ++ budget) ∷ []) (record DEFAULTS { budget = number_of budget })
  pub joined_before : (name budget path : Text) → is_budget budget ≡ true → has_dash path ≡ false → Names (name ∷ (codes "--budget=" ++ budget) ∷ path ∷ []) (record DEFAULTS { script = Some path; budget = number_of budget })
  pub joined_after : (name budget path : Text) → is_budget budget ≡ true → has_dash path ≡ false → Names (name ∷ path ∷ (codes "--budget=" ++ budget) ∷ []) (record DEFAULTS { script = Some path; budget = number_of budget })
  pub no_budget : (name text : Text) → is_budget text ≡ false → has_dash text ≡ false → faults_of (name ∷ codes "--budget" ∷ text ∷ []) ≡ ValueValidation ∷ []
  pub joined_no_budget : (name text : Text) (more : List Text) → is_budget text ≡ false → faults_of (name ∷ (codes "--budget=" ++ text) ∷ more) ≡ ValueValidation ∷ []
  pub below_zero : (name : Text) (more : List Text) → faults_of (name ∷ codes "--budget" ∷ codes "-1" ∷ more) ≡ UnknownArgument ∷ []
  pub without_value : (name : Text) → faults_of (name ∷ codes "--budget" ∷ []) ≡ InvalidValue ∷ []
  pub twice : (name one two : Text) → is_budget one ≡ true → has_dash two ≡ false → faults_of (name ∷ codes "--budget" ∷ one ∷ codes "--budget" ∷ two ∷ []) ≡ ArgumentConflict ∷ []
  -- with a seed, in either order
  pub seed_first : (name seed budget : Text) → is_seed seed ≡ true → is_budget budget ≡ true → Names (name ∷ (codes "--seed=" ++ seed) ∷ (codes "--budget=" ++ budget) ∷ []) (record DEFAULTS { seed = Number (number_of seed); budget = number_of budget })
  pub budget_first : (name seed budget : Text) → is_seed seed ≡ true → is_budget budget ≡ true → Names (name ∷ (codes "--budget=" ++ budget) ∷ (codes "--seed=" ++ seed) ∷ []) (record DEFAULTS { seed = Number (number_of seed); budget = number_of budget })

-- `--spill DIR` and `--spill=DIR` name a folder: in the same word by any text, also an empty one and one that begins with a dash; in the next word by any text that doesn't begin with a dash, also an empty one, and by a dash alone. Other words that begin with a dash are options there. They are refused without a value, and the second time.
pub record TakesOneFolder : Type 0 where
  pub alone : (name folder : Text) → has_dash folder ≡ false → Names (name ∷ codes "--spill" ∷ folder ∷ []) (record DEFAULTS { spill = Some folder })
  pub dash : (name : Text) → Names (name ∷ codes "--spill" ∷ codes "-" ∷ []) (record DEFAULTS { spill = Some (codes "-") })
  pub before : (name folder path : Text) → has_dash folder ≡ false → has_dash path ≡ false → Names (name ∷ codes "--spill" ∷ folder ∷ path ∷ []) (record DEFAULTS { script = Some path; spill = Some folder })
  pub behind : (name folder path : Text) → has_dash folder ≡ false → has_dash path ≡ false → Names (name ∷ path ∷ codes "--spill" ∷ folder ∷ []) (record DEFAULTS { script = Some path; spill = Some folder })
  pub joined : (name folder : Text) → Names (name ∷ (codes "--spill=" ++ folder) ∷ []) (record DEFAULTS { spill = Some folder })
  pub joined_before : (name folder path : Text) → has_dash path ≡ false → Names (name ∷ (codes "--spill=" ++ folder) ∷ path ∷ []) (record DEFAULTS { script = Some path; spill = Some folder })
  pub joined_after : (name folder path : Text) → has_dash path ≡ false → Names (name ∷ path ∷ (codes "--spill=" ++ folder) ∷ []) (record DEFAULTS { script = Some path; spill = Some folder })
  pub option_after : (name : Text) (more : List Text) → faults_of (name ∷ codes "--spill" ∷ codes "-x" ∷ more) ≡ UnknownArgument ∷ []
  pub without_value : (name : Text) → faults_of (name ∷ codes "--spill" ∷ []) ≡ InvalidValue ∷ []
  pub before_dashes : (name path : Text) → faults_of (name ∷ codes "--spill" ∷ codes "--" ∷ path ∷ []) ≡ InvalidValue ∷ []
  pub twice : (name one two : Text) → has_dash one ≡ false → has_dash two ≡ false → faults_of (name ∷ codes "--spill" ∷ one ∷ codes "--spill" ∷ two ∷ []) ≡ ArgumentConflict ∷ []
  -- with a seed and with a budget, in either order
  pub seed_first : (name seed folder : Text) → is_seed seed ≡ true → Names (name ∷ (codes "--seed=" ++ seed) ∷ (codes "--spill=" ++ folder) ∷ []) (record DEFAULTS { seed = Number (number_of seed); spill = Some folder })
  pub before_seed : (name seed folder : Text) → is_seed seed ≡ true → Names (name ∷ (codes "--spill=" ++ folder) ∷ (codes "--seed=" ++ seed) ∷ []) (record DEFAULTS { seed = Number (number_of seed); spill = Some folder })
  pub budget_first : (name budget folder : Text) → is_budget budget ≡ true → Names (name ∷ (codes "--budget=" ++ budget) ∷ (codes "--spill=" ++ folder) ∷ []) (record DEFAULTS { budget = number_of budget; spill = Some folder })
  pub before_budget : (name budget folder : Text) → is_budget budget ≡ true → Names (name ∷ (codes "--spill=" ++ folder) ∷ (codes "--budget=" ++ budget) ∷ []) (record DEFAULTS { budget = number_of budget; spill = Some folder })

-- `--stats` is taken alone and before or after a path; it is refused with a value, and the second time.
pub record TakesStats : Type 0 where
  pub alone : (name : Text) → Names (name ∷ codes "--stats" ∷ []) (record DEFAULTS { stats = true })
  pub before : (name path : Text) → has_dash path ≡ false → Names (name ∷ codes "--stats" ∷ path ∷ []) (record DEFAULTS { script = Some path; stats = true })
  pub behind : (name path : Text) → has_dash path ≡ false → Names (name ∷ path ∷ codes "--stats" ∷ []) (record DEFAULTS { script = Some path; stats = true })
  pub with_value : (name text : Text) (more : List Text) → faults_of (name ∷ (codes "--stats=" ++ text) ∷ more) ≡ TooManyValues ∷ []
  pub twice : (name : Text) (more : List Text) → faults_of (name ∷ codes "--stats" ∷ codes "--stats" ∷ more) ≡ ArgumentConflict ∷ []
  -- with a seed, a budget and a folder, in either order, and with all of them
  pub seed_first : (name seed : Text) → is_seed seed ≡ true → Names (name ∷ (codes "--seed=" ++ seed) ∷ codes "--stats" ∷ []) (record DEFAULTS { seed = Number (number_of seed); stats = true })
  pub before_seed : (name seed : Text) → is_seed seed ≡ true → Names (name ∷ codes "--stats" ∷ (codes "--seed=" ++ seed) ∷ []) (record DEFAULTS { seed = Number (number_of seed); stats = true })
  pub budget_first : (name budget : Text) → is_budget budget ≡ true → Names (name ∷ (codes "--budget=" ++ budget) ∷ codes "--stats" ∷ []) (record DEFAULTS { budget = number_of budget; stats = true })
  pub before_budget : (name budget : Text) → is_budget budget ≡ true → Names (name ∷ codes "--stats" ∷ (codes "--budget=" ++ budget) ∷ []) (record DEFAULTS { budget = number_of budget; stats = true })
  pub folder_first : (name folder : Text) → Names (name ∷ (codes "--spill=" ++ folder) ∷ codes "--stats" ∷ []) (record DEFAULTS { spill = Some folder; stats = true; check = false })
  pub before_folder : (name folder : Text) → Names (name ∷ codes "--stats" ∷ (codes "--spill=" ++ folder) ∷ []) (record DEFAULTS { spill = Some folder; stats = true; check = false })
  pub all : (name seed budget folder : Text) → is_seed seed ≡ true → is_budget budget ≡ true → Names (name ∷ (codes "--seed=" ++ seed) ∷ (codes "--budget=" ++ budget) ∷ (codes "--spill=" ++ folder) ∷ codes "--stats" ∷ []) (record DEFAULTS { script = None; seed = Number (number_of seed); budget = number_of budget; spill = Some folder; stats = true; check = false })

-- `--check` is like `--stats`.
pub record TakesCheck : Type 0 where
  pub alone : (name : Text) → Names (name ∷ codes "--check" ∷ []) (record DEFAULTS { check = true })
  pub before : (name path : Text) → has_dash path ≡ false → Names (name ∷ codes "--check" ∷ path ∷ []) (record DEFAULTS { script = Some path; check = true })
  pub behind : (name path : Text) → has_dash path ≡ false → Names (name ∷ path ∷ codes "--check" ∷ []) (record DEFAULTS { script = Some path; check = true })
  pub with_value : (name text : Text) (more : List Text) → faults_of (name ∷ (codes "--check=" ++ text) ∷ more) ≡ TooManyValues ∷ []
  pub twice : (name : Text) (more : List Text) → faults_of (name ∷ codes "--check" ∷ codes "--check" ∷ more) ≡ ArgumentConflict ∷ []
  -- with the flag for the report, in either order, and with all others
  pub stats_first : (name : Text) → Names (name ∷ codes "--stats" ∷ codes "--check" ∷ []) (record DEFAULTS { stats = true; check = true })
  pub before_stats : (name : Text) → Names (name ∷ codes "--check" ∷ codes "--stats" ∷ []) (record DEFAULTS { stats = true; check = true })
  pub all : (name seed budget folder : Text) → is_seed seed ≡ true → is_budget budget ≡ true → Names (name ∷ (codes "--seed=" ++ seed) ∷ (codes "--budget=" ++ budget) ∷ (codes "--spill=" ++ folder) ∷ codes "--stats" ∷ codes "--check" ∷ []) (record DEFAULTS { script = None; seed = Number (number_of seed); budget = number_of budget; spill = Some folder; stats = true; check = true })

-- `--table FILE`, `--table=FILE`, `-t FILE`, `-tFILE` and `-t=FILE` give a table: in the same word any text is the value, but the text after `-t` without `=` is not empty and doesn't begin with `=`; in the next word any text that doesn't begin with a dash, or a dash alone. They may be repeated, and the values keep their order.
pub record TakesTables : Type 0 where
  pub alone : (name file : Text) → has_dash file ≡ false → Names (name ∷ codes "--table" ∷ file ∷ []) (record DEFAULTS { tables = file ∷ [] })
  pub short : (name file : Text) → has_dash file ≡ false → Names (name ∷ codes "-t" ∷ file ∷ []) (record DEFAULTS { tables = file ∷ [] })
  pub dash : (name : Text) → Names (name ∷ codes "-t" ∷ codes "-" ∷ []) (record DEFAULTS { tables = codes "-" ∷ [] })
  pub before : (name file path : Text) → has_dash file ≡ false → has_dash path ≡ false → Names (name ∷ codes "-t" ∷ file ∷ path ∷ []) (record DEFAULTS { script = Some path; tables = file ∷ [] })
  pub behind : (name file path : Text) → has_dash file ≡ false → has_dash path ≡ false → Names (name ∷ path ∷ codes "-t" ∷ file ∷ []) (record DEFAULTS { script = Some path; tables = file ∷ [] })
  pub joined : (name file : Text) → Names (name ∷ (codes "--table=" ++ file) ∷ []) (record DEFAULTS { tables = file ∷ [] })
  pub joined_before : (name file path : Text) → has_dash path ≡ false → Names (name ∷ (codes "--table=" ++ file) ∷ path ∷ []) (record DEFAULTS { script = Some path; tables = file ∷ [] })
  pub joined_after : (name file path : Text) → has_dash path ≡ false → Names (name ∷ path ∷ (codes "--table=" ++ file) ∷ []) (record DEFAULTS { script = Some path; tables = file ∷ [] })
  pub short_joined : (name : Text) (c : ℕ) (file : Text) → (c == 61) ≡ false → Names (name ∷ (codes "-t" ++ c ∷ file) ∷ []) (record DEFAULTS { tables = (c ∷ file) ∷ [] })
  pub short_equals : (name file : Text) → Names (name ∷ (codes "-t=" ++ file) ∷ []) (record DEFAULTS { tables = file ∷ [] })
  pub two : (name one two : Text) → has_dash one ≡ false → has_dash two ≡ false → Names (name ∷ codes "-t" ∷ one ∷ codes "-t" ∷ two ∷ []) (record DEFAULTS { tables = one ∷ two ∷ [] })
  pub many : (name : Text) (files : List Text) → Names (name ∷ map (λ file. codes "--table=" ++ file) files) (record DEFAULTS { tables = files })
  pub option_after : (name : Text) (more : List Text) → faults_of (name ∷ codes "-t" ∷ codes "-x" ∷ more) ≡ UnknownArgument ∷ []
  pub without_value : (name : Text) → faults_of (name ∷ codes "--table" ∷ []) ≡ InvalidValue ∷ []
  pub short_without_value : (name : Text) → faults_of (name ∷ codes "-t" ∷ []) ≡ InvalidValue ∷ []

-- `--command LINES`, `--command=LINES`, `-c LINES`, `-cLINES` and `-c=LINES` are like `--table`; with a path they are refused.
pub record TakesCommands : Type 0 where
  pub alone : (name lines : Text) → has_dash lines ≡ false → Names (name ∷ codes "--command" ∷ lines ∷ []) (record DEFAULTS { commands = lines ∷ [] })
  pub short : (name lines : Text) → has_dash lines ≡ false → Names (name ∷ codes "-c" ∷ lines ∷ []) (record DEFAULTS { commands = lines ∷ [] })
  pub dash : (name : Text) → Names (name ∷ codes "-c" ∷ codes "-" ∷ []) (record DEFAULTS { commands = codes "-" ∷ [] })
  pub joined : (name lines : Text) → Names (name ∷ (codes "--command=" ++ lines) ∷ []) (record DEFAULTS { commands = lines ∷ [] })
  pub short_joined : (name : Text) (c : ℕ) (lines : Text) → (c == 61) ≡ false → Names (name ∷ (codes "-c" ++ c ∷ lines) ∷ []) (record DEFAULTS { commands = (c ∷ lines) ∷ [] })
  pub short_equals : (name lines : Text) → Names (name ∷ (codes "-c=" ++ lines) ∷ []) (record DEFAULTS { commands = lines ∷ [] })
  pub two : (name one two : Text) → has_dash one ≡ false → has_dash two ≡ false → Names (name ∷ codes "-c" ∷ one ∷ codes "-c" ∷ two ∷ []) (record DEFAULTS { commands = one ∷ two ∷ [] })
  pub many : (name : Text) (all : List Text) → Names (name ∷ map (λ lines. codes "--command=" ++ lines) all) (record DEFAULTS { commands = all })
  pub before : (name lines path : Text) → has_dash lines ≡ false → has_dash path ≡ false → faults_of (name ∷ codes "-c" ∷ lines ∷ path ∷ []) ≡ ArgumentConflict ∷ []
  pub behind : (name lines path : Text) → has_dash lines ≡ false → has_dash path ≡ false → faults_of (name ∷ path ∷ codes "-c" ∷ lines ∷ []) ≡ ArgumentConflict ∷ []
  pub joined_before : (name lines path : Text) → has_dash path ≡ false → faults_of (name ∷ (codes "--command=" ++ lines) ∷ path ∷ []) ≡ ArgumentConflict ∷ []
  pub joined_after : (name lines path : Text) → has_dash path ≡ false → faults_of (name ∷ path ∷ (codes "--command=" ++ lines) ∷ []) ≡ ArgumentConflict ∷ []
  pub option_after : (name : Text) (more : List Text) → faults_of (name ∷ codes "-c" ∷ codes "-x" ∷ more) ≡ UnknownArgument ∷ []
  pub without_value : (name : Text) → faults_of (name ∷ codes "--command" ∷ []) ≡ InvalidValue ∷ []
  pub short_without_value : (name : Text) → faults_of (name ∷ codes "-c" ∷ []) ≡ InvalidValue ∷ []

-- `--output FORMAT`, `--output=FORMAT` and `-o FORMAT` are taken once, with the name of an output format; with another text they are refused.
pub record TakesOutput : Type 0 where
  pub alone : (name text : Text) (output : Output) → output_named text ≡ Some output → Names (name ∷ codes "--output" ∷ text ∷ []) (record DEFAULTS { output = output })
  pub short : (name text : Text) (output : Output) → output_named text ≡ Some output → Names (name ∷ codes "-o" ∷ text ∷ []) (record DEFAULTS { output = output })
  pub before : (name text path : Text) (output : Output) → output_named text ≡ Some output → has_dash path ≡ false → Names (name ∷ codes "-o" ∷ text ∷ path ∷ []) (record DEFAULTS { script = Some path; output = output })
  pub behind : (name text path : Text) (output : Output) → output_named text ≡ Some output → has_dash path ≡ false → Names (name ∷ path ∷ codes "-o" ∷ text ∷ []) (record DEFAULTS { script = Some path; output = output })
  pub joined : (name text : Text) (output : Output) → output_named text ≡ Some output → Names (name ∷ (codes "--output=" ++ text) ∷ []) (record DEFAULTS { output = output })
  pub no_output : (name text : Text) → is_output text ≡ false → has_dash text ≡ false → faults_of (name ∷ codes "-o" ∷ text ∷ []) ≡ InvalidValue ∷ []
  pub joined_no_output : (name text : Text) → is_output text ≡ false → faults_of (name ∷ (codes "--output=" ++ text) ∷ []) ≡ InvalidValue ∷ []
  pub without_value : (name : Text) → faults_of (name ∷ codes "--output" ∷ []) ≡ InvalidValue ∷ []
  pub twice : (name one two : Text) → has_dash one ≡ false → has_dash two ≡ false → faults_of (name ∷ codes "-o" ∷ one ∷ codes "--output" ∷ two ∷ []) ≡ ArgumentConflict ∷ []

-- `--ragged` is taken alone and before or after a path; it is refused with a value, and the second time.
pub record TakesRagged : Type 0 where
  pub alone : (name : Text) → Names (name ∷ codes "--ragged" ∷ []) (record DEFAULTS { ragged = true })
  pub before : (name path : Text) → has_dash path ≡ false → Names (name ∷ codes "--ragged" ∷ path ∷ []) (record DEFAULTS { script = Some path; ragged = true })
  pub behind : (name path : Text) → has_dash path ≡ false → Names (name ∷ path ∷ codes "--ragged" ∷ []) (record DEFAULTS { script = Some path; ragged = true })
  pub with_value : (name text : Text) (more : List Text) → faults_of (name ∷ (codes "--ragged=" ++ text) ∷ more) ≡ TooManyValues ∷ []
  pub twice : (name : Text) (more : List Text) → faults_of (name ∷ codes "--ragged" ∷ codes "--ragged" ∷ more) ≡ ArgumentConflict ∷ []
  -- with all other options
  pub all : (name seed budget folder file lines : Text) → is_seed seed ≡ true → is_budget budget ≡ true → Names (name ∷ (codes "--table=" ++ file) ∷ (codes "--command=" ++ lines) ∷ codes "--output=csv" ∷ codes "--ragged" ∷ (codes "--seed=" ++ seed) ∷ (codes "--budget=" ++ budget) ∷ (codes "--spill=" ++ folder) ∷ codes "--stats" ∷ codes "--check" ∷ []) (record { script = None; tables = file ∷ []; commands = lines ∷ []; output = Csv; ragged = true; seed = Number (number_of seed); budget = number_of budget; spill = Some folder; stats = true; check = true })

-- Worked examples.
pub record SeedsWorked : Type 0 where
  pub five : (name : Text) → Names (name ∷ codes "--seed" ∷ codes "5" ∷ []) (record DEFAULTS { seed = Number 5 })
  pub joined_five : (name : Text) → Names (name ∷ codes "--seed=5" ∷ codes "a.gq" ∷ []) (record DEFAULTS { script = Some (codes "a.gq"); seed = Number 5 })
  pub with_plus : (name : Text) → Names (name ∷ codes "--seed=+042" ∷ []) (record DEFAULTS { seed = Number 42 })
  pub greatest : (name : Text) → Names (name ∷ codes "--seed=18446744073709551615" ∷ []) (record DEFAULTS { seed = Number 18446744073709551615 })
  pub too_great : (name : Text) → faults_of (name ∷ codes "--seed=18446744073709551616" ∷ []) ≡ ValueValidation ∷ []
  pub letter : (name : Text) → faults_of (name ∷ codes "--seed" ∷ codes "x" ∷ []) ≡ ValueValidation ∷ []
  pub empty : (name : Text) → faults_of (name ∷ codes "--seed=" ∷ []) ≡ ValueValidation ∷ []

pub record BudgetsWorked : Type 0 where
  pub ten : (name : Text) → Names (name ∷ codes "--budget" ∷ codes "10" ∷ []) (record DEFAULTS { budget = 10 })
  pub least : (name : Text) → Names (name ∷ codes "--budget=1" ∷ codes "a.gq" ∷ []) (record DEFAULTS { script = Some (codes "a.gq"); budget = 1 })
  pub greatest : (name : Text) → Names (name ∷ codes "--budget=1048576" ∷ []) (record DEFAULTS { budget = 1048576 })
  pub none : (name : Text) → faults_of (name ∷ codes "--budget" ∷ codes "0" ∷ []) ≡ ValueValidation ∷ []
  pub too_great : (name : Text) → faults_of (name ∷ codes "--budget=1048577" ∷ []) ≡ ValueValidation ∷ []
  pub letter : (name : Text) → faults_of (name ∷ codes "--budget" ∷ codes "x" ∷ []) ≡ ValueValidation ∷ []
  pub with_seed : (name : Text) → Names (name ∷ codes "--seed" ∷ codes "5" ∷ codes "--budget" ∷ codes "7" ∷ codes "a.gq" ∷ []) (record DEFAULTS { script = Some (codes "a.gq"); seed = Number 5; budget = 7 })

pub record FoldersWorked : Type 0 where
  pub folder : (name : Text) → Names (name ∷ codes "--spill" ∷ codes "runs" ∷ codes "a.gq" ∷ []) (record DEFAULTS { script = Some (codes "a.gq"); spill = Some (codes "runs") })
  pub empty : (name : Text) → Names (name ∷ codes "--spill=" ∷ []) (record DEFAULTS { spill = Some [] })
  pub dashed : (name : Text) → Names (name ∷ codes "--spill=-x" ∷ []) (record DEFAULTS { spill = Some (codes "-x") })
  pub flag_after : (name : Text) → faults_of (name ∷ codes "--spill" ∷ codes "--stats" ∷ []) ≡ InvalidValue ∷ []
  pub all : (name : Text) → Names (name ∷ codes "--stats" ∷ codes "--budget" ∷ codes "1" ∷ codes "--spill" ∷ codes "runs" ∷ codes "--seed" ∷ codes "7" ∷ codes "a.gq" ∷ []) (record DEFAULTS { script = Some (codes "a.gq"); seed = Number 7; budget = 1; spill = Some (codes "runs"); stats = true; check = false })

pub record TablesWorked : Type 0 where
  pub files : (name : Text) → Names (name ∷ codes "-t" ∷ codes "a.csv" ∷ codes "-tb=c.csv" ∷ codes "--table" ∷ codes "d.csv" ∷ codes "a.gq" ∷ []) (record DEFAULTS { script = Some (codes "a.gq"); tables = codes "a.csv" ∷ codes "b=c.csv" ∷ codes "d.csv" ∷ [] })
  pub around : (name : Text) → Names (name ∷ codes "-t" ∷ codes "a.csv" ∷ codes "a.gq" ∷ codes "-t=b.csv" ∷ []) (record DEFAULTS { script = Some (codes "a.gq"); tables = codes "a.csv" ∷ codes "b.csv" ∷ [] })
  pub two_after : (name : Text) → faults_of (name ∷ codes "-t" ∷ codes "a.csv" ∷ codes "b.csv" ∷ codes "c.csv" ∷ []) ≡ UnknownArgument ∷ []
  pub flag_after : (name : Text) → faults_of (name ∷ codes "-t" ∷ codes "--ragged" ∷ []) ≡ InvalidValue ∷ []
  pub help_example : (name : Text) → Names (name ∷ codes "-t" ∷ codes "cities.csv" ∷ codes "-c" ∷ codes "group cities by country show count(*)" ∷ codes "-o" ∷ codes "csv" ∷ []) (record DEFAULTS { tables = codes "cities.csv" ∷ []; commands = codes "group cities by country show count(*)" ∷ []; output = Csv })

pub record OutputsWorked : Type 0 where
  pub replies : (name : Text) → Names (name ∷ codes "-o" ∷ codes "replies" ∷ []) DEFAULTS
  pub csv : (name : Text) → Names (name ∷ codes "-ocsv" ∷ codes "a.gq" ∷ []) (record DEFAULTS { script = Some (codes "a.gq"); output = Csv })
  pub json : (name : Text) → Names (name ∷ codes "-o=json" ∷ []) (record DEFAULTS { output = Json })
  pub box : (name : Text) → Names (name ∷ codes "--output=box" ∷ []) (record DEFAULTS { output = Box })
  pub capitals : (name : Text) → faults_of (name ∷ codes "-o" ∷ codes "CSV" ∷ []) ≡ InvalidValue ∷ []
  pub longer : (name : Text) → faults_of (name ∷ codes "--output=csv2" ∷ []) ≡ InvalidValue ∷ []
  pub empty : (name : Text) → faults_of (name ∷ codes "--output=" ∷ []) ≡ InvalidValue ∷ []
