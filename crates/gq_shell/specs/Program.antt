-- What the program did, by the words of its command line, what opening a path gives, its two streams and its exit status.
use Rattle.std.specs.Prelude.{◌≡◌, ◌≢◌, ◌<◌, ◌∷◌, ◌⊎◌, ◌&&◌, AllPairs, length, slice_index_or, ℕ, Bool, true, false, IsTrue, not, List, [], codes, string_bytes, is_some, Option, Some, None, Result, Ok, Err}
use Rattle.std.specs.List.{AllZip}
use Rattle.std.specs.declared.io.Error.{Error}
use Rattle.gq_row.specs.Limits.{GREATEST}
use Rattle.gq_load.specs.declared.short_records.Short.{Short}
use Rattle.gq_load.specs.declared.short_records.Short.TheVariants.{Refused, Completed}
use Rattle.gq_command.specs.Commands.{Bytes}
use Rattle.gq_group.specs.declared.grouping.Spent.{Spent}
use Rattle.gq_format.specs.declared.format.Format.TheVariants.{Csv, Json, Box}
use Rattle.gq_engine.specs.declared.output.Output.{Output}
use Rattle.gq_engine.specs.declared.output.Output.TheVariants.{Replies, Results}
use Rattle.gq_engine.specs.Headline.{State}
use Rattle.gq_engine.specs.Runs.{Setting}
use Rattle.gq_options.specs.CommandLine.{Asked, Text}
use Rattle.gq_infer.specs.declared.word.TableWord.{TableWord}
use Rattle.gq_infer.specs.Said.{SaysWord}
use Rattle.gq_tables.specs.declared.fault.TableFault.{TableFault}
use Rattle.gq_tables.specs.Faults.{fault_text, status_of}
use Rattle.gq_tables.specs.Files.{AreFiles, is_input}
use Rattle.gq_tables.specs.Made.{AreTablesOf}
use Rattle.gq_tables.specs.Reasons.{IsFaultOf}
use Rattle.gq_shell.specs.Session.{EndedWith, report_of}
use Rattle.gq_shell.specs.Checking.{CheckedGiven}
use Rattle.gq_shell.specs.Streams.{Stream, IsUntouched, Got, GotPrefix}
pub use Rattle.gq_shell.specs.Sources.{Sources, sources_of, Stopped, StoppedBy, StoppedForMemory, script_of}
use Rattle.gq_options.specs.Words.{Reads, asked_by}
use Rattle.gq_options.specs.declared.options.BadLine.{BadLine}
use Rattle.gq_options.specs.declared.options.BadLine.TheVariants.{Help, Version, Mistake, Memory}
use Rattle.gq_options.specs.declared.options.Options.{Options}
use Rattle.gq_options.specs.declared.options.Output.{Output as Asking}
use Rattle.gq_options.specs.declared.options.Output.TheVariants as asking
use Rattle.gq_options.specs.declared.options.Seed.{Seed}
use Rattle.gq_options.specs.declared.options.Seed.TheVariants.{Number, Random}
use Rattle.gq_shell.specs.declared.seeding.RunSeed.{RunSeed}
use Rattle.gq_shell.specs.declared.seeding.RunSeed.TheVariants.{Given, Drawn}

-- the whole of this text went to the standard output; or it was cut short, and that is reported as a write fault
abbrev pub Printed : Bytes → Stream → Stream → ℕ → Type 0
Printed text replies errors status =
    (Got replies text × IsUntouched errors × (status ≡ 0))
    ⊎ (GotPrefix replies text × Stopped errors (codes "groupsh: write fault\n") 3 status)

-- what was done about a command line that asks for no run
abbrev pub AnsweredBadLine : BadLine → Stream → Stream → ℕ → Type 0
AnsweredBadLine (Help text) replies errors status = Printed (string_bytes text) replies errors status
AnsweredBadLine (Version text) replies errors status = Printed (string_bytes text) replies errors status
AnsweredBadLine (Mistake text) replies errors status = IsUntouched replies × Stopped errors (string_bytes text) 2 status
AnsweredBadLine Memory replies errors status = IsUntouched replies × StoppedForMemory errors status

-- the limits of the program's engine, and whether its run store reads back what was written: in memory it does, and of a folder nobody can say so
abbrev pub setting_by : Option Text → Setting
setting_by folder = record { limits = GREATEST; honest = not (is_some folder) }

-- what the engine writes, by the format that was asked for
abbrev pub output_of : Asking → Output
output_of asking.Replies = Replies
output_of asking.Csv = Results Csv
output_of asking.Json = Results Json
output_of asking.Box = Results Box

-- no tables
abbrev pub NOTHING : State
NOTHING = record { database = []; failures = 0 }

-- the seed of a run is the number that was asked for, or was drawn where a random one was
abbrev pub IsSeedFor : Seed → RunSeed → Type 0
IsSeedFor (Number asked) seed = seed ≡ Given asked
IsSeedFor Random (Given number) = ⊥
IsSeedFor Random (Drawn number) = Unit {0}

-- such a seed; or an error, where a random one was asked for
abbrev pub DrawsFor : Seed → Result RunSeed Error → Type 0
DrawsFor asked (Ok seed) = IsSeedFor asked seed
DrawsFor asked (Err e) = asked ≡ Random

-- a record with fewer fields than the header is refused, or completed if that was asked for
abbrev pub short_by : Bool → Short
short_by true = Completed
short_by false = Refused

-- The tables that a run started with: those that the words after `-t` ask for, if it is known what their files hold; none if there are no such words. At most one word's file is the standard input.
pub record StartedWith {S : Type 0} (sources : Sources S) (asked : Asked) (old : State) : Type 0 where
  pub no_others : asked.tables ≡ [] → old ≡ NOTHING
  pub words : List TableWord
  pub said : AllZip (SaysWord GREATEST) asked.tables words
  pub once : AllPairs (λ (a b : TableWord). (is_input a && is_input b) ≡ false) words
  pub made : (contents : Bytes → Bytes) → AreFiles sources.remaining sources.opens sources.input words contents → AreTablesOf contents (short_by asked.ragged) GREATEST words old.database

-- A session of an engine read this script, from these tables, and reported its work if that was asked for, and this seed if it was drawn.
pub record RanScript (old : State) (asked : Asked) (seed : RunSeed) (script : Option Bytes) (replies errors : Stream) (status : ℕ) : Type 0 where
  pub new : State
  pub spent : Spent
  pub ended : EndedWith (output_of asked.output) (setting_by asked.spill) old script new (report_of asked.stats seed spent) replies errors status

-- what opening a path gave was run; or it could not be opened
abbrev pub RanOpened : {S : Type 0} → Sources S → State → Asked → RunSeed → Result S Error → Stream → Stream → ℕ → Type 0
RanOpened sources old asked seed (Ok script) replies errors status = RanScript old asked seed (sources.remaining script) replies errors status
RanOpened sources old asked seed (Err e) replies errors status = IsUntouched replies × StoppedBy e (codes "groupsh: cannot open script\n") 3 errors status

-- without a path the standard input is the script
abbrev pub RanNamed : {S : Type 0} → Sources S → State → Asked → RunSeed → Option Text → Stream → Stream → ℕ → Type 0
RanNamed sources old asked seed None replies errors status = RanScript old asked seed sources.input replies errors status
RanNamed {S} sources old asked seed (Some path) replies errors status =
    (opened : Result S Error) × sources.opens path opened × RanOpened sources old asked seed opened replies errors status

-- there was no memory
abbrev pub HadNoMemory : Stream → Stream → ℕ → Type 0
HadNoMemory replies errors status = IsUntouched replies × StoppedForMemory errors status

-- commands of the command line are the script, if there are any
abbrev pub RanGiven : {S : Type 0} → Sources S → State → Asked → RunSeed → List Text → Stream → Stream → ℕ → Type 0
RanGiven sources old asked seed [] replies errors status = RanNamed sources old asked seed asked.script replies errors status
RanGiven sources old asked seed (lines ∷ more) replies errors status =
    RanScript old asked seed (Some (script_of (lines ∷ more))) replies errors status ⊎ HadNoMemory replies errors status

-- that was run from the tables that were asked for
abbrev pub RanFrom : {S : Type 0} → Sources S → Asked → RunSeed → Stream → Stream → ℕ → Type 0
RanFrom sources asked seed replies errors status =
    (old : State) × StartedWith sources asked old × RanGiven sources old asked seed asked.commands replies errors status

-- no seed came where a random one was asked for
abbrev pub HadNoSeed : Asked → Stream → Stream → ℕ → Type 0
HadNoSeed asked replies errors status =
    (asked.seed ≡ Random) × IsUntouched replies × ((e : Error) × StoppedBy e (codes "groupsh: no random seed\n") 3 errors status)

-- a word after `-t` is wrong, which is reported, or there was no memory to read it
abbrev pub IsRefusedWord : Stream → ℕ → Type 0
IsRefusedWord errors status = ((text : Bytes) × Stopped errors text 2 status) ⊎ StoppedForMemory errors status

-- The file of a word has a fault: the file and the fault are reported in fixed words, and the status is the fault's.
pub record HadFault {S : Type 0} (sources : Sources S) (asked : Asked) (errors : Stream) (status : ℕ) : Type 0 where
  pub words : List TableWord
  pub said : AllZip (SaysWord GREATEST) asked.tables words
  pub fault : TableFault
  pub reason : (contents : Bytes → Bytes) → AreFiles sources.remaining sources.opens sources.input words contents → IsFaultOf contents (short_by asked.ragged) GREATEST words fault
  pub within : fault.word < length words
  pub reported : (word : TableWord) → Stopped errors (fault_text (short_by asked.ragged) (slice_index_or words fault.word word).file.now fault.why) (status_of fault.why) status

-- why the tables that were asked for could not be made: a word is wrong, an allocation failed, or a file has a fault
pub data NotMade {S : Type 0} (sources : Sources S) (asked : Asked) (errors : Stream) (status : ℕ) : Type 0 where
  WrongWord : (stopped : IsRefusedWord errors status) → NotMade sources asked errors status
  NoMemory : (stopped : StoppedForMemory errors status) → NotMade sources asked errors status
  WrongFile : (had : HadFault sources asked errors status) → NotMade sources asked errors status

-- the tables that were asked for could not be made
abbrev pub HadNoTables : {S : Type 0} → Sources S → Asked → Stream → Stream → ℕ → Type 0
HadNoTables sources asked replies errors status = (asked.tables ≢ []) × IsUntouched replies × NotMade sources asked errors status

-- what was asked for was run, with such a seed; or none came, or there was no memory for a run store in a folder, or the tables could not be made
abbrev pub RanAsked : {S : Type 0} → Sources S → Asked → Stream → Stream → ℕ → Type 0
RanAsked sources asked replies errors status =
    ((seed : RunSeed) × IsSeedFor asked.seed seed × RanFrom sources asked seed replies errors status)
    ⊎ (HadNoSeed asked replies errors status
    ⊎ ((IsTrue (is_some asked.spill) × HadNoMemory replies errors status)
    ⊎ HadNoTables sources asked replies errors status))

-- a script was checked where that was asked for, and otherwise run
abbrev pub DidAsked : {S : Type 0} → Bool → Sources S → Asked → Stream → Stream → ℕ → Type 0
DidAsked true sources asked replies errors status = CheckedGiven sources asked.script asked.commands replies errors status
DidAsked false sources asked replies errors status = RanAsked sources asked replies errors status

-- what was done about a command line as it was read
abbrev pub Did : {S : Type 0} → Sources S → Result Options BadLine → Stream → Stream → ℕ → Type 0
Did sources (Ok options) replies errors status = DidAsked options.check sources (asked_by options) replies errors status
Did sources (Err bad) replies errors status = AnsweredBadLine bad replies errors status

-- The command line was read, and what it asks for was done.
pub record Obeyed {S : Type 0} (sources : Sources S) (words : List Text) (replies errors : Stream) (status : ℕ) : Type 0 where
  pub read : Result Options BadLine
  pub reads : Reads words read
  pub did : Did sources read replies errors status

-- the words were obeyed; or they could not be had: an allocation failed, or they are not UTF-8
abbrev pub RanProgram : {S : Type 0} → Sources S → Result (List Text) Error → Stream → Stream → ℕ → Type 0
RanProgram sources (Ok words) replies errors status = Obeyed sources words replies errors status
RanProgram sources (Err e) replies errors status = IsUntouched replies × StoppedBy e (codes "error: the arguments are not UTF-8\n") 2 errors status
