-- Where scripts come from, and how the program stops before it has run one.
use Rattle.std.specs.Prelude.{◌≡◌, ◌≢◌, ◌++◌, ℕ, List, codes, flat_map, Option, Result}
use Rattle.std.specs.IoError.{error_kind}
use Rattle.std.specs.declared.io.Error.{Error}
use Rattle.std.specs.declared.io.ErrorKind.TheVariants as kind
use Rattle.gq_command.specs.Commands.{Bytes}
use Rattle.gq_options.specs.CommandLine.{Text}
use Rattle.gq_shell.specs.Streams.{Stream, GotPrefix}

-- The standard error got this text, as far as it took it, and this is the status.
pub record Stopped (errors : Stream) (text : Bytes) (wanted status : ℕ) : Type 0 where
  pub reported : GotPrefix errors text
  pub is : status ≡ wanted

abbrev pub StoppedForMemory : Stream → ℕ → Type 0
StoppedForMemory errors status = Stopped errors (codes "groupsh: out of memory\n") 3 status

-- by an error: a failed allocation as such, and any other by this text and status
abbrev pub StoppedBy : Error → Bytes → ℕ → Stream → ℕ → Type 0
StoppedBy e text wanted errors status =
    (error_kind e ≡ kind.OutOfMemory → StoppedForMemory errors status)
    × (error_kind e ≢ kind.OutOfMemory → Stopped errors text wanted status)

-- Where scripts come from: the bytes of the standard input, and what opening a path may give.
pub record Sources (S : Type 0) : Type 1 where
  pub input : Option Bytes
  pub remaining : S → Option Bytes
  pub opens : Text → Result S Error → Type 0

-- sources with this standard input
abbrev pub sources_of : {S : Type 0} → Option Bytes → (S → Option Bytes) → (Text → Result S Error → Type 0) → Sources S
sources_of input remaining opens = record { input = input; remaining = remaining; opens = opens }

-- lines of the command line as a script: each is followed by a line feed
abbrev pub script_of : List Text → Bytes
script_of commands = flat_map (λ lines. lines ++ codes "\n") commands
