-- What the program's two streams got: the standard output, which is for replies, help and the version, and the standard error, which is for all else.
use Rattle.std.specs.Prelude.{◌≡◌, Option, Result, Ok, Err}
use Rattle.std.specs.Io.KnownBytes.{Appends}
use Rattle.gq_command.specs.Commands.{Bytes}
use Rattle.gq_reply.specs.Sending.{AppendsPrefix}
use Rattle.gq_shell.specs.declared.writing.CutShort.{CutShort}

-- one stream's bytes before and after, where they are known
pub record Stream : Type 0 where
  pub before : Option Bytes
  pub after : Option Bytes

-- the bytes that a writer holds, before and after
abbrev pub stream : {W : Type 0} → (W → Option Bytes) → W → W → Stream
stream contents old new = record { before = contents old; after = contents new }

-- nothing was written to it
abbrev pub IsUntouched : Stream → Type 0
IsUntouched s = s.after ≡ s.before

-- this was written to it, and nothing else
abbrev pub Got : Stream → Bytes → Type 0
Got s bytes = Appends s.before s.after bytes

-- a prefix of this was written to it, and nothing else
abbrev pub GotPrefix : Stream → Bytes → Type 0
GotPrefix s bytes = AppendsPrefix s.before s.after bytes

-- it took all of a text, or a prefix of it
abbrev pub Written : Stream → Bytes → Result (Unit {0}) CutShort → Type 0
Written s text (Ok done) = Got s text
Written s text (Err fault) = GotPrefix s text
