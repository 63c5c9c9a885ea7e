-- Lines as commands.
use Rattle.std.specs.Prelude.{◌≡◌, Option}
use Rattle.gq_command.specs.declared.command.Command.{Command}
use Rattle.gq_command.specs.Commands.{Bytes, SaysTokens}
use Rattle.gq_token.specs.Results.{◌>>=◌}
use Rattle.gq_command.specs.Reading.{command_of}
use Rattle.gq_token.specs.Lexing.{tokens}

-- the line says the command: its tokens are the command's
abbrev pub Says : Bytes → Command → Type 0
Says line c = SaysTokens (tokens line) c

-- the command that is parsed from a line
abbrev pub command_on : Bytes → Option Command
command_on line = tokens line >>= command_of

-- no line says two commands
abbrev pub SaysOne : Type 0
SaysOne = (line : Bytes) (c d : Command) → Says line c → Says line d → c ≡ d
