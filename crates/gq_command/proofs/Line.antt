-- What is read from a line is said by it, and what it says is read.
use Rattle.std.proofs.Common.{◌≡◌, List, Option, Some, None, refl, sym, ◌∙◌, Bool, true, false, IsUtf8}
use Rattle.std.specs.Str.{is_utf8}
use Rattle.std.proofs.lemmas.Str.{IsUtf8-from_is_utf8}
use Rattle.gq_token.specs.declared.token.Token.{Token}
use Rattle.gq_command.specs.Commands.{Bytes, SaysTokens}
use Rattle.gq_command.specs.declared.command.Command.{Command}
use Rattle.gq_token.specs.Results.{◌>>=◌}
use Rattle.gq_command.specs.Reading.{command_of}
use Rattle.gq_token.specs.Lexing.{tokens}
use Rattle.gq_command.specs.Lines.{Says, command_on}
use Rattle.gq_command.proofs.Sound.{command_sound}
use Rattle.gq_command.proofs.Again.{command_again}

sound : (ts : Option (List Token)) (c : Command) → (ts >>= command_of) ≡ Some c → SaysTokens ts c
sound None c e = absurd cc
sound (Some ts) c e = command_sound ts c e

again : (ts : Option (List Token)) (c : Command) → SaysTokens ts c → (ts >>= command_of) ≡ Some c
again None c s = absurd (cc (s.written))
again (Some ts) c s = command_again ts c s

pub line_sound : (line : Bytes) (c : Command) → command_on line ≡ Some c → Says line c
line_sound line c e = sound (tokens line) c e

pub line_again : (line : Bytes) (c : Command) → Says line c → command_on line ≡ Some c
line_again line c s = again (tokens line) c s

pub none_said : (line : Bytes) → command_on line ≡ None → (c : Command) → Says line c → ⊥
none_said line e c s = let f = sym e ∙ line_again line c s in cc

pub not_utf8 : (bs : Bytes) → (IsUtf8 bs → ⊥) → is_utf8 bs ≡ false
not_utf8 bs never = by_test (is_utf8 bs) refl
  where
    by_test : (b : Bool) → is_utf8 bs ≡ b → is_utf8 bs ≡ false
    by_test true e = absurd (never (IsUtf8-from_is_utf8 bs e))
    by_test false e = e
