-- A line says the same with and without leading blanks.
use Rattle.std.proofs.Common.{◌≡◌, List, ◌∷◌, [], Option, Some, None, sym, subst, ◌∙◌}
use Rattle.gq_token.specs.declared.token.Token.{Token}
use Rattle.gq_token.specs.Lexing.{skip_blanks}
use Rattle.gq_token.proofs.Trimmed.{tokens_trimmed, dash_unread}
use Rattle.gq_command.specs.declared.command.Command.{Command}
use Rattle.gq_command.specs.Commands.{Bytes, SaysTokens, phrase}
use Rattle.gq_command.specs.Lines.{Says}

pub says_trimmed : (line : Bytes) (c : Command) → Says (skip_blanks line) c → Says line c
says_trimmed line c h = subst (λ (ts : Option (List Token)). SaysTokens ts c) (tokens_trimmed line) h

pub says_whole : (line : Bytes) (c : Command) → Says line c → Says (skip_blanks line) c
says_whole line c h = subst (λ (ts : Option (List Token)). SaysTokens ts c) (sym (tokens_trimmed line)) h

pub dash_says_none : (line : Bytes) → skip_blanks line ≡ 45 ∷ [] → (c : Command) → Says line c → ⊥
dash_says_none line e c h = let g : ◌≡◌ {A = Option (List Token)} None (Some (phrase c)) = sym (dash_unread line e) ∙ h.written in absurd cc
