use Rattle.std.proofs.Common.{◌≡◌, ◌-◌, length, IsUtf8}
use Rattle.gq_token.specs.Lexing.{tokens_within, lexed}
use Rattle.gq_token.proofs.Cut.{with_front}
use Rattle.gq_token.proofs.lexing.lex.Given as goal

abbrev pub invariant-loop : goal.invariant-loop
invariant-loop l = record {
  utf8 : IsUtf8 l.rest;
  told : with_front l.tokens (tokens_within (length l.text - l.counter) l.rest) ≡ lexed l.text;
}
