use Rattle.std.proofs.Common.{◌≡◌, length, IsUtf8}
use Rattle.std.specs.Prelude.{string_bytes}
use Rattle.gq_token.specs.Lexing.{quoted}
use Rattle.gq_token.proofs.Quotes.{with_front}
use Rattle.gq_token.proofs.lexing.quoted.Given as goal

abbrev pub invariant-loop-piece : goal.invariant-loop-piece
invariant-loop-piece l = record {
  utf8 : IsUtf8 l.rest;
  told : with_front (string_bytes l.value) (quoted l.quote l.rest) ≡ quoted l.quote l.text;
}

abbrev pub decreases-loop-piece : goal.decreases-loop-piece
decreases-loop-piece l = length l.rest
