use Rattle.std.proofs.Common.{◌≡◌, ◌-◌, length}
use Rattle.gq_token.specs.declared.token.Terminal.TheVariants as terminal
use Rattle.gq_token.specs.Queue.{skip}
use Rattle.gq_clause.specs.Reading.{items_within, items_at, name_at}
use Rattle.gq_clause.proofs.Loop.{with_front}
use Rattle.gq_clause.proofs.reading.names_of.Given as goal

abbrev pub invariant-loop : goal.invariant-loop
invariant-loop l = with_front l.names.items (items_within name_at (skip terminal.Comma) (length l.fn.tokens - l.counter) l.tokens) ≡ items_at name_at (skip terminal.Comma) l.fn.tokens
