use Rattle.std.proofs.Common.{◌≡◌, ◌-◌, length}
use Rattle.gq_token.specs.declared.token.Terminal.TheVariants as terminal
use Rattle.gq_token.specs.Queue.{skip}
use Rattle.gq_clause.specs.Reading.{items_within, items_at, test_at}
use Rattle.gq_clause.proofs.Loop.{with_front}
use Rattle.gq_clause.proofs.reading.tests_of.Given as goal

abbrev pub invariant-loop : goal.invariant-loop
invariant-loop l = with_front l.tests.items (items_within test_at (skip terminal.And) (length l.fn.tokens - l.counter) l.tokens) ≡ items_at test_at (skip terminal.And) l.fn.tokens
