use Rattle.std.proofs.Common.{◌≡◌, ◌-◌, length}
use Rattle.gq_token.specs.Queue.{column_comma}
use Rattle.gq_clause.specs.Reading.{items_within, items_at}
use Rattle.gq_command.specs.Reading.{column_at}
use Rattle.gq_clause.proofs.Loop.{with_front}
use Rattle.gq_command.proofs.parsing.columns_of.Given as goal

abbrev pub invariant-loop : goal.invariant-loop
invariant-loop l = with_front l.columns.items (items_within column_at column_comma (length l.fn.tokens - l.counter) l.tokens) ≡ items_at column_at column_comma l.fn.tokens
