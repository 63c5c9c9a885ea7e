use Rattle.std.proofs.Common.{◌≡◌, ◌++◌, ◌∷◌, ◌<◌, ◌≤◌, [], length, arith}
use Rattle.std.proofs.lemmas.Result.{err_from_is_err_and}
use Rattle.gq_token.specs.Queue.{column_comma}
use Rattle.gq_clause.specs.Reading.{items_at}
use Rattle.gq_command.specs.Reading.{column_at}
use Rattle.gq_clause.proofs.Loop.{goes_on, stops, fails, runs_out}
use Rattle.gq_command.proofs.parsing.columns_of.Goals as goal

pub returns-in_err-column : goal.returns-in_err-column
returns-in_err-column c =
    let p = err_from_is_err_and c.from_residual.result c.from_residual.ensures.1 in
    let lt : c.loop.counter < length c.args.tokens.now = omega arith in
    rw (p.1, p.2) (fails column_at column_comma c.in_err-column.field-0.0 c.loop.columns.items (length c.args.tokens.now) c.loop.counter c.loop.tokens (items_at column_at column_comma c.args.tokens.now) lt c.in_err-column.ensures c.loop.invariant)

pub returns-then-not-skip_to_column : goal.returns-then-not-skip_to_column
returns-then-not-skip_to_column c =
    let lt : c.loop.counter < length c.args.tokens.now = omega arith in
    let pushed : c.push.new.self.items ≡ c.loop.columns.items ++ c.in_ok-column.column ∷ [] = c.in_ok-push.ensures.items in
    let left : c.skip_to_column.new.self ≡ c.column_of.new.tokens = c.if-not-skip_to_column.ensures.1 in
    rw (pushed, left) (stops column_at column_comma c.loop.columns.items (length c.args.tokens.now) c.loop.counter c.loop.tokens c.in_ok-column.column c.column_of.new.tokens (items_at column_at column_comma c.args.tokens.now) lt c.in_ok-column.ensures c.if-not-skip_to_column.ensures.0 c.loop.invariant)

pub loop-preserved : goal.loop-preserved
loop-preserved c =
    let lt : c.loop.counter < length c.args.tokens.now = omega arith in
    let pushed : c.push.new.self.items ≡ c.loop.columns.items ++ c.in_ok-column.column ∷ [] = c.in_ok-push.ensures.items in
    rw pushed (goes_on column_at column_comma c.loop.columns.items (length c.args.tokens.now) c.loop.counter c.loop.tokens c.in_ok-column.column c.column_of.new.tokens c.skip_to_column.new.self (items_at column_at column_comma c.args.tokens.now) lt c.in_ok-column.ensures c.if-not-skip_to_column.ensures c.loop.invariant)

pub returns : goal.returns
returns c =
    let le : length c.args.tokens.now ≤ c.loop.counter = omega arith in
    runs_out column_at column_comma c.loop.columns.items (length c.args.tokens.now) c.loop.counter c.loop.tokens (items_at column_at column_comma c.args.tokens.now) le c.loop.invariant
