use Rattle.std.proofs.Common.{◌≡◌, ◌++◌, ◌∷◌, ◌<◌, ◌≤◌, [], length, arith}
use Rattle.std.proofs.lemmas.Result.{err_from_is_err_and}
use Rattle.gq_token.specs.declared.token.Terminal.TheVariants as terminal
use Rattle.gq_token.specs.Queue.{skip}
use Rattle.gq_clause.specs.Reading.{items_at, aggregate_at}
use Rattle.gq_clause.proofs.Loop.{goes_on, stops, fails, runs_out}
use Rattle.gq_clause.proofs.reading.aggregates_of.Goals as goal

pub returns-in_err-aggregate : goal.returns-in_err-aggregate
returns-in_err-aggregate c =
    let p = err_from_is_err_and c.from_residual.result c.from_residual.ensures.1 in
    let lt : c.loop.counter < length c.args.tokens.now = omega arith in
    rw (p.1, p.2) (fails aggregate_at (skip terminal.Comma) c.in_err-aggregate.field-0.0 c.loop.aggregates.items (length c.args.tokens.now) c.loop.counter c.loop.tokens (items_at aggregate_at (skip terminal.Comma) c.args.tokens.now) lt c.in_err-aggregate.ensures c.loop.invariant)

pub returns-then-not-skip : goal.returns-then-not-skip
returns-then-not-skip c =
    let lt : c.loop.counter < length c.args.tokens.now = omega arith in
    let pushed : c.push.new.self.items ≡ c.loop.aggregates.items ++ c.in_ok-aggregate.aggregate ∷ [] = c.in_ok-push.ensures.items in
    let left : c.skip.new.self ≡ c.aggregate_of.new.tokens = c.if-not-skip.ensures.1 in
    rw (pushed, left) (stops aggregate_at (skip terminal.Comma) c.loop.aggregates.items (length c.args.tokens.now) c.loop.counter c.loop.tokens c.in_ok-aggregate.aggregate c.aggregate_of.new.tokens (items_at aggregate_at (skip terminal.Comma) c.args.tokens.now) lt c.in_ok-aggregate.ensures c.if-not-skip.ensures.0 c.loop.invariant)

pub loop-preserved : goal.loop-preserved
loop-preserved c =
    let lt : c.loop.counter < length c.args.tokens.now = omega arith in
    let pushed : c.push.new.self.items ≡ c.loop.aggregates.items ++ c.in_ok-aggregate.aggregate ∷ [] = c.in_ok-push.ensures.items in
    rw pushed (goes_on aggregate_at (skip terminal.Comma) c.loop.aggregates.items (length c.args.tokens.now) c.loop.counter c.loop.tokens c.in_ok-aggregate.aggregate c.aggregate_of.new.tokens c.skip.new.self (items_at aggregate_at (skip terminal.Comma) c.args.tokens.now) lt c.in_ok-aggregate.ensures c.if-not-skip.ensures c.loop.invariant)

pub returns : goal.returns
returns c =
    let le : length c.args.tokens.now ≤ c.loop.counter = omega arith in
    runs_out aggregate_at (skip terminal.Comma) c.loop.aggregates.items (length c.args.tokens.now) c.loop.counter c.loop.tokens (items_at aggregate_at (skip terminal.Comma) c.args.tokens.now) le c.loop.invariant
