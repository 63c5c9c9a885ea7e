use Rattle.std.proofs.Common.{◌≡◌, ◌++◌, ◌∷◌, ◌+◌, ◌-◌, [], length, arith, ◌∙◌, ap, List, ℕ}
use Rattle.std.proofs.lemmas.Result.{err_from_is_err_and}
use Rattle.gq_token.specs.Lexing.{lexed, tokens_within}
use Rattle.gq_token.proofs.Cut.{goes_on, fails, is_done, runs_out, with_front, some_left, none_left}
use Rattle.gq_token.proofs.lexing.lex.Goals as goal
use Rattle.gq_token.proofs.lexing.lex.Goals.{else-loop-test, then-loop-test+then-is_empty}

pub returns-in_err-token : goal.returns-in_err-token
returns-in_err-token c =
    let p = err_from_is_err_and c.from_residual.result c.from_residual.ensures.1 in
    rw (p.1, p.2) (fails c.in_err-token.field-0.0 c.loop.tokens (length c.args.text.now) c.loop.counter c.loop.rest.now (lexed c.args.text.now) (omega arith) (some_left (length c.loop.rest.now) c.is_empty.result c.is_empty.ensures c.if-is_empty.false) c.in_err-token.ensures c.loop.invariant.told)

pub loop-preserved : goal.loop-preserved
loop-preserved c =
    let t = c.in_ok-token.token in
    let pushed : c.push.new.self ≡ c.loop.tokens ++ t ∷ [] = c.in_ok-push.ensures in
    record {
      utf8 = c.trimmed-rest-in-loop.utf8;
      told = ap (λ (f : _). with_front f (tokens_within (length c.args.text.now - (c.loop.counter + 1)) c.trimmed-rest-in-loop.result.now)) pushed
          ∙ ap (λ (bs : List ℕ). with_front (c.loop.tokens ++ t ∷ []) (tokens_within (length c.args.text.now - (c.loop.counter + 1)) bs)) c.trimmed-rest-in-loop.ensures
          ∙ goes_on c.loop.tokens (length c.args.text.now) c.loop.counter c.loop.rest.now t c.in_ok-token.after.now (lexed c.args.text.now) (omega arith) (some_left (length c.loop.rest.now) c.is_empty.result c.is_empty.ensures c.if-is_empty.false) c.in_ok-token.ensures c.loop.invariant.told;
    }

pub returns-then-is_empty-2 : goal.returns-then-is_empty-2
returns-then-is_empty-2 c = is_done c.loop.tokens (length c.args.text.now - c.loop.counter) c.loop.rest.now (lexed c.args.text.now) (none_left (length c.loop.rest.now) c.is_empty-2.result c.is_empty-2.ensures c.if-is_empty-2.true) c.loop.invariant.told

pub returns-else-is_empty-2 : goal.returns-else-is_empty-2
returns-else-is_empty-2 c =
    let some = some_left (length c.loop.rest.now) c.is_empty-2.result c.is_empty-2.ensures c.if-is_empty-2.false in
    elim c.loop-test.branch [
      | else-loop-test w ↦ runs_out c.loop.tokens (length c.args.text.now - c.loop.counter) c.loop.rest.now (lexed c.args.text.now) (omega arith) some c.loop.invariant.told
      | then-loop-test+then-is_empty w ↦ absurd (omega (arith, some, none_left (length c.loop.rest.now) w.is_empty.result w.is_empty.ensures w.if-is_empty.true))
    ]
