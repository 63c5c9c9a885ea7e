use Rattle.std.proofs.Common.{◌∙◌}
use Rattle.gq_token.specs.Lexing.{lower}
use Rattle.gq_token.proofs.Lookup.{found, passed, told}
use Rattle.gq_token.proofs.lexing.lookup.Goals as goal

pub returns-then-eq_ignore_ascii_case : goal.returns-then-eq_ignore_ascii_case
returns-then-eq_ignore_ascii_case c =
    found (λ e. (lower e.0.now, e.1)) (lower c.args.word.now) c.args.table.now c.loop-spelled.spelled-index _ c.loop-spelled-test.true (told c.eq_ignore_ascii_case.result _ _ c.eq_ignore_ascii_case.ensures.test ∙ c.if-eq_ignore_ascii_case.true) ∙ c.loop-spelled.invariant

pub loop-spelled-preserved : goal.loop-spelled-preserved
loop-spelled-preserved c =
    passed (λ e. (lower e.0.now, e.1)) (lower c.args.word.now) c.args.table.now c.loop-spelled.spelled-index _ c.loop-spelled-test.true (told c.eq_ignore_ascii_case.result _ _ c.eq_ignore_ascii_case.ensures.test ∙ c.if-eq_ignore_ascii_case.false) ∙ c.loop-spelled.invariant
