use Rattle.std.proofs.Common.{◌∙◌, arith}
use Rattle.std.proofs.lemmas.Bool.{ne_eqb}
use Rattle.std.proofs.lemmas.Result.{IfOk-from_err}
use Rattle.std.proofs.lemmas.Grind.{common_steps}
use Rattle.gq_script.proofs.Gathered.{fed, ended, unended}
use Rattle.gq_script.proofs.gather.gather_line.Goals as goal

pub returns-in-None-clause-line : goal.returns-in-None-clause-line
returns-in-None-clause-line g c =
    let h = rw c.in-None.is at c.in_ok-next_byte.ensures.end in
    unended c.args.bounds.now c.args.source.now c.loop.source c.next_byte.new.self c.loop.line c.close.new.self c.loop.after_cr c.loop.any c.loop.invariant.0 c.loop.invariant.1 h.0 h.1 c.if-not-any.false c.close.ensures (c.in_ok-next_byte.ensures.lines ∙ c.loop.invariant.2)

pub returns-in-Some-eq10-clause-line : goal.returns-in-Some-eq10-clause-line
returns-in-Some-eq10-clause-line g c =
    let h = rw c.in-Some-eq10.is at c.in_ok-next_byte.ensures.some in
    ended c.args.bounds.now c.args.source.now c.loop.source c.next_byte.new.self c.loop.line c.loop.after_cr c.loop.any c.loop.invariant.0 c.in-Some-eq10.field-0 c.loop.invariant.1 h c.in-Some-eq10.field-0-test (c.in_ok-next_byte.ensures.lines ∙ c.loop.invariant.2)

pub loop-preserved : goal.loop-preserved
loop-preserved g c =
    let h = rw c.in-Some.is at c.in_ok-next_byte.ensures.some in
    (_, fed c.args.bounds.now.line c.args.source.now c.loop.source c.next_byte.new.self c.loop.line c.feed-after_cr.new.self c.loop.after_cr c.feed-after_cr.result c.loop.any c.loop.invariant.0 c.in-Some.byte c.loop.invariant.1 h (ne_eqb c.in-Some.byte 10 c.in-Some.byte-test.1) c.feed-after_cr.ensures, c.in_ok-next_byte.ensures.lines ∙ c.loop.invariant.2)

pub loop-init : goal.loop-init
loop-init g c = grind (arith, common_steps)

pub returns-in_err-next_byte-clause-line : goal.returns-in_err-next_byte-clause-line
returns-in_err-next_byte-clause-line g c = IfOk-from_err c.from_residual.result _ c.from_residual.ensures.0

pub returns-in_err-next_byte-clause-end : goal.returns-in_err-next_byte-clause-end
returns-in_err-next_byte-clause-end g c = IfOk-from_err c.from_residual.result _ c.from_residual.ensures.0

pub returns-in_err-next_byte-clause-within : goal.returns-in_err-next_byte-clause-within
returns-in_err-next_byte-clause-within g c = IfOk-from_err c.from_residual.result _ c.from_residual.ensures.0

pub returns-then-not-any-clause-end : goal.returns-then-not-any-clause-end
returns-then-not-any-clause-end g c = grind (arith, common_steps)

pub returns-then-not-any-clause-within : goal.returns-then-not-any-clause-within
returns-then-not-any-clause-within g c = grind (arith, common_steps)

pub returns-in-None-clause-within : goal.returns-in-None-clause-within
returns-in-None-clause-within g c = grind (arith, common_steps)

pub returns-in-Some-eq10-clause-within : goal.returns-in-Some-eq10-clause-within
returns-in-Some-eq10-clause-within g c = grind (arith, common_steps)
