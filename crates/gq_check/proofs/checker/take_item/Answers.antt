use Rattle.std.proofs.Common.{sym, subst, ◌∙◌, Option}
use Rattle.std.proofs.lemmas.Result.{IfOk-from_err}
use Rattle.gq_check.specs.declared.fault.Fault.{Fault}
use Rattle.gq_check.specs.Stepping.{TookItem}
use Rattle.gq_check.proofs.Faults.{either}
use Rattle.gq_check.proofs.Steps.{taken-loading, taken-plain}
use Rattle.gq_check.proofs.checker.take_item.Goals as goal

pub returns-in-Some-clause-item : goal.returns-in-Some-clause-item
returns-in-Some-clause-item g c = λ text h e.
    let b = c.args.limits.now.bounds in
    let takes = sym (c.takes_payload.ensures b text h) ∙ c.if-not-takes_payload.false in
    subst (λ (f : Option Fault). TookItem b c.args.number text c.args.source.now c.pass_payload.new.source (either f c.in_ok-payload.payload) c.in_ok-payload.lines) c.in-Some.is
    (taken-loading b c.args.number _ text c.args.source.now c.pass_payload.new.source _ _ takes (c.in_ok-fault.ensures text h e) c.in_ok-payload.ensures.passed)

pub returns-in-None-clause-item : goal.returns-in-None-clause-item
returns-in-None-clause-item g c = λ text h e.
    let b = c.args.limits.now.bounds in
    let takes = sym (c.takes_payload.ensures b text h) ∙ c.if-not-takes_payload.false in
    subst (λ (f : Option Fault). TookItem b c.args.number text c.args.source.now c.pass_payload.new.source (either f c.in_ok-payload.payload) c.in_ok-payload.lines) c.in-None.is
    (taken-loading b c.args.number _ text c.args.source.now c.pass_payload.new.source _ _ takes (c.in_ok-fault.ensures text h e) c.in_ok-payload.ensures.passed)

pub returns-then-not-takes_payload-clause-item : goal.returns-then-not-takes_payload-clause-item
returns-then-not-takes_payload-clause-item g c = λ text h e.
    taken-plain c.args.limits.now.bounds c.args.number text c.args.source.now _ (sym (c.takes_payload.ensures c.args.limits.now.bounds text h) ∙ c.if-not-takes_payload.true) (c.in_ok-fault.ensures text h e)

pub returns-in_err-fault-clause-item : goal.returns-in_err-fault-clause-item
returns-in_err-fault-clause-item g c = λ text h e. IfOk-from_err c.from_residual.result _ c.from_residual.ensures.0

pub returns-in_err-payload-clause-item : goal.returns-in_err-payload-clause-item
returns-in_err-payload-clause-item g c = λ text h e. IfOk-from_err c.from_residual-in_err-payload.result _ c.from_residual-in_err-payload.ensures.0

pub returns-in_err-fault-clause-within : goal.returns-in_err-fault-clause-within
returns-in_err-fault-clause-within g c = IfOk-from_err c.from_residual.result _ c.from_residual.ensures.0

pub returns-in_err-payload-clause-within : goal.returns-in_err-payload-clause-within
returns-in_err-payload-clause-within g c = IfOk-from_err c.from_residual-in_err-payload.result _ c.from_residual-in_err-payload.ensures.0

pub returns-then-not-takes_payload-clause-within : goal.returns-then-not-takes_payload-clause-within
returns-then-not-takes_payload-clause-within g c = λ h. h

pub returns-in-Some-clause-within : goal.returns-in-Some-clause-within
returns-in-Some-clause-within g c = λ h. c.in_ok-payload.ensures.within

pub returns-in-None-clause-within : goal.returns-in-None-clause-within
returns-in-None-clause-within g c = λ h. c.in_ok-payload.ensures.within
