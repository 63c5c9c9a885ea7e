use Rattle.std.proofs.Common.{[], ◌∷◌}
use Rattle.gq_check.proofs.Steps.{end-from, nothing-between, on-from}
use Rattle.gq_check.proofs.checker.Checker.next.Goals as goal

pub loop-init : goal.loop-init
loop-init g c = nothing-between c.args.limits.now.bounds c.args.self.now

pub returns-in-End-clause-end : goal.returns-in-End-clause-end
returns-in-End-clause-end g c = end-from c.args.limits.now.bounds c.args.self.now c.loop.self [] c.loop.invariant (rw c.in-End.is at c.in_ok-step.ensures)

pub returns-in-Found-clause-report : goal.returns-in-Found-clause-report
returns-in-Found-clause-report g c = on-from c.args.limits.now.bounds c.args.self.now c.loop.self c.step.new.self [] (c.in-Found.report ∷ []) c.loop.invariant (rw c.in-Found.is at c.in_ok-step.ensures)

pub loop-preserved : goal.loop-preserved
loop-preserved g c = on-from c.args.limits.now.bounds c.args.self.now c.loop.self c.step.new.self [] [] c.loop.invariant (rw c.in-Clean.is at c.in_ok-step.ensures)
