use Rattle.std.proofs.Common.{[]}
use Rattle.gq_check.specs.Reports.{Between}
use Rattle.gq_check.proofs.checker.Checker.next.Given as goal

abbrev pub invariant-loop : goal.invariant-loop
invariant-loop g l = Between l.limits.bounds l.fn.self l.self []
