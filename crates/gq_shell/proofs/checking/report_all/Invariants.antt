use Rattle.std.proofs.Common.{List}
use Rattle.gq_check.specs.declared.report.Report.{Report}
use Rattle.gq_shell.proofs.CheckLemmas.{ReportedSoFar}
use Rattle.gq_shell.proofs.checking.report_all.Given as goal

abbrev pub invariant-loop : goal.invariant-loop
invariant-loop g l = (reports : List Report) × ReportedSoFar l.name l.initial.checker l.checker (g.W.Write.contents l.initial.replies) (g.W.Write.contents l.replies) l.any reports
