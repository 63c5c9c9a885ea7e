use Rattle.gq_shell.proofs.checking.write_reports.Goals as goal

pub returns : goal.returns
returns g c = c.report_all.ensures _ (record { left = c.new-checker.ensures.left; lines = c.new-checker.ensures.lines })
