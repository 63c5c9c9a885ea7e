use Rattle.std.proofs.Common.{◌≡◌}
use Rattle.gq_token.specs.Texts.{Bytes}
use Rattle.gq_script.proofs.Gathered.{Taking}
use Rattle.gq_script.proofs.gather.gather_line.Given as goal

abbrev pub invariant-loop : goal.invariant-loop
invariant-loop g l = (raw : Bytes) × Taking l.bounds.line l.fn.source l.source l.line l.after_cr l.any raw × (l.source.lines ≡ l.fn.source.lines)
