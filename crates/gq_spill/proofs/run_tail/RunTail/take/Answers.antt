use Rattle.gq_spill.proofs.ReadingLemmas.{used}
use Rattle.gq_spill.proofs.run_tail.RunTail.take.Goals as goal

pub returns-in-Ok-clause-row : goal.returns-in-Ok-clause-row
returns-in-Ok-clause-row g c = λ honest rest u.
    used c.args.self.now c.use_row.new.self _ rest c.use_row.new.row c.use_row.ensures.same.0 c.use_row.ensures.same.1 c.in-Ok.ensures.row.0 c.in-Ok.ensures.row.1 u
