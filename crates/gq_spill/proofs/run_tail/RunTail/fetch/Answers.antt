use Rattle.std.proofs.Common.{◌≤◌, ◌+◌, ◌-◌, arith}
use Rattle.gq_spill.proofs.ReadingLemmas.{grown, not_short}
use Rattle.gq_spill.proofs.run_tail.RunTail.fetch.Goals as goal

pub returns-clause-rest : goal.returns-clause-rest
returns-clause-rest g c = λ honest rest u.
    let tail = c.args.self.now in
    grown c.grow.result tail (tail.at + c.len-held.result) c.min-more.result c.grow.new.self _ _ rest (omega (arith, c.len-held.ensures)) honest c.requires.live c.grow.ensures.store (c.grow.ensures.bytes honest) c.grow.ensures.err u

pub returns-clause-sound : goal.returns-clause-sound
returns-clause-sound g c = λ honest damaged rest u.
    let tail = c.args.self.now in
    let enough : c.min-more.result ≤ tail.end - (tail.at + c.len-held.result) = omega arith in
    absurd (not_short tail (tail.at + c.len-held.result) c.min-more.result _ rest (omega (arith, c.len-held.ensures)) enough (c.grow.ensures.sound honest damaged) u)
