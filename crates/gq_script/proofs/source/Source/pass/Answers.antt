use Rattle.gq_script.proofs.Front.{passes}
use Rattle.gq_script.proofs.source.Source.pass.Goals as goal

pub returns-clause-taken : goal.returns-clause-taken
returns-clause-taken g c =
    let s = c.self.inside in
    rw (← c.self.view_is) (passes s.after_mark s.buffer s.start s.end c.args.len s.given s.lines (g.R.Read.remaining s.reader) (rw (← c.self.view_is) at c.requires) c.self.invariant.0 c.self.invariant.1 c.self.invariant.2)
