use Rattle.std.proofs.Common.{subst, sym, IsTrue}
use Rattle.gq_spill.specs.Runs.{Runs}
use Rattle.gq_spill_tests.proofs.stores.with_trouble.Goals as goal

pub returns : goal.returns
returns g c = subst (λ (runs : Runs). IsTrue (runs.live c.args.run.number)) (sym c.new.ensures) c.requires
