use Rattle.std.proofs.Common.{subst, sym, IsTrue}
use Rattle.gq_spill_tests.proofs.Weaker.{if_ok_weaker}
use Rattle.gq_spill_tests.proofs.whole.through_a_run.Goals as goal

pub returns : goal.returns
returns g c = λ honest.
    let still = subst IsTrue (sym c.write_rows.ensures.honest) honest in
    if_ok_weaker c.read_rows-read.result _ _ (λ read same. same c.args.rows.now (c.in_ok-mark.ensures.wrote honest c.args.columns c.requires)) (c.read_rows-read.ensures.read still)
