use Rattle.std.proofs.Common.{◌≡◌, ◌+◌, arith}
use Rattle.std.proofs.lemmas.Grind.{common_steps}
use Rattle.gq_group.proofs.PairLemmas.{range_more}
use Rattle.gq_group.proofs.distinct.counts_spec.Goals as goal

pub columns-preserved : goal.columns-preserved
columns-preserved c =
    let e : 0 + c.columns.column ≡ c.columns.column = omega arith in
    rw (c.in_ok-push.ensures.items, c.columns.invariant) (rw e at (range_more 0 c.columns.column))

pub returns : goal.returns
returns c = grind (arith, common_steps)
