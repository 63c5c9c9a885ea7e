use Rattle.std.proofs.Common.{◌∷◌, [], take}
use Rattle.gq_group.specs.Entries.{tallies}
use Rattle.gq_group.proofs.AggLemmas.{first_stay}
use Rattle.gq_group.proofs.aggs.append_each.Goals as goal

pub returns-in_err-append_agg-clause-others : goal.returns-in_err-append_agg-clause-others
returns-in_err-append_agg-clause-others c =
    first_stay c.args.running.now.items (tallies (take c.loop-agg.agg-index c.args.asked.now) (c.args.row.now ∷ [])) c.loop-agg.running.items c.append_agg.new.running.items c.loop-agg.invariant c.append_agg.ensures.others
