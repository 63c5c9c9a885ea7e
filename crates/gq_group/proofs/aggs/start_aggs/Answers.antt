use Rattle.std.proofs.Common.{[], ◌++◌, append-nil, sym, take, ◌∙◌, ap, arith}
use Rattle.std.proofs.lemmas.Grind.{common_steps}
use Rattle.std.proofs.lemmas.List.{take_all}
use Rattle.gq_group.specs.Entries.{tallies}
use Rattle.gq_group.proofs.AggLemmas.{tallies_more, others_stay}
use Rattle.gq_group.proofs.Results.{on_ok_err}
use Rattle.gq_group.proofs.aggs.start_aggs.Goals as goal

pub loop-agg-init : goal.loop-agg-init
loop-agg-init c = sym (append-nil c.args.running.now.items)

pub offset_bounds-asked-agg-index : goal.offset_bounds-asked-agg-index
offset_bounds-asked-agg-index c = grind (arith, common_steps)

pub returns-in_err-push-clause-ok : goal.returns-in_err-push-clause-ok
returns-in_err-push-clause-ok c = on_ok_err _ c.from_residual.result c.from_residual.ensures.0

pub returns-in_err-push-clause-others : goal.returns-in_err-push-clause-others
returns-in_err-push-clause-others c =
    others_stay c.args.running.now.items (tallies (take c.loop-agg.agg-index c.args.asked.now) []) c.push.new.self.items (c.in_err-push.ensures.items ∙ c.loop-agg.invariant)

pub loop-agg-preserved : goal.loop-agg-preserved
loop-agg-preserved c =
    tallies_more c.args.asked.now c.loop-agg.agg-index _ c.start.result c.args.running.now.items c.loop-agg.running.items c.push.new.self.items c.loop-agg-test.true c.loop-agg.invariant c.start.ensures c.in_ok-push.ensures.items

pub returns-clause-ok : goal.returns-clause-ok
returns-clause-ok c =
    c.loop-agg.invariant ∙ ap (λ l. c.args.running.now.items ++ tallies l []) (take_all c.loop-agg.agg-index c.args.asked.now c.loop-agg-test.false)

pub returns-clause-others : goal.returns-clause-others
returns-clause-others c =
    others_stay c.args.running.now.items (tallies (take c.loop-agg.agg-index c.args.asked.now) []) c.loop-agg.running.items c.loop-agg.invariant
