use Rattle.std.proofs.Common.{◌∙◌, sym, true≢false, rules}
use Rattle.gq_select.proofs.DistinctLemmas.{in_range, pushes_keys}
use Rattle.gq_select.proofs.keys.distinct.Goals as goal

pub returns-in-Ok-clause-keys : goal.returns-in-Ok-clause-keys
returns-in-Ok-clause-keys g c = λ honest rows gives before holds.
    pushes_keys c.new-spec.result c.args.columns.items rows _ c.requires.some c.new-spec.ensures.by (c.new-spec.ensures.aggs ∙ c.new.ensures.items) (c.in-Ok.ensures.groups honest rows gives before holds)

pub returns-in-Err-SumRange-clause-cause : goal.returns-in-Err-SumRange-clause-cause
returns-in-Err-SumRange-clause-cause g c = λ honest.
    let there = g.met.R.RowSource.has_rows c.args.source.now (g.S.RunStore.runs c.args.store.now) c.requires.source honest in
    let over = c.in-Err-SumRange.ensures.overflow honest (search rules) there.0 there.1 in
    true≢false (sym over ∙ in_range c.new-spec.result c.args.columns.items there.0 c.new-spec.ensures.by (c.new-spec.ensures.aggs ∙ c.new.ensures.items))
