use Rattle.std.proofs.Common.{◌∙◌, sym}
use Rattle.gq_group.proofs.KeptAggLemmas.{rows_told}
use Rattle.gq_group.proofs.aggs.rows_added.Goals as goal

pub returns-in-Some-clause-rows : goal.returns-in-Some-clause-rows
returns-in-Some-clause-rows c = λ asked rows some is. c.adds.ensures.is ∙ rows_told asked rows c.args.aggs.now c.in-Some.agg.now some (sym c.in-Some.ensures.value) is
