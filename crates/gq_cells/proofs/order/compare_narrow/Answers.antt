use Rattle.std.proofs.Common.{◌∙◌}
use Rattle.gq_cells.proofs.OrderLemmas.{numbers_by_each}
use Rattle.gq_cells.proofs.order.compare_narrow.Goals as goal

pub returns : goal.returns
returns c = c.compare_each.ensures ∙ numbers_by_each c.args.a.now c.args.b.now
