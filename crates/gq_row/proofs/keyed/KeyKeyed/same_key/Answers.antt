use Rattle.std.proofs.Common.{◌∙◌}
use Rattle.gq_row.specs.Order.{same_key}
use Rattle.gq_row.proofs.ClassLemmas.{told_same}
use Rattle.gq_row.proofs.keyed.KeyKeyed.same_key.Goals as goal

pub returns : goal.returns
returns c = told_same c.eq.result c.args.self.now c.args.key.now (c.eq.ensures ∙ (λ i. same_key (c.cells.ensures i) (c.cells-2.ensures i)))
