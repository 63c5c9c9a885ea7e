use Rattle.std.proofs.Common.{ap, map, ◌∙◌}
use Rattle.gq_row.specs.Folding.{folded}
use Rattle.gq_row.specs.Order.{same_key}
use Rattle.gq_row.proofs.ClassLemmas.{told_class}
use Rattle.gq_row.proofs.laws.same_by_each_form.Goals as goal

pub returns-clause-row : goal.returns-clause-row
returns-clause-row c = told_class c.same-by_row.result c.new.result c.args.key.now c.same-by_row.ensures ∙ ap (λ k. same_key k c.args.key.now) c.new.ensures

pub returns-clause-cells : goal.returns-clause-cells
returns-clause-cells c = told_class c.same.result (map folded c.args.cells.now) c.args.key.now c.same.ensures
