use Rattle.std.proofs.Common.{ap, map, ◌∙◌}
use Rattle.gq_row.specs.Folding.{folded}
use Rattle.gq_row.specs.Order.{same_key}
use Rattle.gq_row.proofs.ClassLemmas.{told_same}
use Rattle.gq_row.proofs.keyed.KeyCellsNamesKey.same.Goals as goal

pub returns : goal.returns
returns c = told_same c.have_folds.result (map folded c.args.self.now.0.now) c.args.key.now (c.have_folds.ensures ∙ ap (same_key (map folded c.args.self.now.0.now)) c.cells.ensures)
