use Rattle.std.proofs.Common.{map}
use Rattle.gq_row.specs.Folding.{folded}
use Rattle.gq_row.proofs.ClassLemmas.{worded_class}
use Rattle.gq_row.proofs.keyed.KeyCellsNamesKey.fold_words.Goals as goal

pub returns : goal.returns
returns g c = worded_class (g.F.WordStep.next c.args.f.now) c.args.start c.fold_folded_words.result (map folded c.args.self.now.0.now) c.fold_folded_words.ensures
