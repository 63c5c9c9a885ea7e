use Rattle.std.proofs.Common.{ap, ◌∙◌, fold}
use Rattle.gq_row.specs.Classes.{worded}
use Rattle.gq_row.proofs.ClassLemmas.{worded_class}
use Rattle.gq_row.proofs.keyed.KeyKeyed.fold_key_words.Goals as goal

pub returns : goal.returns
returns g c = worded_class (g.F.WordStep.next c.args.f.now) c.args.start c.fold_cell_words.result c.args.self.now
    (c.fold_cell_words.ensures ∙ ap (λ k. fold (g.F.WordStep.next c.args.f.now) c.args.start (worded k)) c.cells.ensures)
