use Rattle.std.proofs.Common.{sym, ap, ◌∙◌, map}
use Rattle.gq_row.specs.Classes.{class_of}
use Rattle.gq_row.specs.Folding.{folded}
use Rattle.gq_row.proofs.FoldLemmas.{key-cells}
use Rattle.gq_row.proofs.laws.hash_each_form.Goals as goal

pub returns-clause-cells : goal.returns-clause-cells
returns-clause-cells g c = c.hash.ensures
    ∙ ap (λ k. g.H.KeyHash.hash_of c.args.hasher.now (class_of k)) (c.requires.has ∙ sym (key-cells c.args.positions.now c.args.row.now) ∙ ap (map folded) (sym c.requires.cells))
    ∙ sym c.hash-2.ensures
