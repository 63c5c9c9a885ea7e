use Rattle.std.proofs.Common.{◌≡◌, drop, fold}
use Rattle.gq_row.specs.Classes.{worded}
use Rattle.gq_row.proofs.words.fold_cell_words.Given as goal

abbrev pub invariant-loop-cell : goal.invariant-loop-cell
invariant-loop-cell g l = fold (g.F.WordStep.next l.f) l.acc (worded (drop l.cell-index l.cells)) ≡ fold (g.F.WordStep.next l.f) l.start (worded l.cells)
