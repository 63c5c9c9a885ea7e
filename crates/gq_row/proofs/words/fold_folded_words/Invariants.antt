use Rattle.std.proofs.Common.{◌≡◌, drop, map, fold}
use Rattle.gq_row.specs.Classes.{worded}
use Rattle.gq_row.specs.Folding.{folded}
use Rattle.gq_row.proofs.words.fold_folded_words.Given as goal

abbrev pub invariant-loop-cell : goal.invariant-loop-cell
invariant-loop-cell g l = fold (g.F.WordStep.next l.f) l.acc (worded (map folded (drop l.cell-index l.cells))) ≡ fold (g.F.WordStep.next l.f) l.start (worded (map folded l.cells))
