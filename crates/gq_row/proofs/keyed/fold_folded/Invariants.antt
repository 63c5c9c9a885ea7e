use Rattle.std.proofs.Common.{◌≡◌, drop, map, fold}
use Rattle.gq_row.specs.Classes.{spelled}
use Rattle.gq_row.specs.Folding.{folded}
use Rattle.gq_row.proofs.keyed.fold_folded.Given as goal

abbrev pub invariant-loop-cell : goal.invariant-loop-cell
invariant-loop-cell g l = fold (g.F.Step.next l.f) l.acc (spelled (map folded (drop l.cell-index l.cells))) ≡ fold (g.F.Step.next l.f) l.start (spelled (map folded l.cells))
