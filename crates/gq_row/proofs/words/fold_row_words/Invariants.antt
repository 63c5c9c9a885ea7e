use Rattle.std.proofs.Common.{◌≡◌, drop, fold}
use Rattle.gq_row.specs.Classes.{worded}
use Rattle.gq_row.specs.Rows.{key_of}
use Rattle.gq_row.proofs.words.fold_row_words.Given as goal

abbrev pub invariant-loop-position : goal.invariant-loop-position
invariant-loop-position g l = fold (g.F.WordStep.next l.f) l.acc (worded (key_of (drop l.position-index l.positions) l.row)) ≡ fold (g.F.WordStep.next l.f) l.start (worded (key_of l.positions l.row))
