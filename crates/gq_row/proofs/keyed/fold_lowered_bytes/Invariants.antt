use Rattle.std.proofs.Common.{◌≡◌, drop, fold}
use Rattle.gq_row.specs.Folding.{fold_case}
use Rattle.gq_row.proofs.keyed.fold_lowered_bytes.Given as goal

abbrev pub invariant-loop-byte : goal.invariant-loop-byte
invariant-loop-byte g l = fold (g.F.Step.next l.f) l.acc (fold_case (drop l.byte-index l.bytes)) ≡ fold (g.F.Step.next l.f) l.start (fold_case l.bytes)
