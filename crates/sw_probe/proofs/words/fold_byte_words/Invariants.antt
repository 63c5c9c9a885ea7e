use Rattle.std.proofs.Common.{◌≡◌, ◌-◌, ◌/◌, ◌≤◌, ◌∷◌, max, map, fold, length}
use Rattle.sw_probe.specs.Words.{front_words}
use Rattle.sw_probe.proofs.words.fold_byte_words.Given as goal

abbrev pub invariant-loop-i : goal.invariant-loop-i
invariant-loop-i g l = (l.i ≤ max 1 ((length l.bytes - 1) / 8)) × (l.acc ≡ fold (g.F.WordStep.next l.f) l.start (length l.bytes ∷ front_words l.i (map (g.M.ByteMap.image l.of) l.bytes)))
