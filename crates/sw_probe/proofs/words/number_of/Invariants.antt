use Rattle.std.proofs.Common.{◌≡◌, take, map, fold}
use Rattle.sw_probe.specs.Hashes.{read_step}
use Rattle.sw_probe.proofs.words.number_of.Given as goal

abbrev pub invariant-loop-byte : goal.invariant-loop-byte
invariant-loop-byte g l = l.number ≡ fold read_step 0 (map (g.M.ByteMap.image l.of) (take l.byte-index l.bytes))
