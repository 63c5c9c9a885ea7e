use Rattle.std.proofs.Common.{◌≡◌, take, fold}
use Rattle.sw_probe.proofs.keys.fold_bytes.Given as goal

abbrev pub invariant-loop-byte : goal.invariant-loop-byte
invariant-loop-byte g l = l.acc ≡ fold (g.F.Step.next l.f) l.start (take l.byte-index l.bytes)
