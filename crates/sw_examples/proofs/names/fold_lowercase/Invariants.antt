use Rattle.std.proofs.Common.{◌≡◌, map, take, fold}
use Rattle.std.specs.Char.{to_ascii_lowercase}
use Rattle.sw_examples.proofs.names.fold_lowercase.Given as goal

abbrev pub invariant-loop-byte : goal.invariant-loop-byte
invariant-loop-byte g l = l.acc ≡ fold (g.F.Step.next l.f) l.start (map to_ascii_lowercase (take l.byte-index l.bytes))
