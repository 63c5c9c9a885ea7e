use Rattle.std.proofs.Common.{◌≡◌, drop}
use Rattle.gq_script.specs.Payloads.{mark_of}
use Rattle.gq_script.proofs.payload.EndMark.behind.Given as goal

abbrev pub invariant-loop-byte : goal.invariant-loop-byte
invariant-loop-byte l = mark_of l.mark (drop l.byte-index l.piece) ≡ mark_of l.fn.self l.piece
