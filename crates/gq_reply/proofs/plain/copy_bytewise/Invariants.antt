use Rattle.std.proofs.Common.{◌≡◌, ◌++◌, take, drop}
use Rattle.gq_reply.proofs.plain.copy_bytewise.Given as goal

abbrev pub invariant-bytes : goal.invariant-bytes
invariant-bytes l = l.bytes ≡ take l.i l.field ++ drop l.i l.fn.bytes
