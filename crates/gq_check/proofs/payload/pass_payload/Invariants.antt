use Rattle.gq_token.specs.Texts.{Bytes}
use Rattle.gq_check.specs.Passing.{HasRoom}
use Rattle.gq_check.proofs.Passed.{WalkedBy}
use Rattle.gq_check.proofs.payload.pass_payload.Given as goal

abbrev pub invariant-loop-lines : goal.invariant-loop-lines
invariant-loop-lines g l = (front : Bytes) × HasRoom l.bounds.payload l.room front × WalkedBy l.bounds l.before l.fn.source.left l.source.left l.lines front
