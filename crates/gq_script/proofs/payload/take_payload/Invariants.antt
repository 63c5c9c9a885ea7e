use Rattle.gq_token.specs.Texts.{Bytes}
use Rattle.gq_script.proofs.Collected.{Within}
use Rattle.gq_script.proofs.payload.take_payload.Given as goal

abbrev pub invariant-loop : goal.invariant-loop
invariant-loop g l = (front : Bytes) × Within l.bounds.payload l.fn.source l.source l.kept front
