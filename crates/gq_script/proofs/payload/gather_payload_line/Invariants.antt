use Rattle.std.proofs.Common.{◌≡◌}
use Rattle.gq_token.specs.Texts.{Bytes}
use Rattle.gq_script.proofs.Collected.{Collecting}
use Rattle.gq_script.proofs.payload.gather_payload_line.Given as goal

abbrev pub invariant-loop : goal.invariant-loop
invariant-loop g l = (raw : Bytes) × Collecting l.bounds.payload l.fn.source l.source l.fn.kept l.kept l.mark raw × (l.source.lines ≡ l.fn.source.lines)
