use Rattle.std.proofs.Common.{take}
use Rattle.gq_record.specs.Putting.{IsPut}
use Rattle.gq_record.specs.Records.{body_of}
use Rattle.gq_record.proofs.encoding.put_body.Given as goal

abbrev pub invariant-loop-value : goal.invariant-loop-value
invariant-loop-value l = IsPut l.fn.out.items l.at (body_of (take l.value-index l.value-items)) l.out.items l.end
