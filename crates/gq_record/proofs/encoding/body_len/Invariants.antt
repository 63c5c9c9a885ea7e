use Rattle.std.proofs.Common.{◌≡◌, ◌<◌, ◌^◌, length, take, All}
use Rattle.gq_record.specs.Records.{IsCell, body_of}
use Rattle.gq_record.proofs.encoding.body_len.Given as goal

abbrev pub invariant-loop-value : goal.invariant-loop-value
invariant-loop-value l = record {
  total : l.total ≡ length (body_of (take l.value-index l.value-items));
  short : l.total < 2 ^ 32;
  cells : All IsCell (take l.value-index l.value-items);
}
