use Rattle.std.proofs.Common.{◌≤◌, ◌*◌, ◌^◌, length, take, All}
use Rattle.gq_record.specs.Records.{IsCell, body_of}
use Rattle.gq_record.proofs.encoding.is_small_row.Given as goal

abbrev pub invariant-loop-value : goal.invariant-loop-value
invariant-loop-value l = record {
  cells : All IsCell (take l.value-index l.value-items);
  short : length (body_of (take l.value-index l.value-items)) ≤ 2 ^ 17 * l.value-index;
}
