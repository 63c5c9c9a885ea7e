use Rattle.std.proofs.Common.{◌≡◌, ◌≤◌, ◌++◌, length, take, All}
use Rattle.gq_record.specs.Records.{IsCell, body_of}
use Rattle.gq_record.proofs.decoding.take_body.Given as goal

abbrev pub invariant-loop-rest : goal.invariant-loop-rest
invariant-loop-rest l = record {
  within : l.count ≤ length l.cells.items;
  begins : l.bytes ≡ body_of (take l.count l.cells.items) ++ l.rest;
  fit : All IsCell (take l.count l.cells.items);
}

abbrev pub decreases-loop-rest : goal.decreases-loop-rest
decreases-loop-rest l = length l.rest
