use Rattle.std.proofs.Common.{◌≡◌, ◌++◌, take, All}
use Rattle.gq_record.specs.Records.{IsCell, body_of}
use Rattle.gq_record.proofs.decoding.take_cells.Given as goal

abbrev pub invariant-cells : goal.invariant-cells
invariant-cells l = record {
  begins : l.bytes ≡ body_of (take l.i l.cells) ++ l.rest;
  fit : All IsCell (take l.i l.cells);
}
