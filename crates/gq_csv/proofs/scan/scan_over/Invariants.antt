use Rattle.std.proofs.Common.{take}
use Rattle.gq_csv.specs.Masks.{Covers, Marks}
use Rattle.gq_csv.proofs.ScanLemmas.{SoFar}
use Rattle.gq_csv.proofs.scan.scan_over.Given as goal

abbrev pub invariant-fields : goal.invariant-fields
invariant-fields l = record {
  read : SoFar l.text (take l.i l.spans) l.start;
  marks : Marks l.text l.start l.marks;
  whole : Covers l.text l.mask;
}
