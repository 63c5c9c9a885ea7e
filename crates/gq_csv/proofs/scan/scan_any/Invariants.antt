use Rattle.std.proofs.Common.{◌-◌, length}
use Rattle.gq_csv.specs.Masks.{Covers, Marks}
use Rattle.gq_csv.proofs.ScanLemmas.{SoFar}
use Rattle.gq_csv.proofs.scan.scan_any.Given as goal

abbrev pub invariant-fields : goal.invariant-fields
invariant-fields l = record {
  read : SoFar l.text l.spans.items l.start;
  marks : Marks l.text l.start l.marks;
  whole : Covers l.text l.mask;
}

abbrev pub decreases-fields : goal.decreases-fields
decreases-fields l = length l.text - l.start
