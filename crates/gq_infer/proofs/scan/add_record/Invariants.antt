use Rattle.std.proofs.Common.{◌≡◌, ◌++◌, take, drop}
use Rattle.gq_infer.specs.Scanning.{with_record}
use Rattle.gq_infer.proofs.scan.add_record.Given as goal

abbrev pub invariant-loop-i : goal.invariant-loop-i
invariant-loop-i l = take l.i l.seen ++ with_record l.record (drop l.i l.places) (drop l.i l.seen) ≡ with_record l.record l.places l.initial.seen
