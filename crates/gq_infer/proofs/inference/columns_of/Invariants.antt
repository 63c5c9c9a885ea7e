use Rattle.std.proofs.Common.{◌≡◌, ◌++◌, drop}
use Rattle.gq_infer.specs.Scanning.{columns_of}
use Rattle.gq_infer.proofs.inference.columns_of.Given as goal

abbrev pub invariant-loop-i : goal.invariant-loop-i
invariant-loop-i l = l.columns.items ++ columns_of (drop l.i l.names) (drop l.i l.seen) ≡ columns_of l.names l.seen
