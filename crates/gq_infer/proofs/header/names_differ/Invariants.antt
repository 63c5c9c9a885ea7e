use Rattle.std.proofs.Common.{◌≡◌, drop, bytes_eq}
use Rattle.gq_row.specs.Repeats.{no_repeats}
use Rattle.gq_infer.proofs.header.names_differ.Given as goal

abbrev pub invariant-loop-i : goal.invariant-loop-i
invariant-loop-i l = no_repeats bytes_eq (drop l.i l.names) ≡ no_repeats bytes_eq l.names
