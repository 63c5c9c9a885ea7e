use Rattle.std.proofs.Common.{◌≡◌, drop}
use Rattle.gq_row.specs.Fitting.{has_null}
use Rattle.gq_row.proofs.row.has_null.Given as goal

abbrev pub invariant-loop-position : goal.invariant-loop-position
invariant-loop-position l = has_null (drop l.position-index l.positions) l.row ≡ has_null l.positions l.row
