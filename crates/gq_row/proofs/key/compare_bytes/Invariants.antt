use Rattle.std.proofs.Common.{◌≡◌, ◌≤◌, drop, length}
use Rattle.std.specs.Cmp.Lexicographic.{slice_cmp}
use Rattle.gq_row.specs.Order.{plain_order}
use Rattle.gq_row.proofs.key.compare_bytes.Given as goal

abbrev pub invariant-loop-i : goal.invariant-loop-i
invariant-loop-i l = record {
  within : l.i ≤ length l.b;
  rest : slice_cmp plain_order (drop l.i l.a) (drop l.i l.b) ≡ slice_cmp plain_order l.a l.b;
}
