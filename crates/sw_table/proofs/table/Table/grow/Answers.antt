use Rattle.std.proofs.Common.{◌≡◌, length, ap, arith}
use Rattle.sw_table.specs.View.{slot_count}
use Rattle.sw_table.proofs.Capacities.{double_fits, first_size}
use Rattle.sw_table.proofs.table.Table.grow.Goals as goal
use Rattle.sw_table.proofs.table.Table.grow.Goals.{then-capacity-eq0, else-capacity-eq0}

pub resize-requires : goal.resize-requires
resize-requires g c =
    let t = c.self.inside in let size = c.self.invariant.laid.size.1 in let n = c.len-capacity.ensures.len in
    let seen : length t.ctrl ≡ slot_count c.args.self.now = ap (λ v. length v.bytes) c.self.view_is in
    elim c.if-capacity-eq0.branch [
      | then-capacity-eq0 w ↦ rw (w.resize-is) (first_size, omega (arith, seen, n, w.if-capacity-eq0.true))
      | else-capacity-eq0 w ↦ rw (w.resize-is, n) (double_fits (length t.ctrl) size (omega (arith, n, w.if-capacity-eq0.false)) (omega (arith, n, c.if-capacity-eq-MAX_CAPACITY.false)), omega (arith, seen, n, w.if-capacity-eq0.false))
    ]
