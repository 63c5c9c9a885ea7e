use Rattle.std.proofs.Common.{arith, inr}
use native.Mathlib.Decide.{dec_lt}
use Rattle.sw_table.proofs.Capacities.{small, power_some, next_size, no_size_between}
use Rattle.sw_table.proofs.sizes.capacity_for.Goals as goal

pub loop-n-smaller : goal.loop-n-smaller
loop-n-smaller c =
    let s = c.loop-n.invariant.size in
    omega (arith, s.2, power_some s.0, small c.loop-n.capacity (inr s), c.if-capacity-eq-MAX_CAPACITY.false)

pub loop-n-preserved : goal.loop-n-preserved
loop-n-preserved c =
    let s = c.loop-n.invariant.size in let n = c.loop-n.capacity in
    let next = next_size s.0 n s.1 s.2 (λ e. c.if-capacity-eq-MAX_CAPACITY.false e) in
    record {
      size = (next.0, next.1, omega (arith, next.2));
      least = λ d is lt. elim (dec_lt d n) [
        | yes less ↦ c.loop-n.invariant.least d is less
        | no ge ↦ let at = no_size_between s.0 d is (omega (arith, ge, s.2)) (omega (arith, lt, s.2)) in omega (arith, at, s.2, c.loop-n-test.true)
      ];
      some = c.loop-n.invariant.some;
    }
