use Rattle.std.proofs.Common.{◌≡◌, ◌≢◌, ℕ, ◌+◌, Some, None, true, false, length, get_or, count_by}
use Rattle.sw_table.proofs.lookup.find_in.Given as goal

abbrev pub invariant-loop-lane : goal.invariant-loop-lane
invariant-loop-lane g l = record {
  lanes : length l.matches ≡ 16;
  part : (k : ℕ) → get_or l.matches k false ≡ true → get_or l.fn.matches k false ≡ true;
  tested : (k : ℕ) (p : g.row.K.Denot × g.row.V.Denot) → get_or l.fn.matches k false ≡ true → get_or l.matches k false ≡ false → get_or l.slots (l.base + k) None ≡ Some p → g.Q.Names.named l.q ≢ g.K.Keyed.class p.0;
}

abbrev pub decreases-loop-lane : goal.decreases-loop-lane
decreases-loop-lane g l = count_by (λ b. b) l.matches
