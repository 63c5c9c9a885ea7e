use Rattle.std.proofs.Common.{◌≡◌, ◌≢◌, ℕ, ◌+◌, ◌-◌, ◌*◌, ◌/◌, ◌<◌, Some, None, get_or}
use Rattle.sw_probe.specs.Order.{group_number}
use Rattle.sw_table.proofs.table.Table.find_hashed.Given as goal

abbrev pub invariant-probe : goal.invariant-probe
invariant-probe g l = record {
  start : l.probe.start ≡ l.hash / 128;
  groups : l.probe.groups ≡ l.groups;
  within : l.probe.index < l.groups;
  tested : (m k : ℕ) (p : g.row.K.Denot × g.row.V.Denot) → m < l.probe.index → k < 16 → get_or l.self-inside.slots (16 * group_number (l.hash / 128) l.groups m + k) None ≡ Some p → g.Q.Names.named l.q ≢ g.K.Keyed.class p.0;
}

abbrev pub decreases-probe : goal.decreases-probe
decreases-probe g l = l.groups - l.probe.index
