use Rattle.std.proofs.Common.{◌≡◌, ℕ, ◌-◌, ◌/◌, ◌<◌}
use Rattle.sw_probe.specs.Order.{group_number}
use Rattle.sw_table.specs.Free.{NoFree}
use Rattle.sw_table.proofs.free.first_free.Given as goal

abbrev pub invariant-probe : goal.invariant-probe
invariant-probe l = record {
  start : l.probe.start ≡ l.hash / 128;
  groups : l.probe.groups ≡ l.groups;
  within : l.probe.index < l.groups;
  passed : (m : ℕ) → m < l.probe.index → NoFree l.ctrl (group_number (l.hash / 128) l.groups m);
}

abbrev pub decreases-probe : goal.decreases-probe
decreases-probe l = l.groups - l.probe.index
