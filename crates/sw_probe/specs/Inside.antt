-- The fields of a probe.
use Rattle.std.specs.Prelude.{◌≡◌, ◌<◌}
use Rattle.sw_probe.specs.Order.{Walk, IsGroupCount, group_of}
use Rattle.sw_probe.specs.declared.probe.Probe.TheInside.{Inside}

-- the probe that its fields represent
abbrev pub walk_of : Inside → Walk
walk_of p = record { start = p.start; groups = p.groups; index = p.index }

-- the index of a probe is one of its steps, and its group is that step's
pub record IsWalk (p : Inside) : Type 0 where
  pub power : IsGroupCount p.groups
  pub standing : p.index < p.groups
  pub here : p.group ≡ group_of (walk_of p)
