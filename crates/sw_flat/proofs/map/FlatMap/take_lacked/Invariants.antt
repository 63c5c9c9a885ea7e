use Rattle.std.proofs.Common.{◌≡◌, length, drop}
use Rattle.std.specs.FinMap.{len}
use Rattle.sw_table.specs.Entries.{entries}
use Rattle.sw_table.specs.Sizes.{room_of}
use Rattle.sw_table.specs.View.{slot_count}
use Rattle.sw_table.specs.Walks.{IsWalking, filled}
use Rattle.sw_flat.specs.Maps.{lacked}
use Rattle.sw_flat.proofs.Merged.{IsMerging, KeepsLayout}
use Rattle.sw_flat.proofs.map.FlatMap.take_lacked.Given as goal

abbrev pub invariant-slots : goal.invariant-slots
invariant-slots g l = record {
  merging : IsMerging g.K.Keyed.class (entries g.K.Keyed.class l.fn.self) (entries g.K.Keyed.class l.fn.other) (room_of (slot_count l.fn.self)) (entries g.K.Keyed.class l.self-inside.table) l.other-inside.table.places l.walk.from;
  walking : IsWalking l.other-inside.table.bytes l.walk;
  kept : KeepsLayout l.fn.self l.self-inside.table;
  other_kept : KeepsLayout l.fn.other l.other-inside.table;
  nothing : len (lacked (entries g.K.Keyed.class l.fn.self) (entries g.K.Keyed.class l.fn.other)) ≡ 0 → (l.self-inside.table ≡ l.fn.self) × (l.other-inside.table ≡ l.fn.other);
}

abbrev pub decreases-slots : goal.decreases-slots
decreases-slots g l = length (filled (drop l.walk.from l.other-inside.table.places))
