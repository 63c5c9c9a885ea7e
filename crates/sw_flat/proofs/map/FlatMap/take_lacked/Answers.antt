use mathlib.Core.Bool.{true≢false}
use Rattle.std.proofs.Common.{◌≡◌, ◌+◌, ◌<◌, true, false, length, drop, sym, subst, ap, ◌∙◌, arith, IsOk}
use Rattle.std.specs.Prelude.{is_some}
use Rattle.std.specs.FinMap.{get, len, contains_key}
use Rattle.std.proofs.lemmas.Grind.{common_steps}
use Rattle.sw_table.specs.Entries.{entries}
use Rattle.sw_table.specs.Insertion.HasSpace.{within_room}
use Rattle.sw_table.specs.Sizes.{room_of}
use Rattle.sw_table.specs.View.{slot_count, entry_at}
use Rattle.sw_table.specs.Walks.{filled}
use Rattle.sw_table.proofs.Emptied.{others_kept}
use Rattle.sw_table.proofs.Walking.{walking_kept}
use Rattle.sw_flat.proofs.Classes.{some_is}
use Rattle.sw_flat.proofs.Drained.{fewer_filled, fewer_emptied}
use Rattle.sw_flat.proofs.Listed.{Apart}
use Rattle.sw_flat.proofs.Merged.{IsMerging, merging_none, merging_skip, merging_take, merging_space, merging_some, merged, left_over, seen}
use Rattle.sw_flat.proofs.map.FlatMap.take_lacked.Goals as goal

pub slots-init : goal.slots-init
slots-init g c =
    let class = g.K.Keyed.class in
    let m = entries class c.args.self.now in
    let n = entries class c.args.other.now in
    let cap = room_of (slot_count c.args.self.now) in
    let apart = subst (λ v. Apart class v.places) c.other.view_is c.capacity.ensures.laid_out.apart in
    let at_start = subst (λ v. IsMerging class m n cap (entries class v) c.other.inside.table.places 0) (sym c.self.view_is)
    (subst (λ v. IsMerging class m n cap m v.places 0) (sym c.other.view_is) (merging_none class m cap c.args.other.now.places apart c.requires)) in
    record {
      merging = subst (λ k. IsMerging class m n cap (entries class c.self.inside.table) c.other.inside.table.places k) (sym c.new-walk.ensures.start) at_start;
      walking = c.new-walk.ensures.walking c.other.inside.table.bytes;
      kept = record { slots = ap (λ v. slot_count v) c.self.view_is; hasher = ap (λ v. v.hasher) c.self.view_is };
      other_kept = record { slots = ap (λ v. slot_count v) c.other.view_is; hasher = ap (λ v. v.hasher) c.other.view_is };
      nothing = λ none. (c.self.view_is, c.other.view_is);
    }

pub slots-smaller-then-is_some : goal.slots-smaller-then-is_some
slots-smaller-then-is_some g c =
    let ps = c.slots.other-inside.table.places in
    subst (λ k. length (filled (drop k ps)) < length (filled (drop c.slots.walk.from ps))) (sym c.in-Some.ensures.moved)
    (fewer_filled ps c.slots.walk.from c.in-Some.slot.index (c.at.result.0.now, c.at.result.1.now) c.in-Some.ensures.full.0 c.in-Some.ensures.first c.at.ensures)

pub slots-preserved-then-is_some : goal.slots-preserved-then-is_some
slots-preserved-then-is_some g c =
    let class = g.K.Keyed.class in
    let t = c.slots.self-inside.table in
    let x : g.row.K.Denot × g.row.V.Denot = (c.at.result.0.now, c.at.result.1.now) in
    let there : is_some c.find_hashed.result ≡ true = cc in
    let has = sym (seen c.find_hashed.result (get (entries class t) (class x.0)) (λ s. entry_at t s.index) c.find_hashed.ensures.full c.find_hashed.ensures.found c.find_hashed.ensures.absent) ∙ there in
    let i = c.slots.invariant in
    record {
      merging = subst (λ k. IsMerging class (entries class c.args.self.now) (entries class c.args.other.now) (room_of (slot_count c.args.self.now)) (entries class t) c.slots.other-inside.table.places k) (sym c.in-Some.ensures.moved)
          (merging_skip class _ _ _ (entries class t) c.slots.other-inside.table.places c.slots.walk.from c.in-Some.slot.index x i.merging c.in-Some.ensures.full.0 c.in-Some.ensures.first c.at.ensures has);
      walking = c.in-Some.ensures.walking;
      kept = i.kept;
      other_kept = i.other_kept;
      nothing = i.nothing;
    }

pub slots-smaller : goal.slots-smaller
slots-smaller g c =
    let old = c.slots.other-inside.table.places in
    subst (λ k. length (filled (drop k c.remove-key.new.self.places)) < length (filled (drop c.slots.walk.from old))) (sym c.in-Some.ensures.moved)
    (subst (λ ps. length (filled (drop (c.in-Some.slot.index + 1) ps)) < length (filled (drop c.slots.walk.from old))) (sym c.remove-key.ensures.places)
    (fewer_emptied old c.slots.walk.from c.in-Some.slot.index c.remove-key.result c.in-Some.ensures.full.0 c.in-Some.ensures.first c.remove-key.ensures.entry))

pub slots-preserved : goal.slots-preserved
slots-preserved g c =
    let class = g.K.Keyed.class in
    let t = c.slots.self-inside.table in
    let m = entries class t in
    let x : g.row.K.Denot × g.row.V.Denot = (c.at.result.0.now, c.at.result.1.now) in
    let i = c.slots.invariant in
    let at = c.in-Some.slot.index in
    let ps = c.slots.other-inside.table.places in
    let absent : is_some c.find_hashed.result ≡ false = cc in
    let unseen = sym (seen c.find_hashed.result (get m (class x.0)) (λ s. entry_at t s.index) c.find_hashed.ensures.full c.find_hashed.ensures.found c.find_hashed.ensures.absent) ∙ absent in
    let lacks = subst (λ (p : g.row.K.Denot × g.row.V.Denot). contains_key m (class p.0) ≡ false) (some_is _ _ (sym c.at.ensures ∙ c.remove-key.ensures.entry)) unseen in
    let space = merging_space class _ _ _ m ps c.slots.walk.from at c.remove-key.result i.merging c.in-Some.ensures.full.0 c.in-Some.ensures.first c.remove-key.ensures.entry lacks in
    let some = merging_some class _ _ _ m ps c.slots.walk.from at c.remove-key.result i.merging c.in-Some.ensures.full.0 c.in-Some.ensures.first c.remove-key.ensures.entry lacks in
    let within = c.place_hashed.ensures.in_place (within_room (subst (λ n. len m < room_of n) (sym i.kept.slots) space)) in
    let taken = merging_take class _ _ _ m ps c.slots.walk.from at c.remove-key.result i.merging c.in-Some.ensures.full.0 c.in-Some.ensures.first c.remove-key.ensures.entry
    lacks (entries class c.place_hashed.new.self) c.remove-key.new.self.places c.in-Ok.ensures.entries c.remove-key.ensures.places c.remove-key.ensures.entries in
    let moved = c.in-Some.ensures.moved in
    record {
      merging = subst (λ k. IsMerging class (entries class c.args.self.now) (entries class c.args.other.now) (room_of (slot_count c.args.self.now)) (entries class c.place_hashed.new.self) c.remove-key.new.self.places k) (sym moved) taken;
      walking = walking_kept c.slots.other-inside.table.bytes c.remove-key.new.self.bytes c.advance.new.walk c.remove-key.ensures.slots
          (λ k past. others_kept c.slots.other-inside.table.bytes c.remove-key.new.self.bytes at c.remove-key.ensures.emptied c.remove-key.ensures.deleted k (omega (arith, past, moved))) c.in-Some.ensures.walking;
      kept = record { slots = within.1 ∙ i.kept.slots; hasher = c.place_hashed.ensures.hasher ∙ i.kept.hasher };
      other_kept = record { slots = c.remove-key.ensures.slots ∙ i.other_kept.slots; hasher = c.remove-key.ensures.hasher ∙ i.other_kept.hasher };
      nothing = λ none. absurd (omega (arith, none, some));
    }

pub unreachable-requires : goal.unreachable-requires
unreachable-requires g c =
    let class = g.K.Keyed.class in
    let t = c.slots.self-inside.table in
    let m = entries class t in
    let x : g.row.K.Denot × g.row.V.Denot = (c.at.result.0.now, c.at.result.1.now) in
    let i = c.slots.invariant in
    let absent : is_some c.find_hashed.result ≡ false = cc in
    let unseen = sym (seen c.find_hashed.result (get m (class x.0)) (λ s. entry_at t s.index) c.find_hashed.ensures.full c.find_hashed.ensures.found c.find_hashed.ensures.absent) ∙ absent in
    let lacks = subst (λ (p : g.row.K.Denot × g.row.V.Denot). contains_key m (class p.0) ≡ false) (some_is _ _ (sym c.at.ensures ∙ c.remove-key.ensures.entry)) unseen in
    let space = merging_space class _ _ _ m c.slots.other-inside.table.places c.slots.walk.from c.in-Some.slot.index c.remove-key.result i.merging c.in-Some.ensures.full.0 c.in-Some.ensures.first c.remove-key.ensures.entry lacks in
    let within = c.place_hashed.ensures.in_place (within_room (subst (λ n. len m < room_of n) (sym i.kept.slots) space)) in
    true≢false (sym (subst (λ r. IsOk r) c.in_default-place_hashed.is within.0))

pub returns-clause-merged : goal.returns-clause-merged
returns-clause-merged g c = record {
  union = merged g.K.Keyed.class _ _ _ (entries g.K.Keyed.class c.slots.self-inside.table) c.slots.other-inside.table.places c.slots.walk.from c.slots.invariant.merging c.in_default.ensures.none;
  left = left_over g.K.Keyed.class _ _ _ (entries g.K.Keyed.class c.slots.self-inside.table) c.slots.other-inside.table.places c.slots.walk.from c.slots.invariant.merging c.in_default.ensures.none;
}

pub place_hashed-requires-clause-absent : goal.place_hashed-requires-clause-absent
place_hashed-requires-clause-absent g c = grind (arith, common_steps)
