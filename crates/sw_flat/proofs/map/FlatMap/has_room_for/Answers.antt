use Rattle.std.proofs.Common.{ℕ, ◌≤◌, ◌^◌, subst, ap, arith}
use Rattle.std.specs.FinMap.{len}
use Rattle.sw_table.specs.Entries.{entries}
use Rattle.sw_table.specs.Sizes.{room_of}
use Rattle.sw_table.specs.View.{slot_count}
use Rattle.sw_table.proofs.Capacities.{small}
use Rattle.sw_flat.specs.Maps.{lacked}
use Rattle.sw_flat.proofs.Listed.{lists_filled}
use Rattle.sw_flat.proofs.Merged.{lacked_most}
use Rattle.sw_flat.proofs.map.FlatMap.has_room_for.Goals as goal

most_room : (n : ℕ) → n ≤ 2 ^ 28 → room_of n ≤ room_of (2 ^ 28)
most_room n le = omega (arith, le)

pub returns-then-room-more-clause-most : goal.returns-then-room-more-clause-most
returns-then-room-more-clause-most g c = subst (λ v. room_of (slot_count v) ≤ room_of (2 ^ 28)) c.self.view_is (most_room _ (small _ c.capacity.ensures.laid_out.size.1))

pub returns-then-room-more-2-clause-most : goal.returns-then-room-more-2-clause-most
returns-then-room-more-2-clause-most g c = subst (λ v. room_of (slot_count v) ≤ room_of (2 ^ 28)) c.self.view_is (most_room _ (small _ c.capacity.ensures.laid_out.size.1))

pub returns-clause-most : goal.returns-clause-most
returns-clause-most g c = subst (λ v. room_of (slot_count v) ≤ room_of (2 ^ 28)) c.self.view_is (most_room _ (small _ c.capacity.ensures.laid_out.size.1))

pub returns-clause-fits : goal.returns-clause-fits
returns-clause-fits g c = λ _.
    let class = g.K.Keyed.class in
    let m = entries class c.args.self.now in
    let t = c.other.inside.table in
    let apart = c.capacity-2.ensures.laid_out.apart in
    let most = lacked_most class m t.places apart in
    let once = (lists_filled class t.places apart).once in
    let fewer = subst (λ v. len (lacked m (entries class v)) ≤ len (entries class v)) c.other.view_is (omega (arith, most, once)) in
    let more = ap (λ v. len (entries class v)) c.other.view_is in
    let own = ap (λ v. len (entries class v)) c.self.view_is in
    let room = ap (λ v. room_of (slot_count v)) c.self.view_is in
    omega (arith, fewer, more, own, room)
