use Rattle.std.proofs.Common.{◌≡◌, ◌+◌, ◌*◌, ◌/◌, ◌%◌, ◌<◌, ◌≤◌, length, map, nat_eq, is_some, None, sym, ap, subst, ◌∙◌, arith, inl, inr, true}
use Rattle.std.proofs.lemmas.Bool.{OnTrue_at}
use Rattle.sw_table.proofs.GroupLanes.{walk_ends}
use Rattle.sw_table.proofs.Capacities.{groups_of}
use Rattle.sw_probe.specs.Order.{group_number, moved}
use Rattle.std.specs.FinMap.{get}
use Rattle.std.proofs.lemmas.Grind.{common_steps}
use Rattle.sw_table.specs.Entries.{entries}
use Rattle.sw_table.specs.View.{entry_at, IsFull}
use Rattle.sw_table.proofs.Found.{find_is, find_none}
use Rattle.sw_table.proofs.Places.{some_within}
use Rattle.sw_table.proofs.Searches.{filled_lane, tested_at, tested_upto, absent_from, some_lane, lane_has}
use Rattle.sw_table.proofs.table.Table.find_hashed.Goals as goal
use Rattle.sw_table.proofs.table.Table.find_hashed.Goals.{then-any-via-then-any, then-any-via-else-any+then-not-advance}

pub new-probe-requires : goal.new-probe-requires
new-probe-requires g c =
    let n = c.len-groups.ensures.len in
    rw n (groups_of (length c.self.inside.ctrl) c.self.invariant.laid.size.1 (omega (arith, n, c.if-groups-eq0.false)))

pub find_in-requires-clause-full : goal.find_in-requires-clause-full
find_in-requires-clause-full g c =
    let t = c.self.inside in let y = c.h2-h2.result in
    filled_lane _ _ t.slots t.ctrl c.self.invariant.laid (g.Q.Names.named c.args.q.now) c.group-at.result y c.match_h2.result
    (omega (arith, c.group-at.ensures.in_range, c.probe.invariant.groups, c.len-groups.ensures.len)) (c.match_h2.ensures ∙ ap (map (λ b. nat_eq b y)) c.group-group.ensures)
    (c.h2-h2.ensures ∙ ap (λ x. x % 128) (c.requires ∙ ap (λ v. g.H.KeyHash.hash_of v.hasher (g.Q.Names.named c.args.q.now)) (sym c.self.view_is)))

pub returns-in-Some-clause-found : goal.returns-in-Some-clause-found
returns-in-Some-clause-found g c =
    let f = c.in-Some.ensures.found in let t = c.self.inside in
    subst (λ v. get (entries g.K.Keyed.class v) (g.Q.Names.named c.args.q.now) ≡ entry_at v c.in-Some.index) c.self.view_is (find_is _ _ t.slots t.ctrl c.self.invariant.laid (g.Q.Names.named c.args.q.now) c.in-Some.index f.0 f.1 f.2)

pub returns-in-Some-clause-full : goal.returns-in-Some-clause-full
returns-in-Some-clause-full g c =
    let f = c.in-Some.ensures.found in
    subst (λ v. IsFull v c.in-Some.index) c.self.view_is (ap is_some f.1)

pub returns-then-groups-eq0-clause-absent : goal.returns-then-groups-eq0-clause-absent
returns-then-groups-eq0-clause-absent g c =
    let t = c.self.inside in
    subst (λ v. get (entries g.K.Keyed.class v) (g.Q.Names.named c.args.q.now) ≡ None) c.self.view_is
    (find_none _ t.slots (g.Q.Names.named c.args.q.now) (λ i p at. absurd (omega (arith, some_within t.slots i p at, c.self.invariant.laid.size.0, c.len-groups.ensures.len, c.len-groups.ensures.whole, c.if-groups-eq0.true))))

pub probe-preserved : goal.probe-preserved
probe-preserved g c =
    let t = c.self.inside in let y = c.h2-h2.result in let w = c.probe.probe in let i = c.probe.invariant in
    let at : c.group-at.result ≡ group_number (c.args.hash / 128) (c.len-groups.result / 16) w.index = c.group-at.ensures.group ∙ (λ j. group_number (i.start j) (i.groups j) w.index) in
    let here = tested_at _ _ t.slots t.ctrl c.self.invariant.laid (g.Q.Names.named c.args.q.now) c.group-at.result y c.match_h2.result
    (omega (arith, c.group-at.ensures.in_range, i.groups, c.len-groups.ensures.len)) (c.match_h2.ensures ∙ ap (map (λ b. nat_eq b y)) c.group-group.ensures)
    (c.h2-h2.ensures ∙ ap (λ x. x % 128) (c.requires ∙ ap (λ v. g.H.KeyHash.hash_of v.hasher (g.Q.Names.named c.args.q.now)) (sym c.self.view_is))) c.in_default.ensures.absent in
    let goes : c.advance.result ≡ true = c.if-not-advance.false in
    let next : c.advance.new.self ≡ moved w = OnTrue_at goes c.advance.ensures.moves in
    let more : c.advance.new.self.index ≡ w.index + 1 = ap (λ v. v.index) next in
    let fits : w.index + 1 < w.groups = c.advance.ensures.more.0 goes in
    record {
      start = ap (λ v. v.start) next ∙ i.start;
      groups = ap (λ v. v.groups) next ∙ i.groups;
      within = omega (arith, more, fits, i.groups);
      tested = λ m k p lt k16 there. tested_upto _ _ t.slots t.ctrl c.self.invariant.laid (g.Q.Names.named c.args.q.now) (c.args.hash / 128) (c.len-groups.result / 16) w.index c.group-at.result at i.tested here m (omega (arith, lt, more)) k p k16 there;
    }

pub returns-then-any-clause-absent : goal.returns-then-any-clause-absent
returns-then-any-clause-absent g c =
    let t = c.self.inside in let y = c.h2-h2.result in let w = c.probe.probe in let i = c.probe.invariant in
    let room : 16 * c.group-at.result + 16 ≤ length t.ctrl = omega (arith, c.group-at.ensures.in_range, i.groups, c.len-groups.ensures.len) in
    let at : c.group-at.result ≡ group_number (c.args.hash / 128) (c.len-groups.result / 16) w.index = c.group-at.ensures.group ∙ (λ j. group_number (i.start j) (i.groups j) w.index) in
    let here = tested_at _ _ t.slots t.ctrl c.self.invariant.laid (g.Q.Names.named c.args.q.now) c.group-at.result y c.match_h2.result
    room (c.match_h2.ensures ∙ ap (map (λ b. nat_eq b y)) c.group-group.ensures)
    (c.h2-h2.ensures ∙ ap (λ x. x % 128) (c.requires ∙ ap (λ v. g.H.KeyHash.hash_of v.hasher (g.Q.Names.named c.args.q.now)) (sym c.self.view_is))) c.in_default.ensures.absent in
    let upto = tested_upto _ _ t.slots t.ctrl c.self.invariant.laid (g.Q.Names.named c.args.q.now) (c.args.hash / 128) (c.len-groups.result / 16) w.index c.group-at.result at i.tested here in
    let hashed : c.args.hash ≡ g.H.KeyHash.hash_of c.self.inside.hasher (g.Q.Names.named c.args.q.now) = c.requires ∙ ap (λ v. g.H.KeyHash.hash_of v.hasher (g.Q.Names.named c.args.q.now)) (sym c.self.view_is) in let count = c.len-groups.ensures.len in
    subst (λ v. get (entries g.K.Keyed.class v) (g.Q.Names.named c.args.q.now) ≡ None) c.self.view_is
    (find_none _ t.slots (g.Q.Names.named c.args.q.now) (λ j p there.
    absent_from _ _ t.slots t.ctrl c.self.invariant.laid (g.Q.Names.named c.args.q.now) w.index
    (rw (← hashed, ← count) upto)
    (elim c.then-any.branch [
      | then-any-via-then-any v ↦ inr (
          let l = some_lane c.match_empty.result (c.any.ensures.0 v.if-any.true) in
          let e = lane_has t.ctrl c.group-at.result 128 room c.match_empty.result (c.match_empty.ensures ∙ ap (map (λ b. nat_eq b 128)) c.group-group.ensures) l.0 l.2 in
          (l.0, e.0, rw (← hashed, ← count, ← at) e.1))
      | then-any-via-else-any+then-not-advance v ↦ inl (omega (arith, walk_ends v.advance.result w.index w.groups v.if-not-advance.true v.advance.ensures.more.1, i.within, i.groups, count))
    ]) j p there))

pub find_in-requires-clause-lanes : goal.find_in-requires-clause-lanes
find_in-requires-clause-lanes g c = grind (arith, common_steps)
