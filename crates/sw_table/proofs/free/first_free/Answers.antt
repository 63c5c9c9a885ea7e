use Rattle.std.proofs.Common.{◌≡◌, ◌+◌, ◌*◌, ◌/◌, ◌%◌, ◌<◌, ◌≤◌, length, map, sym, ap, ◌∙◌, arith, true, false, slice_index, subst}
use Rattle.std.proofs.lemmas.Bool.{OnTrue_at}
use Rattle.sw_probe.specs.Order.{group_number, moved}
use Rattle.sw_table.proofs.GroupLanes.{none_empty, lowest_free, none_below, none_free, passed_upto, no_room_left, walk_ends}
use Rattle.sw_table.proofs.Capacities.{groups_of}
use Rattle.sw_ctrl.specs.Bytes.{is_free}
use Rattle.sw_table.specs.LaidOut.{NoEmpty}
use Rattle.sw_table.proofs.free.first_free.Goals as goal

pub new-probe-requires : goal.new-probe-requires
new-probe-requires c = rw c.len-groups.ensures.len (groups_of (length c.args.ctrl.now) c.requires.size.0 c.requires.size.1)

pub returns-in-Some-clause-free : goal.returns-in-Some-clause-free
returns-in-Some-clause-free c =
    let bs = c.args.ctrl.now in let w = c.probe.probe in let i = c.probe.invariant in
    let at : c.group-at.result ≡ group_number (c.args.hash / 128) (c.len-groups.result / 16) w.index = c.group-at.ensures.group ∙ (λ j. group_number (i.start j) (i.groups j) w.index) in
    let room : 16 * c.group-at.result + 16 ≤ length bs = omega (arith, c.group-at.ensures.in_range, i.groups, c.len-groups.ensures.len) in
    let it = lowest_free bs c.group-at.result room c.match_free.result (c.match_free.ensures ∙ ap (map is_free) c.group.ensures) c.in-Some.lane (sym c.in-Some.ensures) in
    let count = c.len-groups.ensures.len in
    (omega (arith, it.0, room), it.1, (w.index, omega (arith, i.within, count), rw (← count) (let e : (16 * c.group-at.result + c.in-Some.lane) / 16 ≡ c.group-at.result = omega (arith, it.0) in e ∙ at), rw (← count) (λ m lt. none_empty bs _ (i.passed m lt))))

pub returns-in-Some-clause-first : goal.returns-in-Some-clause-first
returns-in-Some-clause-first c =
    let bs = c.args.ctrl.now in let w = c.probe.probe in let i = c.probe.invariant in
    let at : c.group-at.result ≡ group_number (c.args.hash / 128) (c.len-groups.result / 16) w.index = c.group-at.ensures.group ∙ (λ j. group_number (i.start j) (i.groups j) w.index) in
    let room : 16 * c.group-at.result + 16 ≤ length bs = omega (arith, c.group-at.ensures.in_range, i.groups, c.len-groups.ensures.len) in
    let it = lowest_free bs c.group-at.result room c.match_free.result (c.match_free.ensures ∙ ap (map is_free) c.group.ensures) c.in-Some.lane (sym c.in-Some.ensures) in
    let below = none_below bs c.group-at.result room c.match_free.result (c.match_free.ensures ∙ ap (map is_free) c.group.ensures) c.in-Some.lane (sym c.in-Some.ensures) in
    let count = c.len-groups.ensures.len in
    record {
      within = omega (arith, it.0, room);
      free = it.2;
      group = (w.index, omega (arith, i.within, count), rw (← count) (let e : (16 * c.group-at.result + c.in-Some.lane) / 16 ≡ c.group-at.result = omega (arith, it.0) in e ∙ at), rw (← count) i.passed);
      lane = λ k same less.
          let is : 16 * c.group-at.result + k % 16 ≡ k = omega (arith, same, it.0) in
          subst (λ x. is_free (slice_index bs x) ≡ false) is (below (k % 16) (omega (arith, is, less)));
    }

pub unreachable-requires : goal.unreachable-requires
unreachable-requires c =
    let bs = c.args.ctrl.now in let w = c.probe.probe in let i = c.probe.invariant in
    let at : c.group-at.result ≡ group_number (c.args.hash / 128) (c.len-groups.result / 16) w.index = c.group-at.ensures.group ∙ (λ j. group_number (i.start j) (i.groups j) w.index) in
    let room : 16 * c.group-at.result + 16 ≤ length bs = omega (arith, c.group-at.ensures.in_range, i.groups, c.len-groups.ensures.len) in
    let here = none_free bs c.group-at.result room c.match_free.result (c.match_free.ensures ∙ ap (map is_free) c.group.ensures) (sym c.lowest.ensures ∙ c.in_default.is) in
    let upto = passed_upto bs (c.args.hash / 128) (c.len-groups.result / 16) w.index c.group-at.result at i.passed here in
    let count = c.len-groups.ensures.len in
    let last = walk_ends c.advance.result w.index w.groups c.if-not-advance.true c.advance.ensures.more.1 in
    no_room_left bs (c.args.hash / 128) c.requires.size.0 c.requires.size.1 c.requires.load
    (λ m lt. subst (λ n. NoEmpty bs (group_number (c.args.hash / 128) (n / 16) m)) count (none_empty bs _ (upto m (omega (arith, lt, last, i.groups, count)))))

pub probe-preserved : goal.probe-preserved
probe-preserved c =
    let bs = c.args.ctrl.now in let w = c.probe.probe in let i = c.probe.invariant in
    let at : c.group-at.result ≡ group_number (c.args.hash / 128) (c.len-groups.result / 16) w.index = c.group-at.ensures.group ∙ (λ j. group_number (i.start j) (i.groups j) w.index) in
    let room : 16 * c.group-at.result + 16 ≤ length bs = omega (arith, c.group-at.ensures.in_range, i.groups, c.len-groups.ensures.len) in
    let here = none_free bs c.group-at.result room c.match_free.result (c.match_free.ensures ∙ ap (map is_free) c.group.ensures) (sym c.lowest.ensures ∙ c.in_default.is) in
    let goes : c.advance.result ≡ true = c.if-not-advance.false in
    let next : c.advance.new.self ≡ moved w = OnTrue_at goes c.advance.ensures.moves in
    let more : c.advance.new.self.index ≡ w.index + 1 = ap (λ v. v.index) next in
    let fits : w.index + 1 < w.groups = c.advance.ensures.more.0 goes in
    record {
      start = ap (λ v. v.start) next ∙ i.start;
      groups = ap (λ v. v.groups) next ∙ i.groups;
      within = omega (arith, more, fits, i.groups);
      passed = λ m lt. passed_upto bs (c.args.hash / 128) (c.len-groups.result / 16) w.index c.group-at.result at i.passed here m (omega (arith, lt, more));
    }
