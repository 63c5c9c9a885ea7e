use Rattle.std.proofs.Common.{length, map, nat_eq, ap, sym, ◌∙◌, arith}
use native.Mathlib.Nat.{mod-lt}
use Rattle.sw_table.proofs.Capacities.{groups_of}
use Rattle.sw_table.proofs.Searches.{marked_lane}
use Rattle.sw_table.proofs.table.Table.candidate.Goals as goal

pub new-requires : goal.new-requires
new-requires g c =
    let n = c.len-groups.ensures.len in
    rw n (groups_of (length c.self.inside.ctrl) c.self.invariant.laid.size.1 (omega (arith, n, c.if-groups-eq0.false)))

pub get-requires : goal.get-requires
get-requires g c =
    let t = c.self.inside in
    let y = c.h2.result in
    let groups = ap (λ w. w.groups) c.new.ensures in
    marked_lane _ _ t.slots t.ctrl c.self.invariant.laid c.group-at.result y c.match_h2.result
    (omega (arith, c.group-at.ensures.in_range, groups, c.len-groups.ensures.len)) (c.match_h2.ensures ∙ ap (map (λ b. nat_eq b y)) c.group.ensures)
    (omega (arith, c.h2.ensures, mod-lt c.args.hash {m = 128} (omega arith))) c.in_ok-lane.lane (sym c.in_ok-lane.ensures)
