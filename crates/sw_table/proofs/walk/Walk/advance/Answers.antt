use Rattle.std.proofs.Common.{◌+◌, ◌-◌, map, sym, ap, ◌∙◌, subst, arith}
use Rattle.sw_ctrl.specs.Bytes.{is_full}
use Rattle.sw_table.specs.Walks.{IsWalking}
use Rattle.sw_table.proofs.Walking.{at_rest, none_before, walking_on, lane_set, lane_low, first_lane, walking_behind}
use Rattle.sw_table.proofs.walk.Walk.advance.Goals as goal

pub overflow_sub-i : goal.overflow_sub-i
overflow_sub-i c = (lane_set c.args.ctrl.now c.groups.self c.groups.invariant.0 c.in-Some.lane (sym c.lowest.ensures ∙ c.in-Some.is)).0

pub returns-in-Some-clause-full : goal.returns-in-Some-clause-full
returns-in-Some-clause-full c =
    let is = c.groups.invariant.0 in
    let here = sym c.lowest.ensures ∙ c.in-Some.is in
    let s = lane_set c.args.ctrl.now c.groups.self is c.in-Some.lane here in
    let low = lane_low c.args.ctrl.now c.groups.self is c.in-Some.lane here in
    let same = c.groups.invariant.1 in
    let within = is.group.1 in
    (omega (arith, s.0, s.1, same), omega (arith, s.0, low, within), s.2)

pub returns-in-Some-clause-first : goal.returns-in-Some-clause-first
returns-in-Some-clause-first c = λ k from before.
    let same = c.groups.invariant.1 in
    first_lane c.args.ctrl.now c.groups.self c.groups.invariant.0 c.in-Some.lane (sym c.lowest.ensures ∙ c.in-Some.is) k (omega (arith, from, same)) before

pub returns-in-Some-clause-walking : goal.returns-in-Some-clause-walking
returns-in-Some-clause-walking c =
    let w = c.groups.self in
    subst (λ ms. IsWalking c.args.ctrl.now (at_rest w (w.next - 16 + c.in-Some.lane + 1) w.next ms)) (sym c.without_lowest-self.ensures)
    (walking_behind c.args.ctrl.now w c.groups.invariant.0 c.in-Some.lane (sym c.lowest.ensures ∙ c.in-Some.is))

pub returns-then-self-len-clause-none : goal.returns-then-self-len-clause-none
returns-then-self-len-clause-none c = λ k from before.
    let same = c.groups.invariant.1 in
    let end = c.if-self-len.true in
    let len = c.len.ensures.len in
    none_before c.args.ctrl.now c.groups.self c.groups.invariant.0 (sym c.lowest.ensures ∙ c.in_default.is) k (omega (arith, from, same)) (omega (arith, before, end, len))

pub groups-preserved : goal.groups-preserved
groups-preserved c =
    let w = c.groups.self in
    let is = c.groups.invariant.0 in
    let more = c.if-self-len.false in
    let len = c.len.ensures.len in
    let whole = c.len.ensures.whole in
    let here = is.group in (
      walking_on c.args.ctrl.now w is c.match_full-self.result (sym c.lowest.ensures ∙ c.in_default.is)
          (omega (arith, more, len, whole, here.0, here.1)) (c.match_full-self.ensures ∙ ap (map is_full) c.group.ensures),
      c.groups.invariant.1,
    )
