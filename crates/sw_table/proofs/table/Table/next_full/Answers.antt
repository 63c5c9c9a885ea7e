use Rattle.std.proofs.Common.{◌+◌, ◌*◌, ◌<◌, ◌≤◌, length, map, ap, ◌∙◌, sym, subst, arith}
use native.Mathlib.Decide.{dec_lt}
use Rattle.sw_ctrl.specs.Bytes.{is_full}
use Rattle.sw_table.specs.View.{slot_count, entry_at, IsFull}
use Rattle.sw_table.proofs.FullLanes.{set_holds, vacant_between}
use Rattle.sw_table.proofs.table.Table.next_full.Goals as goal

pub lowest_from-requires : goal.lowest_from-requires
lowest_from-requires g c =
    c.loop-at.invariant.lane

pub returns-in-Some-clause-full : goal.returns-in-Some-clause-full
returns-in-Some-clause-full g c =
    let i = c.loop-at.invariant in let t = c.self.inside in let at = c.loop-at.at in
    let room : 16 * at + 16 ≤ length t.ctrl = omega (arith, c.loop-at-test.true, c.len-groups.ensures.len) in
    let set = c.in-Some.ensures.set in (
      omega (arith, i.forward, set.0),
      subst (λ v. 16 * at + c.in-Some.lane < slot_count v) c.self.view_is (omega (arith, room, set.1)),
      subst (λ v. IsFull v (16 * at + c.in-Some.lane)) c.self.view_is (set_holds t.ctrl at room c.match_full.result (c.match_full.ensures ∙ ap (map is_full) c.group.ensures) _ _ t.slots c.self.invariant.laid c.in-Some.lane set.1 set.2),
    )

pub returns-in-Some-clause-first : goal.returns-in-Some-clause-first
returns-in-Some-clause-first g c = λ k low high.
    let i = c.loop-at.invariant in let t = c.self.inside in let at = c.loop-at.at in
    let room : 16 * at + 16 ≤ length t.ctrl = omega (arith, c.loop-at-test.true, c.len-groups.ensures.len) in
    let set = c.in-Some.ensures.set in
    ap (λ v. entry_at v k) (sym c.self.view_is) ∙ elim (dec_lt k (16 * at + c.loop-at.passed)) [
      | yes lt ↦ i.passed k low lt
      | no ge ↦ vacant_between t.ctrl at room c.match_full.result (c.match_full.ensures ∙ ap (map is_full) c.group.ensures) _ _ t.slots c.self.invariant.laid c.loop-at.passed c.in-Some.lane k
          (omega (arith, set.1)) c.in-Some.ensures.first (omega (arith, ge)) high
    ]

pub loop-at-preserved : goal.loop-at-preserved
loop-at-preserved g c =
    let i = c.loop-at.invariant in let t = c.self.inside in let at = c.loop-at.at in
    let room : 16 * at + 16 ≤ length t.ctrl = omega (arith, c.loop-at-test.true, c.len-groups.ensures.len) in
    record {
      lane = omega arith;
      forward = omega (arith, i.forward, i.lane);
      passed = λ k low high. elim (dec_lt k (16 * at + c.loop-at.passed)) [
        | yes lt ↦ i.passed k low lt
        | no ge ↦ vacant_between t.ctrl at room c.match_full.result (c.match_full.ensures ∙ ap (map is_full) c.group.ensures) _ _ t.slots c.self.invariant.laid c.loop-at.passed 16 k
            (omega arith) (λ l le lt. c.in_default.ensures.none l le) (omega (arith, ge)) (omega (arith, high))
      ];
    }
