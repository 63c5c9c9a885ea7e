use Rattle.std.proofs.Common.{◌≡◌, ◌+◌, ◌<◌, ◌≤◌, ◌^◌, cond, length, subst, ap, ◌∙◌, arith}
use Rattle.std.specs.FinMap.{len}
use Rattle.sw_table.specs.Entries.{entries}
use Rattle.sw_table.specs.Walks.{filled}
use Rattle.sw_table.proofs.Capacities.{small}
use Rattle.sw_flat.proofs.Listed.{Apart, lists_filled, filled_small}
use Rattle.sw_flat.proofs.Merged.{lacked_count, lacked_small, lacked_nothing, lacked_cons, len_lacked, byte_of_not}
use Rattle.sw_flat.proofs.map.FlatMap.count_lacked.Goals as goal

pub entries-init : goal.entries-init
entries-init g c =
    let class = g.K.Keyed.class in
    let m = entries class c.args.self.now in
    let t = c.other.inside.table in
    let laid = c.capacity-2.ensures.laid_out in
    let a = lacked_small class m (filled t.places) in
    let b = filled_small class t.places in
    let d = laid.size.0 in
    let e = small _ laid.size.1 in
    let z : 0 + lacked_count class m c.iter-rest.result ≡ lacked_count class m c.iter-rest.result = omega arith in (
      z ∙ ap (lacked_count class m) c.iter-rest.ensures ∙ ap (λ v. lacked_count class m (filled v.places)) c.other.view_is,
      subst (λ v. lacked_count class m (filled v.places) ≤ 2 ^ 28) c.other.view_is (omega (arith, a, b, d, e)),
    )

pub entries-smaller : goal.entries-smaller
entries-smaller g c = let e = ap length c.in-Some.ensures.steps in omega (arith, e)

pub entries-preserved : goal.entries-preserved
entries-preserved g c =
    let class = g.K.Keyed.class in
    let m = entries class c.args.self.now in
    let byte = byte_of_not c.contains.result ∙ ap (λ b. cond b 0 1) c.contains.ensures in
    let counted = ap (lacked_count class m) c.in-Some.ensures.steps ∙ lacked_cons class m (c.in-Some.entry.0.now, c.in-Some.entry.1.now) c.next.new.self in
    let so_far = c.entries.invariant.0 in
    (omega (arith, byte, counted, so_far), c.entries.invariant.1)

pub returns-clause-count : goal.returns-clause-count
returns-clause-count g c =
    let class = g.K.Keyed.class in
    let m = entries class c.args.self.now in
    let none = ap (lacked_count class m) c.in_default.ensures.steps.0 ∙ lacked_nothing class m in
    let apart = subst (λ v. Apart class v.places) c.other.view_is c.capacity-2.ensures.laid_out.apart in
    let all = len_lacked class m c.args.other.now.places apart in
    let so_far = c.entries.invariant.0 in
    omega (arith, none, all, so_far)

pub returns-clause-small : goal.returns-clause-small
returns-clause-small g c =
    let class = g.K.Keyed.class in
    let t = c.self.inside.table in
    let laid = c.capacity.ensures.laid_out in
    let once = (lists_filled class t.places laid.apart).once in
    let b = filled_small class t.places in
    let d = laid.size.0 in
    let e = small _ laid.size.1 in
    let so_far = c.entries.invariant.0 in
    let bound = c.entries.invariant.1 in
    (omega (arith, so_far, bound), subst (λ v. len (entries class v) < 2 ^ 60) c.self.view_is (omega (arith, once, b, d, e)))
