use Rattle.std.proofs.Common.{List, [], ◌∷◌, ◌++◌, map, sym, ap, ◌∙◌, subst, arith}
use Rattle.std.proofs.lemmas.List.{map-append}
use Rattle.sw_table.specs.Entries.{entries}
use Rattle.sw_table.specs.Walks.{filled}
use Rattle.sw_flat.specs.Maps.{ListsAll}
use Rattle.sw_flat.proofs.Listed.{Apart, lists_filled}
use Rattle.sw_flat.proofs.Drained.{space_left, collected_on, collected, fewer_left}
use Rattle.sw_flat.proofs.set.FlatSet.into_list.Goals as goal

pub entries-init : goal.entries-init
entries-init g c =
    let t = c.map.inside.table in
    let class = g.K.Keyed.class in
    let once = (lists_filled class t.places c.capacity.ensures.laid_out.apart).once in
    let none = c.in-Ok.ensures.len in
    let space = c.in-Ok.ensures.capacity in
    let count = c.len.ensures in
    let start = c.new-walk.ensures.start in (
      record {
        split = ap (λ (xs : List g.row.K.Denot). map (λ (k : g.row.K.Denot). (k, tt {0})) xs ++ filled t.places) c.in-Ok.ensures.items ∙ ap (λ v. filled v.places) (c.map.view_is ∙ c.self.view_is);
        space = omega (arith, once, none, space, count);
      },
      record { walking = c.new-walk.ensures.walking t.bytes; taken = λ i lt. absurd (omega (arith, lt, start)) },
    )

pub entries-smaller : goal.entries-smaller
entries-smaller g c = fewer_left c.entries.table.places c.drain_next.new.self.places c.in-Some.entry c.in-Some.ensures.entry

pub entries-preserved : goal.entries-preserved
entries-preserved g c =
    let keyed : g.row.K.Denot → g.row.K.Denot × Unit {0} = λ k. (k, tt) in (
      collected_on _ _ _ _ _ _ _ _ _ c.in-Some.entry c.entries.invariant.0 c.in-Some.ensures.entry (ap (map keyed) c.in-Ok-push.ensures.items ∙ map-append keyed c.entries.list.items (c.in-Some.entry.0 ∷ [])) c.in-Ok-push.ensures.len c.in-Ok-push.ensures.capacity,
      c.in-Some.ensures.draining,
    )

pub unreachable-requires : goal.unreachable-requires
unreachable-requires g c =
    let space = space_left _ _ c.drain_next.new.self.places _ _ _ c.in-Some.entry c.entries.invariant.0 c.in-Some.ensures.entry in
    let full = c.in_default-push.ensures.full in
    omega (arith, space, full)

pub returns-clause-list : goal.returns-clause-list
returns-clause-list g c =
    let class = g.K.Keyed.class in
    let all = collected _ _ _ _ _ c.entries.invariant.0 c.in_default-drain_next.ensures.end.0 in
    let apart = subst (λ v. Apart class v.places) (c.map.view_is ∙ c.self.view_is) c.capacity.ensures.laid_out.apart in
    subst (λ xs. ListsAll class xs (entries class c.args.self)) (sym all) (lists_filled class c.args.self.places apart)
