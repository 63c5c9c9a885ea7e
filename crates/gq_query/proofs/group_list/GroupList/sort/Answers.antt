use Rattle.std.proofs.Common.{◌++◌, length, take, drop, map, subst, sym, IsPermutation}
use Rattle.std.specs.List.Sorted.{IsSortedByKey}
use Rattle.gq_row.specs.Order.{compare_keys}
use Rattle.gq_query.specs.GroupSpans.{group_at, key_at}
use Rattle.gq_query.proofs.GroupSpanLemmas.{groups_sorted}
use Rattle.gq_query.proofs.TieLemmas.{groups_moved, keep_places, spans_moved}
use Rattle.gq_query.proofs.group_list.GroupList.sort.Goals as goal

pub invariant_of-self : goal.invariant_of-self
invariant_of-self c =
    let groups = c.self.inside.groups in
    let whole = spans_moved groups.len groups.items _ _ groups.ok.0 c.as_mut_slice.ensures.value c.sort_groups.ensures.moved in
    keep_places c.self.inside.cells groups.items _ whole.1 c.self.invariant

pub returns-clause-moved : goal.returns-clause-moved
returns-clause-moved c =
    let groups = c.self.inside.groups in
    let whole = spans_moved groups.len groups.items _ _ groups.ok.0 c.as_mut_slice.ensures.value c.sort_groups.ensures.moved in
    let now = take groups.len (c.sort_groups.new.groups ++ drop (length c.sort_groups.new.groups) groups.items) in
    subst (λ l. IsPermutation l (map (group_at c.self.inside.cells) now)) c.self.view_is (groups_moved c.self.inside.cells groups.items now whole.1)

pub returns-clause-ascending : goal.returns-clause-ascending
returns-clause-ascending c =
    let cells = c.self.inside.cells in
    let groups = c.self.inside.groups in
    let whole = spans_moved groups.len groups.items _ _ groups.ok.0 c.as_mut_slice.ensures.value c.sort_groups.ensures.moved in
    groups_sorted cells _ (subst (IsSortedByKey (key_at cells) compare_keys) (sym whole.0) c.sort_groups.ensures.sorted)
