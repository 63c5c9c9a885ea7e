use Rattle.std.proofs.Common.{◌∙◌, ap, subst, sym, List}
use Rattle.sw_flat.specs.Maps.{ListsAll}
use Rattle.gq_row.specs.Classes.{class_of}
use Rattle.gq_group.specs.Entries.{Pair, listed}
use Rattle.gq_group.specs.Maps.{MapView, pairs_from}
use Rattle.gq_group.proofs.KeptLemmas.{lists_kept}
use Rattle.gq_group.proofs.group_map.GroupMap.drain.Goals as goal

pub new-requires-clause-each : goal.new-requires-clause-each
new-requires-clause-each g c = ap (λ (v : MapView _). v.each) c.self.view_is ∙ c.requires

pub returns-clause-groups : goal.returns-clause-groups
returns-clause-groups g c =
    let own = c.self.inside in
    subst (λ (v : MapView _). ListsAll class_of c.new.result.pairs (listed v.pairs)) c.self.view_is
    (subst (λ (l : List Pair). ListsAll class_of l (listed (pairs_from own.each 0 own.running.items own.index.keys)))
    (sym (c.new.ensures.pairs ∙ ap (pairs_from own.each 0 own.running.items) c.leave.ensures.list))
    (lists_kept own.each own.running.items own.index.keys c.self.invariant.different))

pub returns-clause-asked : goal.returns-clause-asked
returns-clause-asked g c = c.new.ensures.asked
