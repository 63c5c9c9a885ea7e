use Rattle.std.proofs.Common.{map, sym, subst, ap, ◌∙◌}
use Rattle.sw_table.specs.Entries.{entries}
use Rattle.sw_table.specs.Walks.{filled}
use Rattle.sw_flat.specs.Maps.{ListsAll}
use Rattle.sw_flat.proofs.Listed.{with_nothing}
use Rattle.sw_flat.proofs.set.FlatSet.iter.Goals as goal

pub returns-clause-all : goal.returns-clause-all
returns-clause-all g c =
    let class = g.K.Keyed.class in
    let keyed : g.row.K.Denot → g.row.K.Denot × Unit {0} = λ k. (k, tt) in
    let m = c.self.inside.map in
    let same = ap (map keyed) c.keys.ensures.keys ∙ with_nothing (filled m.places) in
    subst (λ v. ListsAll class (map keyed c.keys.result) (entries class v)) c.self.view_is
    (subst (λ items. ListsAll class items (entries class m)) (sym same) c.keys.ensures.all)

pub returns-clause-slots : goal.returns-clause-slots
returns-clause-slots g c =
    let keyed : g.row.K.Denot → g.row.K.Denot × Unit {0} = λ k. (k, tt) in
    ap (map keyed) c.keys.ensures.keys ∙ with_nothing (filled c.self.inside.map.places) ∙ ap (λ v. filled v.places) c.self.view_is
