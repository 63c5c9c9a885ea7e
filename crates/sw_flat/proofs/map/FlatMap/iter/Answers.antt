use Rattle.std.proofs.Common.{sym, subst}
use Rattle.sw_table.specs.Entries.{entries}
use Rattle.sw_flat.specs.Maps.{ListsAll}
use Rattle.sw_flat.proofs.Listed.{lists_filled}
use Rattle.sw_flat.proofs.map.FlatMap.iter.Goals as goal

pub returns-clause-all : goal.returns-clause-all
returns-clause-all g c =
    let class = g.K.Keyed.class in
    let t = c.self.inside.table in
    let lists = subst (λ items. ListsAll class items (entries class t)) (sym c.iter.ensures) (lists_filled class t.places c.capacity.ensures.laid_out.apart) in
    subst (λ v. ListsAll class c.iter.result (entries class v)) c.self.view_is lists
