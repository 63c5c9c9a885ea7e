use Rattle.std.proofs.Common.{◌≡◌, refl}
use Rattle.std.proofs.lemmas.Iterator.{YieldsList-from_slice}
use Rattle.std.proofs.lemmas.Iterator.Search.{cmp_from_yields_List}
use Rattle.gq_cells.proofs.order.compare_each.Goals as goal

pub returns : goal.returns
returns g c = cmp_from_yields_List (λ x y. y ≡ x) _ g.T.Ord.cmp _ c.cmp.ensures.ran (YieldsList-from_slice c.args.a.now cc) (λ it e. YieldsList-from_slice c.args.b.now cc) (λ x y. refl)
