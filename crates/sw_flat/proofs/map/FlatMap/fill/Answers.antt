use Rattle.std.proofs.Common.{sym, subst, ap, ◌∙◌}
use Rattle.sw_table.specs.Insertion.{HasSpace}
use Rattle.sw_table.specs.View.{slot_count}
use Rattle.sw_flat.proofs.map.FlatMap.fill.Goals as goal

pub returns-clause-in_place : goal.returns-clause-in_place
returns-clause-in_place g c = λ space.
    let class = g.K.Keyed.class in
    let hashed = subst (λ h. HasSpace class c.args.self.now h) (sym c.requires.hashed) space in
    let kept = c.place_hashed.ensures.in_place (subst (λ v. HasSpace class v c.args.vacancy.hash) (sym c.self.view_is) hashed) in
    (kept.0, kept.1 ∙ ap (λ v. slot_count v) c.self.view_is)
