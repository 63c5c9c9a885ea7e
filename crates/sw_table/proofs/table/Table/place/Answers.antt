use Rattle.std.proofs.Common.{ℕ, sym, subst}
use Rattle.sw_table.specs.View.{View}
use Rattle.sw_table.specs.Insertion.{HasSpace}
use Rattle.sw_table.proofs.table.Table.place.Goals as goal

pub returns-clause-in_place : goal.returns-clause-in_place
returns-clause-in_place g c =
    λ space.
    let class = g.K.Keyed.class in let t = c.self.inside in
    let hash : View g.row.K.Denot g.row.V.Denot g.row.H.Denot → ℕ = λ v. g.H.KeyHash.hash_of v.hasher (class c.args.key) in
    c.place_hashed.ensures.in_place (subst (λ h. HasSpace class c.args.self.now h) (sym c.hash-hash.ensures) (subst (λ v. HasSpace class c.args.self.now (hash v)) (sym c.self.view_is) space))
