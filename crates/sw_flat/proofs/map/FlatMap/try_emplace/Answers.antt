use mathlib.Core.Bool.{true≢false}
use Rattle.std.proofs.Common.{ℕ, IsOk, refl, sym, ap, subst, ◌∙◌}
use Rattle.sw_table.specs.View.{View, slot_count}
use Rattle.sw_table.specs.Insertion.{HasSpace}
use Rattle.sw_flat.proofs.map.FlatMap.try_emplace.Goals as goal

pub returns-clause-in_place : goal.returns-clause-in_place
returns-clause-in_place g c =
    λ space.
    let class = g.K.Keyed.class in let t = c.self.inside.table in
    let hash : View g.row.K.Denot g.row.V.Denot g.row.H.Denot → ℕ = λ v. g.H.KeyHash.hash_of v.hasher (class c.args.key) in
    let here : HasSpace class t (hash t) = subst (λ v. HasSpace class v (hash v)) (sym c.self.view_is) space in
    let placed = c.place_hashed.ensures.in_place (subst (HasSpace class t) (sym c.hash-hash.ensures) here) in
    (refl, placed.1 ∙ ap (λ v. slot_count v) c.self.view_is)

pub returns-in_err-place_hashed-clause-in_place : goal.returns-in_err-place_hashed-clause-in_place
returns-in_err-place_hashed-clause-in_place g c =
    λ space.
    let class = g.K.Keyed.class in let t = c.self.inside.table in
    let hash : View g.row.K.Denot g.row.V.Denot g.row.H.Denot → ℕ = λ v. g.H.KeyHash.hash_of v.hasher (class c.args.key) in
    let here : HasSpace class t (hash t) = subst (λ v. HasSpace class v (hash v)) (sym c.self.view_is) space in
    let placed = c.place_hashed.ensures.in_place (subst (HasSpace class t) (sym c.hash-hash.ensures) here) in
    absurd (true≢false (sym (subst (λ r. IsOk r) c.in_err-place_hashed.was placed.0)))
