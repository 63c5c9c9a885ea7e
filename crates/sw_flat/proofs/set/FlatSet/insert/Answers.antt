use mathlib.Core.Bool.{true≢false}
use Rattle.std.proofs.Common.{ℕ, IsOk, refl, sym, ap, subst, ◌∙◌}
use Rattle.sw_table.specs.View.{View, slot_count}
use Rattle.sw_table.specs.Insertion.{HasSpace}
use Rattle.sw_flat.proofs.set.FlatSet.insert.Goals as goal

pub returns-in-Ok-Inserted-clause-in_place : goal.returns-in-Ok-Inserted-clause-in_place
returns-in-Ok-Inserted-clause-in_place g c =
    λ space.
    let class = g.K.Keyed.class in
    let hash : View g.row.K.Denot (Unit {0}) g.row.H.Denot → ℕ = λ v. g.H.KeyHash.hash_of v.hasher (class c.args.key) in
    let placed = c.try_emplace.ensures.in_place (subst (λ v. HasSpace class v (hash v)) (sym c.self.view_is) space) in
    (refl, placed.1 ∙ ap (λ v. slot_count v) c.self.view_is)

pub returns-clause-in_place : goal.returns-clause-in_place
returns-clause-in_place g c =
    λ space.
    let class = g.K.Keyed.class in
    let hash : View g.row.K.Denot (Unit {0}) g.row.H.Denot → ℕ = λ v. g.H.KeyHash.hash_of v.hasher (class c.args.key) in
    let placed = c.try_emplace.ensures.in_place (subst (λ v. HasSpace class v (hash v)) (sym c.self.view_is) space) in
    absurd (true≢false (sym (subst (λ r. IsOk r) c.in-Err.is placed.0)))
