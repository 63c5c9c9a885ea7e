use mathlib.Core.Bool.{true≢false}
use Rattle.std.proofs.Common.{ℕ, IsOk, refl, sym, ap, subst, ◌∙◌}
use Rattle.sw_table.specs.View.{View, slot_count}
use Rattle.sw_table.specs.Insertion.{HasSpace}
use Rattle.std.specs.FinMap.{insert}
use Rattle.sw_table.specs.Entries.{entries}
use Rattle.sw_flat.specs.Maps.{stored_key}
use Rattle.sw_flat.proofs.Classes.{stored_at}
use Rattle.sw_flat.proofs.map.FlatMap.insert_or_assign.Goals as goal

pub returns-in-Some-clause-entries : goal.returns-in-Some-clause-entries
returns-in-Some-clause-entries g c =
    let class = g.K.Keyed.class in
    let q = class c.args.key in
    stored_at class c.self.inside.table c.in-Some.slot.index q c.args.key c.replace.new.dest c.in-Some.ensures.found c.in-Some.ensures.full c.at_mut-stored.ensures.entries
    ∙ (λ j. insert (entries class (c.self.view_is j)) q (stored_key (entries class (c.self.view_is j)) q c.args.key, c.replace.ensures.after j))

pub returns-clause-in_place : goal.returns-clause-in_place
returns-clause-in_place g c =
    λ space.
    let class = g.K.Keyed.class in let t = c.self.inside.table in
    let hash : View g.row.K.Denot g.row.V.Denot g.row.H.Denot → ℕ = λ v. g.H.KeyHash.hash_of v.hasher (class c.args.key) in
    let here : HasSpace class t (hash t) = subst (λ v. HasSpace class v (hash v)) (sym c.self.view_is) space in
    let placed = c.place_hashed.ensures.in_place (subst (HasSpace class t) (sym c.hash-hash.ensures) here) in
    (refl, placed.1 ∙ ap (λ v. slot_count v) c.self.view_is)

pub returns-in_err-place_hashed-clause-in_place : goal.returns-in_err-place_hashed-clause-in_place
returns-in_err-place_hashed-clause-in_place g c =
    λ space.
    let class = g.K.Keyed.class in let t = c.self.inside.table in
    let hash : View g.row.K.Denot g.row.V.Denot g.row.H.Denot → ℕ = λ v. g.H.KeyHash.hash_of v.hasher (class c.args.key) in
    let here : HasSpace class t (hash t) = subst (λ v. HasSpace class v (hash v)) (sym c.self.view_is) space in
    let placed = c.place_hashed.ensures.in_place (subst (HasSpace class t) (sym c.hash-hash.ensures) here) in
    absurd (true≢false (sym (subst (λ r. IsOk r) c.in_err-place_hashed.was placed.0)))
