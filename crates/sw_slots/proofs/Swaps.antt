-- Two places that are emptied, and then filled with each other's value.
use Rattle.std.proofs.Common.{◌≡◌, ◌≢◌, ℕ, List, set, Option, Some, None, sym, ap, ◌∙◌}
use Rattle.std.proofs.lemmas.List.{set_comm, set-set, get_or-set_other}
use Rattle.sw_slots.specs.Place.{place}

pub exchanged : {X : Type 0} (s : List (Option X)) (i j : ℕ) (x y : X) → i ≢ j → place s i ≡ Some x → place (set s i None) j ≡ Some y
    → set (set (set (set s i None) j None) i (Some y)) j (Some x) ≡ set (set s i (place s j)) j (place s i)
exchanged s i j x y apart at_i at_j =
    let back : j ≢ i = λ e. apart (sym e) in
    ap (λ t. set t j (Some x)) (set_comm (set s i None) j i None (Some y) back ∙ ap (λ t. set t j None) (set-set s i None (Some y))) ∙ set-set (set s i (Some y)) j None (Some x)
    ∙ ap (λ c. set (set s i c) j (Some x)) (sym at_j ∙ get_or-set_other s i j None None back) ∙ ap (λ c. set (set s i (place s j)) j c) (sym at_i)
