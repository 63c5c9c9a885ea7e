-- A filled place.
use mathlib.Core.Path.{◌≡◌, refl, sym}
use mathlib.Core.Bool.{true≢false}
use Prim.Native.Nat.{ℕ, zero, suc, ◌<◌}
use native.Mathlib.Omega.{arith}
use mathlib.Core.List.{List, [], ◌∷◌}
use lib.ListN.{length}
use Rattle.std.specs.Prelude.{Option, Some, None, IsSome}
use Rattle.sw_slots.specs.Place.{place}

-- it has a value, and lies within the list
pub filled : {X : Type 0} (s : List (Option X)) (i : ℕ) → IsSome (place s i) → (x : X) × (place s i ≡ Some x) × (i < length s)
filled [] i h = absurd (true≢false (sym h))
filled (None ∷ s) zero h = absurd (true≢false (sym h))
filled (Some x ∷ s) zero h = (x, refl, omega arith)
filled (c ∷ s) (suc i) h = let rest = filled s i h in let lt = rest.2 in (rest.0, rest.1, omega arith)
