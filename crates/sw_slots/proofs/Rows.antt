-- The places of a block, one taken out of the row and put back.
--     others                     the row without one of its places
--     place_out, place_in        a place is taken out of the row, and put back with what it then holds
--     place_seen                 one place of a row behind a `&`
--     from_room, into_room       room for an array is a row of vacant places
use mathlib.Core.Path.{◌≡◌, refl}
use Prim.Native.Nat.{ℕ, zero, suc, ◌+◌, ◌*◌, ◌<◌}
use native.Mathlib.Omega.{arith}
use native.Mathlib.Nat.{zero-mul, suc-mul}
use mathlib.Core.List.{List, [], ◌∷◌}
use lib.ListN.{length, set, replicate}
use seplogic.Ra.Ura.{Ura}
use mir.Syntax.{ty_array}
use base.Logic.{ent, sep}
use base.Fml.{Fml, Lft, ftrue, fsep, froom}
use types.Logic.{Logic, sem}
use types.Kit.{‵, ◌⊛◌, ◌$◌, ◌∵◌, !, qed, by, move, keep, use1, use2, split, rewrite, fsplit, frame, done}
use Rattle.std.specs.Prelude.{Option, None}
use Rattle.core.proofs.mem.Param.{El, R, el_x, elτ}
use Rattle.std.specs.Mem.{type_size}
use Rattle.sw_slots.specs.Place.{place}
use Rattle.sw_slots.specs.Ownership.{place_owned, places_owned, place_lent, places_lent}

module _ (E : El) where
  abbrev pub size : ℕ
  size = type_size (R E)

  abbrev pub Content : Type 0
  Content = Option (el_x E)

  abbrev pub others : ℕ → ℕ → List Content → ℕ → Fml
  others b o [] i = ftrue
  others b o (c ∷ s) zero = places_owned (R E) b (o + size) s
  others b o (c ∷ s) (suc i) = fsep (place_owned (R E) b o c) (others b (o + size) s i)

module _ (E : El) {M : Type 1} {𝓤 : Ura M} (𝓛 : Logic 𝓤) (b : ℕ) where
  open 𝓛 use {H}

  abbrev n : ℕ
  n = size E

  abbrev One : ℕ → Content E → Fml
  One = place_owned (R E) b

  abbrev All : ℕ → List (Content E) → Fml
  All = places_owned (R E) b

  pub place_out : (s : List (Content E)) (i o at : ℕ) → i < length s → at ≡ i * n + o → ent 𝓤 (sem 𝓛 (All o s)) (sep 𝓤 (sem 𝓛 (One at (place s i))) (sem 𝓛 (others E b o s i)))
  place_out [] i o at lt e = absurd (omega arith)
  place_out (c ∷ s) zero o at lt e = qed 𝓛 (‵ (All o (c ∷ s)) ∷ []) ∵ fsplit ! $ rewrite ! 0 (λ (k : ℕ). ‵ (One k c)) {x = at} (omega (arith, zero-mul n)) refl $ done !
  place_out (c ∷ s) (suc i) o at lt e = let far : at ≡ suc i * n + o = e in qed 𝓛 (‵ (All o (c ∷ s)) ∷ []) ∵ fsplit ! $ move ! (1 ∷ []) $
      use1 𝓛 (‵ (One at (place s i)) ⊛ ‵ (others E b (o + n) s i)) (place_out s i (o + n) at (omega arith) (omega (arith, suc-mul i n))) $ split ! $ frame ! $ move ! (1 ∷ 0 ∷ []) $ done !

  pub place_in : (s : List (Content E)) (i o at : ℕ) (c : Content E) → i < length s → at ≡ i * n + o → ent 𝓤 (sep 𝓤 (sem 𝓛 (One at c)) (sem 𝓛 (others E b o s i))) (sem 𝓛 (All o (set s i c)))
  place_in [] i o at c lt e = absurd (omega arith)
  place_in (x ∷ s) zero o at c lt e = qed 𝓛 (‵ (One at c) ∷ ‵ (others E b o (x ∷ s) zero) ∷ []) ∵ rewrite ! 0 (λ (k : ℕ). ‵ (One k c)) {x = o} (omega (arith, zero-mul n)) refl $ done !
  place_in (x ∷ s) (suc i) o at c lt e = let far : at ≡ suc i * n + o = e in qed 𝓛 (‵ (One at c) ∷ ‵ (others E b o (x ∷ s) (suc i)) ∷ []) ∵ move ! (1 ∷ []) $ fsplit ! $ move ! (2 ∷ 1 ∷ []) $
      use2 𝓛 (‵ (All (o + n) (set s i c))) (place_in s i (o + n) at c (omega arith) (omega (arith, suc-mul i n))) $ move ! (1 ∷ 0 ∷ []) $ done !

  pub place_seen : (κ : Lft) (s : List (Content E)) (i o at : ℕ) → i < length s → at ≡ i * n + o → ent 𝓤 (sem 𝓛 (places_lent (R E) b o s κ)) (sem 𝓛 (place_lent (R E) b at (place s i) κ))
  place_seen κ [] i o at lt e = absurd (omega arith)
  place_seen κ (c ∷ s) zero o at lt e = qed 𝓛 (‵ (places_lent (R E) b o (c ∷ s) κ) ∷ []) ∵ fsplit ! $ keep ! (0 ∷ []) $
      rewrite ! 0 (λ (k : ℕ). ‵ (place_lent (R E) b k c κ)) {x = at} (omega (arith, zero-mul n)) refl $ done !
  place_seen κ (c ∷ s) (suc i) o at lt e = let far : at ≡ suc i * n + o = e in qed 𝓛 (‵ (places_lent (R E) b o (c ∷ s) κ) ∷ []) ∵ fsplit ! $ keep ! (1 ∷ []) $
      by ! (place_seen κ s i (o + n) at (omega arith) (omega (arith, suc-mul i n)))

  pub from_room : (k o : ℕ) → ent 𝓤 (H.room (ty_array (elτ E) k) b o) (sem 𝓛 (All o (replicate k None)))
  from_room zero o = qed 𝓛 (‵ (froom (ty_array (elτ E) 0) b o) ∷ []) ∵ keep ! [] $ done !
  from_room (suc k) o = qed 𝓛 (‵ (froom (ty_array (elτ E) (suc k)) b o) ∷ []) ∵
      use1 𝓛 (‵ (froom (elτ E) b o) ⊛ ‵ (froom (ty_array (elτ E) k) b (o + n))) (𝓛.laws.room_uncons (elτ E) k b o) $ split ! $
      use1 𝓛 (‵ (One o None)) (𝓛.laws.room-raw (elτ E) b o) $ frame ! $ by ! (from_room k (o + n))

  pub into_room : (k o : ℕ) → ent 𝓤 (sem 𝓛 (All o (replicate k None))) (H.room (ty_array (elτ E) k) b o)
  into_room zero o = 𝓛.laws.room_nil (elτ E) b o
  into_room (suc k) o = qed 𝓛 (‵ (All o (replicate (suc k) None)) ∷ []) ∵ fsplit ! $
      use1 𝓛 (‵ (froom (elτ E) b o)) (𝓛.laws.raw-room (elτ E) b o) $ move ! (1 ∷ []) $ use1 𝓛 (‵ (froom (ty_array (elτ E) k) b (o + n))) (into_room k (o + n)) $ move ! (1 ∷ []) $
      by ! (𝓛.laws.room_cons (elτ E) k b o)
