-- A borrow of a block borrows the value of each filled place.
use Prim.Native.Nat.{ℕ, ◌+◌}
use Rattle.std.specs.Prelude.{List, [], ◌∷◌, Option, Some, None}
use Rattle.std.specs.Mem.{type_size}
use seplogic.Ra.Ura.{Ura}
use base.Fml.{Lft, ftrue, ffalse}
use types.Logic.{Logic}
use denote.RattleType.{RattleType, RowLaws}
use denote.RawPtr.{Ptr, block_ptr, null_ptr}
use denote.Shares.{Shares}
use denote.Sharing.{ShrLaws, said}
use denote.SharingLaws.{beside_shr_laws, nothing_shr_laws, said_shr_laws}
use denote.Struct.Lending.{Lends, Lends-both, Lends-nothing, Lends-said, Lends-false}
use Rattle.sw_slots.specs.Ownership.{place_owned, places_owned, is_small, block_owned, place_lent, places_lent, block_lent}

module _ (R : RattleType) (law : RowLaws R) where
  places_laws : (b o : ℕ) (s : List (Option R.Denot)) → ShrLaws (places_lent R b o s)
  places_laws b o [] = nothing_shr_laws
  places_laws b o (None ∷ s) = beside_shr_laws _ _ nothing_shr_laws (places_laws b (o + type_size R) s)
  places_laws b o (Some x ∷ s) = beside_shr_laws _ _ (law x b o) (places_laws b (o + type_size R) s)

  pub block_laws : (p : Ptr) (s : List (Option R.Denot)) → ShrLaws (block_lent R p s)
  block_laws null_ptr s = said_shr_laws ffalse tt
  block_laws (block_ptr b o) s = beside_shr_laws _ _ (said_shr_laws (is_small R s) tt) (places_laws b o s)

module _ {M : Type 1} {𝓤 : Ura M} (𝓛 : Logic 𝓤) (R : RattleType) (l : Lft) (values : Shares 𝓛 R l) where
  lends_place : (b o : ℕ) (c : Option R.Denot) → Lends 𝓛 (place_owned R b o c) (place_lent R b o c) l
  lends_place b o None = Lends-nothing 𝓛 (place_owned R b o None) l
  lends_place b o (Some x) = λ κ ts. values x κ ts b o

  lends_places : (b o : ℕ) (s : List (Option R.Denot)) → Lends 𝓛 (places_owned R b o s) (places_lent R b o s) l
  lends_places b o [] = Lends-nothing 𝓛 ftrue l
  lends_places b o (c ∷ s) = let on = o + type_size R in
      Lends-both 𝓛 (place_owned R b o c) (places_owned R b on s) (place_lent R b o c) (places_lent R b on s) l (lends_place b o c) (lends_places b on s)

  pub lends_block : (p : Ptr) (s : List (Option R.Denot)) → Lends 𝓛 (block_owned R p s) (block_lent R p s) l
  lends_block null_ptr s = Lends-false 𝓛 (said ffalse) l
  lends_block (block_ptr b o) s = let small = is_small R s in
      Lends-both 𝓛 small (places_owned R b o s) (said small) (places_lent R b o s) l (Lends-said 𝓛 small tt l) (lends_places b o s)
