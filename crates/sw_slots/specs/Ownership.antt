-- Who owns the bytes of a block, for values of the row `R`, and who may read them.
use Rattle.std.specs.Prelude.{ℕ, zero, suc, ◌+◌, ◌*◌, ◌^◌, List, [], ◌∷◌, length, Option, Some, None}
use Rattle.std.specs.Mem.{type_size}
use base.Fraction.{full_share}
use base.Fml.{Lft, Fml, ftrue, ffalse, fsep, flt, froom}
use mir.Syntax.{Ty, ty_array}
use mir.Raw.{raw}
use denote.RattleType.{RattleType}
use denote.Memory.{lone, part_at, shared_of}
use denote.Sharing.{nothing, said, beside}
use denote.RawPtr.{Ptr, block_ptr, null_ptr}

module _ (R : RattleType) where
  -- the ownership of the bytes of one place, from offset `o` on: free to be written if it is vacant, or else
  -- the value's
  abbrev pub place_owned : ℕ → ℕ → Option R.Denot → Fml
  place_owned b o None = froom (raw (lone R.mir)) b o
  place_owned b o (Some x) = part_at R full_share x b o

  -- the ownership of all places, one after the other
  abbrev pub places_owned : ℕ → ℕ → List (Option R.Denot) → Fml
  places_owned b o [] = ftrue
  places_owned b o (c ∷ s) = fsep (place_owned b o c) (places_owned b (o + type_size R) s)

  -- the places take fewer than 2^63 bytes
  abbrev pub is_small : List (Option R.Denot) → Fml
  is_small s = flt (length s * type_size R) (2 ^ 63)

  -- the ownership of all places of a block
  abbrev pub block_owned : Ptr → List (Option R.Denot) → Fml
  block_owned (block_ptr b o) s = fsep (is_small s) (places_owned b o s)
  block_owned null_ptr s = ffalse

  -- one place of a borrowed block: a filled place can be read, and the bytes of a vacant one are unspecified
  abbrev pub place_lent : ℕ → ℕ → Option R.Denot → Lft → Fml
  place_lent b o None = nothing
  place_lent b o (Some x) = shared_of R x b o

  abbrev pub places_lent : ℕ → ℕ → List (Option R.Denot) → Lft → Fml
  places_lent b o [] = nothing
  places_lent b o (c ∷ s) = beside (place_lent b o c) (places_lent b (o + type_size R) s)

  abbrev pub block_lent : Ptr → List (Option R.Denot) → Lft → Fml
  block_lent (block_ptr b o) s = beside (said (is_small s)) (places_lent b o s)
  block_lent null_ptr s = said ffalse

  -- the allocator's token for `n` places at a pointer; for no places there is none
  abbrev pub grant_owned : (Ty → Ptr → Fml) → Ptr → ℕ → Fml
  grant_owned token p zero = ftrue
  grant_owned token p (suc n) = token (raw (ty_array (lone R.mir) (suc n))) p
