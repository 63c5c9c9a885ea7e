-- What the walks of the raw functions share.
--     Bound, Goes, with_words      what a walk is given, what it shows, and the same at other machine values
--     Goes-spelled                 a walk over spelled out machine values serves for any that are the same
--     reach                        the offset of a place within the block, and the size of a value, fit a word
use mathlib.Core.Path.{◌≡◌, subst, sym}
use Prim.Native.Nat.{ℕ, ◌*◌, ◌<◌, ◌^◌}
use native.Mathlib.Omega.{arith}
use seplogic.Ra.Ura.{Ura}
use base.Logic.{ent}
use types.Logic.{Logic}
use contract.Monad.{Fun}
use denote.Triple.Clauses.{Clauses, Ended}
use denote.Triple.Entry.{Vals}
use denote.Triple.Walked.{Stays, walk_of}
use Rattle.core.proofs.ptr.Rows.{times_below, one_below}

module _ {M : Type 1} {𝓤 : Ura M} (𝓛 : Logic 𝓤) (T : Ended) (hs : Stays T.signature.params T.kept) (c : Clauses 𝓤 T) where
  abbrev pub Bound : Type 0
  Bound = (walk_of 𝓛 T hs c).Ghost

  abbrev pub Goes : Fun 𝓤 → Bound → Type 1
  Goes run y = ent 𝓤 ((walk_of 𝓛 T hs c).pre y) (run ((walk_of 𝓛 T hs c).args y) ((walk_of 𝓛 T hs c).post y))

  abbrev pub with_words : (y : Bound) → Vals T.signature y.0.0 → Bound
  with_words y words = ((y.0.0, y.0.1, y.0.2, y.0.3, words), y.1)

  module _ (run : Fun 𝓤) (y : Bound) where
    pub Goes-spelled : (words : Vals T.signature y.0.0) → y.0.4 ≡ words → Goes run (with_words y words) → Goes run y
    Goes-spelled words same walk = subst (λ (ws : Vals T.signature y.0.0). Goes run (with_words y ws)) (sym same) walk

pub reach : (i count size : ℕ) → i < count → count * size < 2 ^ 63 → (size < 2 ^ 64) × (i * size < 2 ^ 64)
reach i count size within small =
    let one : size < 2 ^ 63 = one_below count size (2 ^ 63) (omega arith) small in let far : i * size < 2 ^ 63 = times_below i count size (2 ^ 63) (omega arith) small in
    (omega arith, omega arith)
