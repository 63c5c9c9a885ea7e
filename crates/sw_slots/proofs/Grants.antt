-- What a `Grant` owns is taken apart and made, and a block is paired with its grant.
--     mark, grant_had, grant_made      a grant's machine value, which takes no bytes; a grant is taken apart, and made
--     pair_of, pair_made               a block and its grant
--     positive                         what a test for zero says
--     token_of, of_token               a grant of some places is the allocator's token
use mathlib.Core.Path.{◌≡◌, refl, subst}
use mathlib.Core.Bool.{not}
use Prim.Native.Nat.{ℕ, zero, suc, ◌<◌}
use native.Mathlib.Omega.{arith}
use mathlib.Core.List.{List, [], ◌∷◌, ◌++◌}
use lib.Dec.{T, eqb}
use seplogic.Ra.Ura.{Ura}
use mir.Val.{Val, vstruct, vcons, vnil, of_list}
use base.Logic.{ent, id⊢}
use types.Logic.{Logic, sem}
use types.Kit.{Goal, Step, step, Seq, Item, ‵, ◌$◌, move, drop, fsplit, fjoin, fjoin3, fpick, fpack, feq_l, feq_i}
use denote.RattleType.{RattleType, Valss}
use denote.RawPtr.{Ptr}
use denote.Shadow.{pure_i}
use denote.Steps.{nothing}
use denote.Struct.Struct.{Struct, within}
use denote.Struct.Declared as Declared
use denote.Struct.Owning.{shape}
use denote.Struct.Tuple.{Tuple, tuple_type}
use Rattle.core.proofs.mem.Param.{El, R}
use Rattle.core.proofs.alloc.Calls.{Al, token}
use Rattle.core.proofs.slots.Leases.{P, block_ty}
use Rattle.sw_slots.specs.Ownership.{grant_owned}
use Rattle.sw_slots.specs.contracts.block.Grant as C
use Rattle.sw_slots.proofs.Blocks.{BlockRow, BlockOf, word_of}

abbrev pub mark : Val
mark = vstruct (vcons (vstruct vnil) vnil)

abbrev pub pair_of : Ptr → Val
pair_of p = vstruct (vcons (word_of p) (vcons mark vnil))

pub positive : (n : ℕ) → T (not (eqb n 0)) → 0 < n
positive zero h = absurd h
positive (suc n) h = omega arith

module _ (E : El) (Z : Al) where
  abbrev pub GrantRow : RattleType
  GrantRow = C.the_row (R E) (P E Z) Z.g

  abbrev pub Pair : RattleType
  Pair = Tuple (BlockRow E ∷ GrantRow ∷ [])

  -- the grant of n places at p from the allocator a
  abbrev pub grant : Ptr → ℕ → Z.row.Denot → GrantRow.Denot
  grant p n a = record { mark = record {}; start = p; len = n; alloc = a }

  -- the mark alone
  abbrev pub Fields : RattleType
  Fields = Struct (shape (C.the_type (R E) (P E Z) Z.g))

  pub token_of : {M : Type 1} {𝓤 : Ura M} (𝓛 : Logic 𝓤) (a : Z.row.Denot) (p : Ptr) (n : ℕ) → 0 < n → ent 𝓤 (sem 𝓛 (grant_owned (R E) (token Z a) p n)) (sem 𝓛 (token Z a (block_ty E n) p))
  token_of 𝓛 a p zero lt = absurd (omega arith)
  token_of {𝓤 = 𝓤} 𝓛 a p (suc n) lt = id⊢ 𝓤 _

  pub of_token : {M : Type 1} {𝓤 : Ura M} (𝓛 : Logic 𝓤) (a : Z.row.Denot) (p : Ptr) (n : ℕ) → 0 < n → ent 𝓤 (sem 𝓛 (token Z a (block_ty E n) p)) (sem 𝓛 (grant_owned (R E) (token Z a) p n))
  of_token 𝓛 a p zero lt = absurd (omega arith)
  of_token {𝓤 = 𝓤} 𝓛 a p (suc n) lt = id⊢ 𝓤 _

module _ (E : El) (Z : Al) {M : Type 1} {𝓤 : Ura M} {𝓛 : Logic 𝓤} {K : Type 0} {Γ : List (Item 𝓤)} {G : Goal 𝓤 𝓛.H} where
  pub grant_had : K → (g : (GrantRow E Z).Denot) (us : List Val) → (us ≡ mark ∷ [] → Seq K 𝓛 (‵ (grant_owned (R E) (token Z g.alloc) g.start g.len) ∷ Γ) G) → Seq K 𝓛 (‵ ((GrantRow E Z).own_val g us) ∷ Γ) G
  grant_had t g us k =
      fsplit t $ fpick t (λ vss. fsplit t $ feq_l t (λ all. fsplit t $ fpick t (λ none. fsplit t $ feq_l t (λ one. drop t $ drop t $
      k (subst (λ (ws : List Val). us ≡ vstruct (of_list (ws ++ [])) ∷ []) one all)))))

  pub grant_made : K → (g : (GrantRow E Z).Denot) → Step K 𝓛 (‵ ((GrantRow E Z).own_val g (mark ∷ [])) ∷ Γ) G (‵ (grant_owned (R E) (token Z g.alloc) g.start g.len) ∷ Γ) G
  grant_made t g = step (λ s.
      pure_i t ((Fields E Z).own_val (tt, tt) (mark ∷ [])) (λ vss. (tt, ((λ uss. (tt, tt)), tt))) ((vstruct vnil ∷ [], tt), (refl, ((tt, (refl, tt)), tt))) $ fjoin t $ s)

  pub pair_made : K → (d : BlockOf E) (g : (GrantRow E Z).Denot) (p : Ptr)
      → Step K 𝓛 (‵ ((Pair E Z).own_val (d, g) (pair_of p ∷ [])) ∷ Γ) G (‵ ((BlockRow E).own_val d (word_of p ∷ [])) ∷ ‵ ((GrantRow E Z).own_val g (mark ∷ [])) ∷ Γ) G
  pair_made t d g p = step (λ s.
      nothing t $ move t (1 ∷ 2 ∷ 0 ∷ []) $ fjoin3 t $ feq_i t (List Val) (pair_of p ∷ []) (pair_of p ∷ []) refl $ fjoin t $
      fpack t (Valss (BlockRow E ∷ GrantRow E Z ∷ [])) (within (Declared.shape (tuple_type (BlockRow E ∷ GrantRow E Z ∷ []))) (d, (g, tt)) (pair_of p ∷ [])) (word_of p ∷ [], (mark ∷ [], tt)) $ s)
