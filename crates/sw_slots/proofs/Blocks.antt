-- A block is taken apart and made, and a reference to one is followed to one of its places.
--     word_of, block_had, block_made      a block's one word; what it owns is taken apart, and made
--     self_had, self_back                 the `&mut` that a method is given, and gives back
--     place_opens, place_shuts            behind a `&mut`, one place is taken out, and put back with what it then holds
--     place_shows                         behind a `&`, the value of one place is seen
use mathlib.Core.Path.{◌≡◌, refl, sym, subst, ap, ◌∙◌}
use Prim.Native.Nat.{ℕ, ◌+◌, ◌*◌, ◌<◌, ◌^◌}
use mathlib.Core.List.{List, [], ◌∷◌, ◌++◌}
use lib.ListN.{length, set, length-set}
use seplogic.Ra.Ura.{Ura}
use base.Fraction.{full_share}
use mir.Val.{Val, vptr, vstruct, vcons, vnil, of_list}
use base.Logic.{ent, sep, never, id⊢}
use base.Stored.{Gv}
use base.Fml.{Fml, fsep, Lft, GName, Share, flft, fobs, fauth, fbor, fobor, fhide}
use types.Logic.{Logic, sem}
use types.Kit.{Goal, Soaks, Step, step, Seq, Item, ‵, raw, ◌⊛◌, ◌$◌, ◌∵◌, !, qed, move, drop, keep, split, use1, use2, rewrite, fsplit, fsplit3, fjoin, fjoin3, fpick, fpack, feq_l, feq_i, flt_l, flt_i, done}
use types.SemTy.{Body}
use denote.RattleType.{RattleType, Valss}
use denote.Memory.{cell_at, mem, hidden_shr}
use denote.Opens.{hide, unhide}
use Rattle.std.specs.Prelude.{Some}
use denote.RawPtr.{Ptr, RawPtr, block_ptr, ptr_val, in_a_block}
use contract.Monad.{fact}
use denote.Ref.{MutBor, MutRef, mut_vals}
use denote.Steps.{opens, closes, nothing, heard}
use mir.Syntax.{named}
use denote.Struct.Struct.{Struct, within}
use denote.Struct.Owning.{shape}
use denote.Struct.Lending.{lent_out}
use Rattle.core.proofs.mem.Param.{El, R, el_x}
use Rattle.sw_slots.specs.Ownership.{place_owned, places_owned, block_owned, block_lent, place_lent}
use Rattle.sw_slots.specs.contracts.block.Block as C
use Rattle.sw_slots.specs.declared.block.Block.{Block}
use Rattle.sw_slots.specs.Lends.{with_places}
use Rattle.sw_slots.specs.Place.{place}
use Rattle.sw_slots.proofs.Rows.{size, Content, others, place_out, place_in, place_seen}

-- the one word of a block
abbrev pub word_of : Ptr → Val
word_of p = vstruct (vcons (ptr_val p) vnil)

module _ (E : El) where
  abbrev pub BlockRow : RattleType
  BlockRow = C.the_row (R E)

  -- its one field, as a plain struct
  abbrev pub Word : RattleType
  Word = Struct (shape (C.the_type (R E)))

  abbrev pub BlockOf : Type 0
  BlockOf = Block (el_x E)

  abbrev pub Small : BlockOf → Type 0
  Small d = length d.places * size E < 2 ^ 63

  -- d, with the place i holding c
  abbrev pub holding : BlockOf → ℕ → Content E → BlockOf
  holding d i c = with_places d (set d.places i c)

  pub still_small : (d : BlockOf) (i : ℕ) (c : Content E) → Small d → Small (holding d i c)
  still_small d i c small = subst (λ (k : ℕ). k * size E < 2 ^ 63) (sym (length-set d.places i c)) small

module _ (E : El) {M : Type 1} {𝓤 : Ura M} {𝓛 : Logic 𝓤} {K : Type 0} {Γ : List (Item 𝓤)} {G : Goal 𝓤 𝓛.H} where
  pub block_had : K → (d : BlockOf E) (us : List Val) → ((b o : ℕ) → d.start ≡ block_ptr b o → us ≡ word_of (block_ptr b o) ∷ [] → Small E d → Seq K 𝓛 (‵ (places_owned (R E) b o d.places) ∷ Γ) G)
      → Seq K 𝓛 (‵ ((BlockRow E).own_val d us) ∷ Γ) G
  block_had t d us k =
      fsplit t $ fpick t (λ vss. fsplit t $ feq_l t (λ all. fsplit t $ feq_l t (λ one. drop t $
      in_a_block t d.start (λ p. block_owned (R E) p d.places) (id⊢ 𝓤 (never 𝓤)) (λ b o is. fsplit t $ flt_l t (λ small.
      k b o is (all ∙ ap (λ (ws : List Val). vstruct (of_list (ws ++ [])) ∷ []) one ∙ ap (λ (p : Ptr). word_of p ∷ []) is) small)))))

  pub block_made : K → (d : BlockOf E) (b o : ℕ) → d.start ≡ block_ptr b o → Small E d → Step K 𝓛 (‵ ((BlockRow E).own_val d (word_of (block_ptr b o) ∷ [])) ∷ Γ) G (‵ (places_owned (R E) b o d.places) ∷ Γ) G
  block_made t d b o is small = step (λ s.
      flt_i t (length d.places * size E) (2 ^ 63) small $ fjoin t $ rewrite t 0 (λ (p : Ptr). ‵ (block_owned (R E) p d.places)) (sym is) refl $
      nothing t $ feq_i t (List Val) (vptr b o ∷ []) (ptr_val d.start ∷ []) (ap (λ (p : Ptr). ptr_val p ∷ []) (sym is)) $ fjoin t $
      feq_i t (List Val) (word_of (block_ptr b o) ∷ []) (word_of (block_ptr b o) ∷ []) refl $ fjoin t $
      fpack t (Valss (RawPtr ∷ [])) (within (shape (C.the_type (R E))) (d.start, tt) (word_of (block_ptr b o) ∷ [])) (vptr b o ∷ [], tt) $ fjoin t $ s)

module _ (E : El) {M : Type 1} {𝓤 : Ura M} {𝓛 : Logic 𝓤} {K : Type 0} {G : Goal 𝓤 𝓛.H} where
  -- a method's entry: its tokens and arguments, then what holds of the lifetime of T, which no walk needs, and what the method requires.
  -- It goes on with [obs; the borrow; its token; the other arguments; the other tokens]
  pub self_had : K → {κ : Lft} {q : Share} {tokens : Item 𝓤} {args : Fml} {φ ψ : Type 0} (self : MutBor (BlockOf E))
      → (ψ → Seq K 𝓛 (‵ (fobs self.ghost_name ((BlockRow E).coded.code self.now)) ∷ ‵ (fbor κ (Body (mem (BlockRow E)) self.ref_ptr.0 self.ref_ptr.1 self.ghost_name)) ∷ ‵ (flft κ q) ∷ ‵ args ∷ tokens ∷ []) G)
      → Seq K 𝓛 (((‵ (flft κ q) ⊛ tokens) ⊛ ‵ (fsep ((MutRef (named 0) κ (BlockRow E)).own_val self (mut_vals self)) args)) ∷ (raw (fact 𝓤 φ) ⊛ raw (fact 𝓤 ψ)) ∷ []) G
  self_had t {ψ = ψ} self k = split t $ move t (1 ∷ []) $ fsplit t $ fsplit3 t $ drop t $ move t (3 ∷ []) $ split t $ move t (5 ∷ []) $ split t $ drop t $ heard t ψ (λ asked. move t (2 ∷ 3 ∷ 0 ∷ 4 ∷ 1 ∷ []) $ k asked)

module _ (E : El) {M : Type 1} {𝓤 : Ura M} {𝓛 : Logic 𝓤} {K : Type 0} {Γ : List (Item 𝓤)} {G : Goal 𝓤 𝓛.H} where
  pub self_back : K → {κ : Lft} (self : MutBor (BlockOf E))
      → Step K 𝓛 (‵ ((MutRef (named 0) κ (BlockRow E)).own_val self (mut_vals self)) ∷ Γ) G
      (‵ (fobs self.ghost_name ((BlockRow E).coded.code self.now)) ∷ ‵ (fbor κ (Body (mem (BlockRow E)) self.ref_ptr.0 self.ref_ptr.1 self.ghost_name)) ∷ Γ) G
  self_back t self = step (λ s. feq_i t (List Val) (mut_vals self) (mut_vals self) refl $ fjoin3 t $ s)

  -- [the place; the other places; the block's word; the open borrow, in three entries]
  pub place_opens : K → Soaks G → {κ : Lft} {q : Share} {γ : GName} (d : BlockOf E) (i rb ro : ℕ) → i < length d.places
      → ((b o : ℕ) → d.start ≡ block_ptr b o → Small E d
      → Seq K 𝓛 (‵ (place_owned (R E) b (i * size E + o) (place d.places i)) ∷ ‵ (others E b o d.places i) ∷ ‵ (cell_at full_share (BlockRow E).mir (word_of (block_ptr b o) ∷ []) rb ro)
      ∷ ‵ (fobor κ q (Body (mem (BlockRow E)) rb ro γ)) ∷ ‵ (fobs γ ((BlockRow E).coded.code d)) ∷ ‵ (fauth γ ((BlockRow E).coded.code d)) ∷ Γ) G)
      → Seq K 𝓛 (‵ (fobs γ ((BlockRow E).coded.code d)) ∷ ‵ (fbor κ (Body (mem (BlockRow E)) rb ro γ)) ∷ ‵ (flft κ q) ∷ Γ) G
  place_opens t z d i rb ro within k =
      opens t z (BlockRow E) {h = d} rb ro (λ us. move t (1 ∷ []) $ block_had E t d us (λ b o at_start word small.
      rewrite t 1 (λ (ws : List Val). ‵ (cell_at full_share (BlockRow E).mir ws rb ro)) word refl $ let at : ℕ = i * size E + o in
      use1 𝓛 (‵ (place_owned (R E) b at (place d.places i)) ⊛ ‵ (others E b o d.places i)) (place_out E 𝓛 b d.places i o at within refl) $ split t $ k b o at_start small))

  pub place_shuts : K → Soaks G → {κ : Lft} {q : Share} {u v : Gv} {γ : GName} (d : BlockOf E) (i : ℕ) (c : Content E) (b o rb ro : ℕ) → i < length d.places → d.start ≡ block_ptr b o → Small E d
      → Step K 𝓛 (‵ (fobs γ ((BlockRow E).coded.code (holding E d i c))) ∷ ‵ (fbor κ (Body (mem (BlockRow E)) rb ro γ)) ∷ ‵ (flft κ q) ∷ Γ) G
      (‵ (place_owned (R E) b (i * size E + o) c) ∷ ‵ (others E b o d.places i) ∷ ‵ (cell_at full_share (BlockRow E).mir (word_of (block_ptr b o) ∷ []) rb ro)
      ∷ ‵ (fobor κ q (Body (mem (BlockRow E)) rb ro γ)) ∷ ‵ (fobs γ u) ∷ ‵ (fauth γ v) ∷ Γ) G
  place_shuts t z d i c b o rb ro within at_start small = step (λ s.
      use2 𝓛 (‵ (places_owned (R E) b o (holding E d i c).places)) (place_in E 𝓛 b d.places i o (i * size E + o) c within refl) $
      block_made E t (holding E d i c) b o at_start (still_small E d i c small) $ move t (1 ∷ 0 ∷ []) $ closes t z (BlockRow E) (holding E d i c) (word_of (block_ptr b o) ∷ []) rb ro $ s)

module _ (E : El) {M : Type 1} {𝓤 : Ura M} (𝓛 : Logic 𝓤) (κ : Lft) where
  -- a `&` to a block shows the word and the borrowed places
  block_shown : (d : BlockOf E) (b o : ℕ) → ent 𝓤 (sem 𝓛 (hidden_shr (BlockRow E) κ d b o)) (sep 𝓤 (sem 𝓛 (hidden_shr RawPtr κ d.start b (o + 0))) (sem 𝓛 (block_lent (R E) d.start d.places κ)))
  block_shown d b o = qed 𝓛 (‵ (hidden_shr (BlockRow E) κ d b o) ∷ []) ∵
      use1 𝓛 (‵ (hidden_shr (Word E) κ (d.start, tt) b o) ⊛ ‵ (fhide (C.the_lent (R E) d d.start κ))) (lent_out 𝓛 (C.struct (R E)) (C.the_codes (el_x E) (R E).coded) (C.the_heap (R E)) (C.the_lent (R E)) κ d b o) $ split ! $
      unhide ! $ fsplit ! $ fsplit ! $ keep ! (0 ∷ 3 ∷ []) $ done !

module _ (E : El) {M : Type 1} {𝓤 : Ura M} {𝓛 : Logic 𝓤} {K : Type 0} {Γ : List (Item 𝓤)} {G : Goal 𝓤 𝓛.H} where
  -- [the word; the value of the place]
  pub place_shows : K → {κ : Lft} (d : BlockOf E) (i rb ro : ℕ) (x : el_x E) → place d.places i ≡ Some x → i < length d.places
      → ((b o : ℕ) → d.start ≡ block_ptr b o → Small E d → Seq K 𝓛 (‵ (hidden_shr RawPtr κ d.start rb (ro + 0)) ∷ ‵ (hidden_shr (R E) κ x b (i * size E + o)) ∷ Γ) G) → Seq K 𝓛 (‵ (hidden_shr (BlockRow E) κ d rb ro) ∷ Γ) G
  place_shows t {κ} d i rb ro x holds within k =
      use1 𝓛 (‵ (hidden_shr RawPtr κ d.start rb (ro + 0)) ⊛ ‵ (block_lent (R E) d.start d.places κ)) (block_shown E 𝓛 κ d rb ro) $ split t $ move t (1 ∷ []) $
      in_a_block t d.start (λ p. block_lent (R E) p d.places κ) (id⊢ 𝓤 (never 𝓤)) (λ b o at_start. fsplit t $ flt_l t (λ small. let at : ℕ = i * size E + o in
      use1 𝓛 (‵ (place_lent (R E) b at (place d.places i) κ)) (place_seen E 𝓛 b κ d.places i o at within refl) $
      rewrite t 0 (λ (c : Content E). ‵ (place_lent (R E) b at c κ)) holds refl $ hide t $ move t (1 ∷ 0 ∷ []) $ k b o at_start small))
