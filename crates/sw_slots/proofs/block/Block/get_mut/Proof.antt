-- `get_mut` borrows the value of a filled place, and the block follows it.
use mathlib.Core.Path.{◌≡◌, refl}
use Prim.Native.Nat.{ℕ, ◌+◌, ◌*◌, ◌<◌, ◌^◌}
use mathlib.Core.List.{List, [], ◌∷◌}
use lib.ListN.{length}
use mir.Syntax.{Fn, w64, named}
use mir.MapTy.{inst_fn}
use mir.Val.{Val, vint, vptr}
use base.Fml.{Fml, GName, ftrue, fsep, flft}
use base.Logic.{SProp, ent, sep}
use seplogic.Ra.Ura.{Ura}
use prog.Memory.{Memory}
use prog.Routine.{Routine}
use prog.Wp.{WpFn, Tables}
use types.Logic.{Logic, sem}
use contract.BorrowLft.{◌⊑◌}
use contract.Monad.{Fun, fact}
use contract.Running.{tables, tables_of}
use denote.RattleType.{owns}
use denote.Signature.{plain, types_at}
use denote.Steps.{nothing}
use denote.Triple.Clauses.{Clauses, Ended, closing}
use denote.Triple.Spec.{Meets, triple_of}
use denote.Triple.Table.{entered}
use denote.Triple.Walked.{says, Stays, stay_dropped, walk_of, ends_at, Goes-dropped, Goes-spent_ref, walk_Meets}
use sound.WpLaws.{WpFn-mono}
use types.Kit.{‵, raw, some, later, await, pick, group, frame, fpack, ◌⊛◌, at_ret, ◌$◌, ◌∵◌, !, qed, move, keep, use1, use2, split3, join, rewrite, fsplit, fjoin, suffices, done}
use types.Part.{whole, sub, look_in}
use types.Run.{addr, stop, fld, load, size_lit, of_opd, bin, first, blocks, exec, returns, enter}
use types.ByLocal.{alloc_all, pass_all, free_all, look_at, get, through, sets, sets_last, env}
use denote.Exit.{yes, no}
use denote.Builtin.{usize, RefMutOf}
use denote.Follow.{follows, lends_Part}
use denote.Memory.{cell_at, mem, part_of}
use denote.RawPtr.{block_ptr}
use denote.Ref.{MutRef}
use base.Fraction.{full_share}
use Rattle.std.specs.Prelude.{Some, IsSome}
use Rattle.core.proofs.mem.Param.{El, R, args, el_x}
use Rattle.core.proofs.slots.Bodies.{knowing, after}
use Rattle.sw_slots.specs.Place.{place}
use Rattle.sw_slots.specs.Ownership.{place_owned, places_owned}
use Rattle.sw_slots.proofs.Filled.{filled}
use Rattle.sw_slots.proofs.Rows.{size, Content, others, place_in}
use Rattle.sw_slots.proofs.Blocks.{BlockRow, BlockOf, Small, word_of, holding, still_small, block_made, self_had, place_opens}
use Rattle.sw_slots.proofs.Walks.{Bound, Goes, with_words, Goes-spelled, reach}
use Rattle.sw_slots.specs.contracts.block.Block.get_mut as F
use Rattle.sw_slots.specs.contracts.block.Block.get_mut.Key.{name as #get_mut}
use Rattle.sw_slots.proofs.block.Block.get_mut.Statement as stated
use Rattle.sw_slots.proofs.block.Block.get_mut.Code as code

module _ (E : El) (d : BlockOf E) (i : ℕ) where
  abbrev writes : el_x E → BlockOf E
  writes w = holding E d i (Some w)

  module _ {M : Type 1} {𝓤 : Ura M} (𝓛 : Logic 𝓤) (rb ro b o : ℕ) where
    -- all of the block but the value
    abbrev Rest : Fml
    Rest = fsep (others E b o d.places i) (cell_at full_share (BlockRow E).mir (word_of (block_ptr b o) ∷ []) rb ro)

    -- the value comes back, and the block is whole again
    back : d.start ≡ block_ptr b o → i < length d.places → Small E d → (w : el_x E)
        → ent 𝓤 (sep 𝓤 (sem 𝓛 ((mem (R E)).own_at w b (i * size E + o))) (sem 𝓛 Rest)) (sem 𝓛 ((mem (BlockRow E)).own_at (writes w) rb ro))
    unfolding part_of
    back at_start within small w =
        qed 𝓛 (‵ (place_owned (R E) b (i * size E + o) (Some w)) ∷ ‵ Rest ∷ []) ∵ move ! (1 ∷ []) $ fsplit ! $ move ! (2 ∷ 0 ∷ []) $
        use2 𝓛 (‵ (places_owned (R E) b o (writes w).places)) (place_in E 𝓛 b d.places i o (i * size E + o) (Some w) within refl) $
        block_made E ! (writes w) b o at_start (still_small E d i (Some w) small) $ move ! (1 ∷ 0 ∷ []) $ fjoin ! $
        fpack ! (List Val) (λ us. fsep (cell_at full_share (BlockRow E).mir us rb ro) ((BlockRow E).own_val (writes w) us)) (word_of (block_ptr b o) ∷ []) $ done !

module _ (E : El) where
  abbrev body : Fn
  body = inst_fn (args E) code.function

  abbrev ended : Ended
  ended = F.ended E.row

  abbrev stays : Stays ended.signature.params ended.kept
  stays = (stay_dropped (RefMutOf (0 ∷ []) tt (plain (λ _. BlockRow E)) (λ _. tt)) no, (stay_dropped (plain (λ _. usize)) yes, tt))

  module _ {M : Type 1} {𝓤 : Ura M} (𝓛 : Logic 𝓤) (at_mem : Memory → SProp 𝓤) (run : Routine → Fun 𝓤) (𝓣 : Tables 𝓤 𝓛.H) where
    open 𝓛 use {H}

    abbrev held : Clauses 𝓤 ended
    held = F.clauses E.row 𝓛 at_mem run

    abbrev Run : Fun 𝓤
    Run = WpFn 𝓤 H 𝓣.C 𝓣.Λ body

    abbrev words : Bound 𝓛 ended stays held → Bound 𝓛 ended stays held
    words z = with_words 𝓛 ended stays held z (vptr z.0.3.0.ref_ptr.0 z.0.3.0.ref_ptr.1 ∷ [], (vint w64 z.0.3.1.0 ∷ [], tt))

    walk : (z : Bound 𝓛 ended stays held) → z.0.3.1.0 < 2 ^ 64 → Goes 𝓛 ended stays held Run (words z)
    walk z fits =
        let κs = z.0.0 in let qs = z.0.1 in let self = z.0.3.0 in let d : BlockOf E = self.now in let i : ℕ = z.0.3.1.0 in let γ : GName = self.ghost_name in let κ = κs.0 in let q = qs.0 in
        let rb : ℕ = self.ref_ptr.0 in let ro : ℕ = self.ref_ptr.1 in let tokens = ‵ (flft κs.1.0 qs.1.0) ⊛ ‵ ftrue in let Asked : Type 0 = IsSome (place d.places i) in
        qed 𝓛 (((‵ (flft κs.0 qs.0) ⊛ tokens) ⊛ ‵ (owns (types_at ended.signature.params κs) z.0.3 (words z).0.4)) ∷ (raw (fact 𝓤 (κs.1.0 ⊑ E.row.lives)) ⊛ raw (fact 𝓤 Asked)) ∷ []) ∵
        self_had E ! self (λ asked. keep ! (0 ∷ 1 ∷ 2 ∷ 4 ∷ []) $
        let found = filled d.places i asked in let x : el_x E = found.0 in let within = found.2 in
        enter ! 𝓣.C 𝓣.Λ body (vptr rb ro ∷ vint w64 i ∷ []) _ $ alloc_all ! (λ l. pass_all ! refl ((tt, tt), ((tt, record { fits = fits }), tt)) $
        place_opens E ! tt d i rb ro within (λ b o at_start small.
        let at : ℕ = i * size E + o in let offset = reach i (length d.places) (size E) within small in
        rewrite ! 0 (λ (c : Content E). ‵ (place_owned (R E) b at c)) found.1 refl $ first ! $ blocks ! $
        sets ! (of_opd ! (load ! (through ! refl (fld ! refl (stop !))) (look_in ! 2 (sub ! 0 refl (whole !))))) refl (tt, tt) $
        sets ! (bin ! (get ! refl) (size_lit ! (record { fits = offset.0 })) (record { fits = offset.1 })) refl (tt, record { fits = offset.1 }) $ sets ! (bin ! (get ! refl) (get ! refl) tt) refl (tt, tt) $
        sets_last ! (addr ! (through ! refl (stop !))) refl (tt, tt) $
        exec ! 𝓣.C 𝓣.Λ (env body.locals l) (after 1 body.body) (at_ret (env body.locals l) ((walk_of 𝓛 ended stays held).post (words z))) $ sets ! (of_opd ! (get ! refl)) refl (tt, tt) $
        -- the value is borrowed from the block's own loan, to which it returns
        move ! (1 ∷ 2 ∷ []) $ fjoin ! $ move ! (2 ∷ 3 ∷ 4 ∷ 1 ∷ 0 ∷ []) $ group ! 5 $
        use1 𝓛 (later (some (λ (δ : GName). ‵ ((MutRef (named 0) κ (R E)).own_val (record { ref_ptr = (b, at); ghost_name = δ; now = x }) (vptr b at ∷ [])) ⊛ ‵ (flft κ q) ⊛ ‵ (follows (BlockRow E) (R E) γ δ (writes E d i)))))
        (lends_Part 𝓛 (BlockRow E) (R E) (writes E d i) (named 0) κ q rb ro b at γ (sem 𝓛 (Rest E d i 𝓛 rb ro b o)) (back E d i 𝓛 rb ro b o at_start within small) ((BlockRow E).coded.code d) ((BlockRow E).coded.code d) x) $
        await ! tt $ pick ! (λ δ. split3 ! $ returns ! (look_at ! 0 refl) $ free_all ! refl $
        suffices ! _ (ends_at 𝓛 ended stays held (words z) (vptr b at) (record { ref_ptr = (b, at); ghost_name = δ; now = x }) (tt, (tt, tt)) (tt, (tt, tt))) $
        nothing ! $ nothing ! $ fjoin ! $ nothing ! $ fjoin ! $ join ! $ move ! (1 ∷ 3 ∷ []) $ join ! $ join ! $ frame ! $ says ! found.1 $ keep ! (0 ∷ []) $ done !))))

    meets : Meets 𝓛 ended.signature Run (closing 𝓛 ended held)
    meets =
        walk_Meets 𝓛 ended stays (Goes-spent_ref 𝓛 2 (0 ∷ []) tt (plain (λ _. BlockRow E)), (Goes-dropped 𝓛 2 (plain (λ _. usize)) yes (λ κs x f. refl), tt)) held
        Run (WpFn-mono 𝓤 H 𝓛.laws 𝓣 body)
        (λ z. knowing 𝓛 ended stays held Run z (λ are. Goes-spelled 𝓛 ended stays held Run z (words z).0.4 (λ k. (are.0.0 k, (are.1.0.0 k, tt))) (walk z are.1.0.1)))

pub get_mut_spec : {M : Type 1} → stated.statement M
unfolding tables_of
get_mut_spec 𝓤 𝓛 𝓜 𝓡 wired X L =
    let E : El = record { row = X; laws = L } in
    let 𝓣 : Tables 𝓤 𝓛.H = tables_of 𝓤 𝓛.H 𝓜 (tables 𝓤 𝓛.H 𝓜 𝓡 𝓡.env) in
    entered 𝓤 𝓛.H (triple_of 𝓛 (F.signature X) (F.spec X 𝓛 𝓜.mem 𝓡.returns)) 𝓣.C 𝓣.Λ (#get_mut (args E)) (body E) (code.unfolded 𝓤 𝓛.H 𝓜 𝓡 wired (X, tt)) (meets E 𝓛 𝓜.mem 𝓡.returns 𝓣)
