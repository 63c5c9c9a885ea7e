-- `deallocate` makes room of the vacant places, and hands it back with the allocator's token.
use mathlib.Core.Path.{◌≡◌, refl, sym, subst, ap, ◌∙◌}
use Prim.Native.Nat.{ℕ, ◌*◌, ◌<◌, ◌^◌}
use native.Mathlib.Omega.{arith}
use mathlib.Core.List.{List, [], ◌∷◌, ◌++◌}
use lib.Dec.{T}
use lib.ListN.{length, replicate, length-replicate}
use mir.Syntax.{Fn, w64, ty_array, ty_unit}
use mir.MapTy.{inst_fn}
use mir.Val.{Val, vint, vptr, vunit, has_ty, WT}
use base.Fml.{ftrue, flft, froom, Incl-trans}
use base.Logic.{SProp, ent, id⊢}
use seplogic.Ra.Ura.{Ura}
use prog.Capped.{capped_fits}
use prog.Memory.{Memory, align, capped}
use prog.Routine.{Routine}
use prog.Wp.{WpFn, Tables}
use types.Logic.{Logic}
use contract.BorrowLft.{◌⊑◌}
use contract.Monad.{Fun, fact}
use contract.Running.{tables, tables_of}
use denote.RattleType.{owns}
use denote.Signature.{plain, types_at}
use denote.Steps.{heard, nothing}
use denote.Triple.Call.{calls_at_last}
use denote.Triple.Statement.{Triple}
use denote.Triple.Clauses.{Clauses, Ended, closing}
use denote.Triple.Spec.{Meets, triple_of}
use denote.Triple.Table.{entered}
use denote.Triple.Walked.{Stays, stay_dropped, walk_of, ends_at, Goes-dropped, walk_Meets}
use sound.WpLaws.{WpFn-mono, fm_of}
use types.Kit.{Item, ⋆, ‵, raw, ◌⊛◌, later, given, learn, await, at_ret, group, rewrite, by, use1, fsplit3, feq_l, feq_i, flt_l, ◌$◌, ◌∵◌, !, qed, move, keep, drop, split, join, fsplit, fjoin, suffices, done}
use types.Part.{whole, sub}
use types.Run.{fld, stop, lit, of_opd, bin, unit_lit, size_word, align_word, first, blocks, branches, skips, exec, and_then, no_more, returns, enter}
use types.ByLocal.{alloc_all, pass_all, free_all, look_at, get, get_in, is, sets, lands_last, env}
use denote.Exit.{yes, no}
use denote.Builtin.{RefOf, usize}
use denote.RawPtr.{Ptr, block_ptr}
use Rattle.std.specs.Prelude.{None}
use Rattle.core.proofs.mem.Param.{El, R, elτ}
use Rattle.core.proofs.alloc.Calls.{Al, token, gives_key, Gives, at_gives, Gives-goes, Gives-Gives, Goes-blank}
use Rattle.core.proofs.slots.Leases.{args, P, uncapped, block_ty, block_size, block_align}
use Rattle.core.proofs.slots.Bodies.{after}
use Rattle.sw_slots.specs.Granted.{IsGrantOf}
use Rattle.sw_slots.specs.Ownership.{places_owned, grant_owned}
use Rattle.sw_slots.proofs.Rows.{size, Content, into_room}
use Rattle.sw_slots.proofs.Blocks.{BlockRow, BlockOf, word_of, block_had}
use Rattle.sw_slots.proofs.Grants.{GrantRow, mark, grant_had, token_of, positive}
use Rattle.sw_slots.proofs.Walks.{Bound, Goes}
use Rattle.sw_slots.specs.contracts.block.Block.deallocate as F
use Rattle.sw_slots.specs.contracts.block.Block.deallocate.Key.{name as #deallocate}
use Rattle.sw_slots.proofs.block.Block.deallocate.Statement as stated
use Rattle.sw_slots.proofs.block.Block.deallocate.Code as code

module _ (E : El) (Z : Al) where
  abbrev body : Fn
  body = inst_fn (args E Z) code.function

  abbrev ended : Ended
  ended = F.ended E.row Z.row Z.g Z.d Z.drops

  abbrev stays : Stays ended.signature.params ended.kept
  stays = (stay_dropped (plain (λ _. BlockRow E)) no, (stay_dropped (RefOf (0 ∷ []) tt (plain (λ _. P E Z)) (λ _. tt)) yes, (stay_dropped (plain (λ _. usize)) yes, (stay_dropped (plain (λ _. GrantRow E Z)) no, tt))))

  module _ {M : Type 1} {𝓤 : Ura M} (𝓛 : Logic 𝓤) (at_mem : Memory → SProp 𝓤) (run : Routine → Fun 𝓤) (𝓣 : Tables 𝓤 𝓛.H) (callee : Triple 𝓤 (𝓣.C (gives_key Z)) (Gives Z 𝓛 at_mem run)) where
    open 𝓛 use {H}

    abbrev held : Clauses 𝓤 ended
    held = F.clauses E.row Z.row Z.g Z.d Z.drops 𝓛 at_mem run

    abbrev Run : Fun 𝓤
    Run = WpFn 𝓤 H 𝓣.C 𝓣.Λ body

    -- the tokens of the lifetimes of the two type parameters
    abbrev rest : Bound 𝓛 ended stays held → Item 𝓤
    rest z = ‵ (flft z.0.0.1.0 z.0.1.1.0) ⊛ ‵ (flft z.0.0.1.1.0 z.0.1.1.1.0) ⊛ ‵ ftrue

    exits : (z : Bound 𝓛 ended stays held) → ent 𝓤 (⋆ 𝓛 (‵ (flft z.0.0.0 z.0.1.0) ∷ rest z ∷ [])) ((walk_of 𝓛 ended stays held).post z vunit)
    exits z =
        qed 𝓛 (‵ (flft z.0.0.0 z.0.1.0) ∷ rest z ∷ []) ∵
        suffices ! _ (ends_at 𝓛 ended stays held z vunit tt (tt, (tt, (tt, (tt, tt)))) (tt, (tt, (tt, (tt, tt))))) $
        join ! $ feq_i ! (List Val) (vunit ∷ []) (vunit ∷ []) refl $ nothing ! $ nothing ! $ fjoin ! $ nothing ! $ fjoin ! $ nothing ! $ fjoin ! $ nothing ! $ fjoin ! $
        join ! $ move ! (1 ∷ 0 ∷ []) $ join ! $ nothing ! $ keep ! (1 ∷ 0 ∷ []) $ done !

    walk : (z : Bound 𝓛 ended stays held) → Goes 𝓛 ended stays held Run z
    walk z =
        let κ = z.0.0.0 in let q = z.0.1.0 in let of_T = z.0.0.1.0 in let of_A = z.0.0.1.1.0 in
        let d : BlockOf E = z.0.3.0 in let handle : ℕ × ℕ = z.0.3.1.0.ref_ptr in let alloc : Z.row.Denot = z.0.3.1.0.now in let len : ℕ = z.0.3.1.1.0 in let right : (GrantRow E Z).Denot = z.0.3.1.1.1.0 in let vss = z.0.4 in
        let Post : Val → SProp 𝓤 = (walk_of 𝓛 ended stays held).post z in
        let Asked : Type 0 = (d.places ≡ replicate len None) × IsGrantOf right d alloc len in
        let each : ℕ = size E in let alignment : ℕ = capped (align (elτ E)) in
        qed 𝓛 (((‵ (flft κ q) ⊛ rest z) ⊛ ‵ (owns (types_at ended.signature.params z.0.0) z.0.3 vss)) ∷ (raw (fact 𝓤 (of_T ⊑ E.row.lives)) ⊛ raw (fact 𝓤 (of_A ⊑ Z.row.lives)) ⊛ raw (fact 𝓤 Asked)) ∷ []) ∵
        move ! (1 ∷ []) $ split ! $ drop ! $ split ! $ heard ! (of_A ⊑ Z.row.lives) (λ inside. heard ! Asked (λ asked.
        split ! $ split ! $ move ! (2 ∷ []) $ fsplit3 ! $ block_had E ! d vss.0 (λ b o lies e₀ bound.
        rewrite ! 0 (λ (cs : List (Content E)). ‵ (places_owned (R E) b o cs)) asked.0 refl $ use1 𝓛 (‵ (froom (ty_array (elτ E) len) b o)) (into_room E 𝓛 b len o) $
        use1 𝓛 (‵ (froom (block_ty E len) b o)) (𝓛.laws.room-raw (ty_array (elτ E) len) b o) $
        let small : len * each < 2 ^ 63 = subst (λ (k : ℕ). k * each < 2 ^ 63) (ap length asked.0 ∙ length-replicate len None) bound in let bytes : len * each < 2 ^ 64 = omega arith in
        move ! (1 ∷ []) $ fsplit ! $ feq_l ! (λ e₁. move ! (2 ∷ []) $ fsplit3 ! $ fsplit ! $ feq_l ! (λ e₂. flt_l ! (λ fits. grant_had E Z ! right vss.1.1.1.0 (λ e₃.
        rewrite ! 0 (λ (g : Z.row.Denot × Ptr × ℕ). ‵ (grant_owned (R E) (token Z g.0) g.1 g.2)) (λ k. (asked.1.2 k, (asked.1.0 ∙ lies) k, asked.1.1 k)) refl $
        keep ! (0 ∷ 3 ∷ 2 ∷ 4 ∷ 5 ∷ []) $
        -- [the grant; the room; the handle; its token; the other tokens]
        let us : List Val = word_of (block_ptr b o) ∷ vptr handle.0 handle.1 ∷ vint w64 len ∷ mark ∷ [] in
        suffices ! (Run us Post) (subst (λ (ws : List Val). ent 𝓤 (Run us Post) (Run ws Post)) (sym (λ k. e₀ k ++ (e₁ k ++ (e₂ k ++ (e₃ k ++ []))))) (id⊢ 𝓤 (Run us Post))) $
        enter ! 𝓣.C 𝓣.Λ body us Post $ alloc_all ! (λ l. pass_all ! refl ((tt, (tt, tt)), ((tt, tt), ((tt, record { fits = fits }), ((tt, (tt, tt)), tt)))) $
        let call : (Gives Z 𝓛 at_mem run).Ghost = at_gives Z 𝓛 at_mem run κ q handle alloc b o (len * each) alignment (block_ty E len) in
        sets ! (of_opd ! (get_in ! (fld ! refl (stop !)) (sub ! 0 refl (whole !)))) refl (tt, tt) $ sets ! (bin ! (get ! refl) (lit ! tt) tt) refl (tt, tt) $ first ! $ branches ! (get ! refl)
        -- there are places, so the grant is the allocator's token, and the room goes back with it
        (λ some. use1 𝓛 (‵ (token Z alloc (block_ty E len) (block_ptr b o))) (token_of E Z 𝓛 alloc (block_ptr b o) len (positive len some)) $ blocks ! $
        sets ! (of_opd ! (get ! refl)) refl (tt, tt) $
        sets ! (is ! (bin ! (get ! refl) (size_word !) (record { fits = subst (λ (k : ℕ). k < 2 ^ 64) (sym (uncapped len each bytes)) bytes })) (ap (vint w64) (uncapped len each bytes))) refl (tt, record { fits = bytes }) $
        move ! (1 ∷ 0 ∷ 2 ∷ 3 ∷ []) $ group ! 4 $ use1 𝓛 (raw ((Gives Z 𝓛 at_mem run).pre call))
        (Gives-goes Z 𝓛 at_mem run κ q handle alloc (Incl-trans z.0.2.0 inside) b o (len * each) alignment (block_ty E len) (block_size E len bytes) (block_align E len) bytes (capped_fits (align (elτ E)))) $
        calls_at_last ! (fm_of 𝓤 H 𝓛.laws 𝓣) (Gives Z 𝓛 at_mem run) callee call (and_then ! (get ! refl) (and_then ! (get ! refl) (and_then ! (get ! refl) (and_then ! (align_word !) (no_more !))))) (λ v.
        use1 𝓛 (later (given (v ≡ vunit) (‵ (flft κ q)))) (Gives-Gives Z 𝓛 at_mem run κ q handle alloc b o (len * each) alignment (block_ty E len) v) $ await ! tt $ learn ! (λ none_left.
        lands_last ! refl (subst (λ (u : Val). T (has_ty ty_unit u) × WT u) (sym none_left) (tt, tt)) $ exec ! 𝓣.C 𝓣.Λ (env body.locals l) (after 3 body.body) (at_ret (env body.locals l) Post) $
        sets ! (of_opd ! (unit_lit !)) refl (tt, tt) $ returns ! (look_at ! 0 refl) $ free_all ! refl $ keep ! (0 ∷ 1 ∷ []) $ by ! (exits z))))
        -- there are none, and no memory
        (λ none. skips ! $ exec ! 𝓣.C 𝓣.Λ (env body.locals l) (after 3 body.body) (at_ret (env body.locals l) Post) $
        sets ! (of_opd ! (unit_lit !)) refl (tt, tt) $ returns ! (look_at ! 0 refl) $ free_all ! refl $ keep ! (3 ∷ 4 ∷ []) $ by ! (exits z))))))))))

    meets : Meets 𝓛 ended.signature Run (closing 𝓛 ended held)
    meets =
        walk_Meets 𝓛 ended stays (
          Goes-dropped 𝓛 3 (plain (λ _. BlockRow E)) no (λ κs x f. refl),
          (Goes-dropped 𝓛 3 (RefOf (0 ∷ []) tt (plain (λ _. P E Z)) (λ _. tt)) yes (λ κs x f. refl), (Goes-dropped 𝓛 3 (plain (λ _. usize)) yes (λ κs x f. refl), (Goes-blank 𝓛 3 (plain (λ _. GrantRow E Z)) no (λ κs x f. tt), tt))),
        ) held Run (WpFn-mono 𝓤 H 𝓛.laws 𝓣 body) walk

pub deallocate_spec : {M : Type 1} → stated.statement M
unfolding tables_of
deallocate_spec 𝓤 𝓛 𝓜 𝓡 wired X Y LX LY g d dd met md =
    let E : El = record { row = X; laws = LX } in let Z : Al = record { row = Y; laws = LY; g = g; d = d; drops = dd } in
    let 𝓣 : Tables 𝓤 𝓛.H = tables_of 𝓤 𝓛.H 𝓜 (tables 𝓤 𝓛.H 𝓜 𝓡 𝓡.env) in
    entered 𝓤 𝓛.H (triple_of 𝓛 (ended E Z).signature (F.spec X Y g d dd 𝓛 𝓜.mem 𝓡.returns)) 𝓣.C 𝓣.Λ (#deallocate (args E Z)) (body E Z) (code.unfolded 𝓤 𝓛.H 𝓜 𝓡 wired (X, (Y, tt)) d dd)
    (meets E Z 𝓛 𝓜.mem 𝓡.returns 𝓣 (met.deallocate dd))
