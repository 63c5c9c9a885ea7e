-- `write` fills a vacant place.
use mathlib.Core.Path.{◌≡◌, refl}
use Prim.Native.Nat.{ℕ, ◌+◌, ◌*◌, ◌<◌, ◌^◌}
use mathlib.Core.List.{List, [], ◌∷◌}
use lib.ListN.{length}
use mir.Syntax.{Fn, w64}
use mir.MapTy.{inst_fn}
use mir.Val.{Val, vunit, vint, vptr}
use base.Fml.{ftrue, froom, flft}
use base.Logic.{SProp}
use seplogic.Ra.Ura.{Ura}
use prog.Memory.{Memory}
use prog.Routine.{Routine}
use prog.Wp.{WpFn, Tables}
use types.Logic.{Logic}
use contract.BorrowLft.{◌⊑◌}
use contract.Monad.{Fun, fact}
use contract.Running.{tables, tables_of}
use denote.RattleType.{owns}
use denote.Signature.{plain, types_at}
use denote.Steps.{nothing}
use denote.Triple.Clauses.{Clauses, Ended, closing}
use denote.Triple.Spec.{Meets, triple_of}
use denote.Triple.Table.{entered}
use denote.Triple.Walked.{says, Stays, stay_dropped, stay_ref, walk_of, ends_at, Goes-dropped, Goes-ref, walk_Meets}
use sound.WpLaws.{WpFn-mono}
use types.Kit.{‵, raw, ◌⊛◌, at_ret, ◌$◌, ◌∵◌, !, qed, move, keep, use1, use2, join, rewrite, fsplit3, fjoin, feq_i, suffices, done}
use types.Part.{whole, sub, look_in}
use types.Run.{init, stop, fld, load, size_lit, unit_lit, of_opd, bin, assigns_last, first, blocks, exec, returns, enter}
use types.ByLocal.{alloc_all, pass_all, free_all, look_at, get, through, sets, env}
use denote.Exit.{yes, no}
use denote.Builtin.{usize}
use Rattle.std.specs.Prelude.{Some, None}
use Rattle.core.proofs.mem.Param.{El, R, args, el_x, elτ, Good, lawful, one}
use Rattle.core.proofs.slice.Rows.{el_in}
use Rattle.core.proofs.slots.Bodies.{knowing, after}
use Rattle.sw_slots.specs.Place.{place}
use Rattle.sw_slots.specs.Ownership.{place_owned}
use Rattle.sw_slots.proofs.Rows.{size, Content}
use Rattle.sw_slots.proofs.Blocks.{BlockRow, BlockOf, holding, self_had, self_back, place_opens, place_shuts}
use Rattle.sw_slots.proofs.Walks.{Bound, Goes, with_words, Goes-spelled, reach}
use Rattle.sw_slots.specs.contracts.block.Block.write as F
use Rattle.sw_slots.specs.contracts.block.Block.write.Key.{name as #write}
use Rattle.sw_slots.proofs.block.Block.write.Statement as stated
use Rattle.sw_slots.proofs.block.Block.write.Code as code

module _ (E : El) where
  abbrev body : Fn
  body = inst_fn (args E) code.function

  abbrev ended : Ended
  ended = F.ended E.row

  abbrev stays : Stays ended.signature.params ended.kept
  stays = (stay_ref (0 ∷ []) tt (plain (λ _. BlockRow E)), (stay_dropped (plain (λ _. usize)) yes, (stay_dropped (plain (λ _. R E)) no, tt)))

  module _ {M : Type 1} {𝓤 : Ura M} (𝓛 : Logic 𝓤) (at_mem : Memory → SProp 𝓤) (run : Routine → Fun 𝓤) (𝓣 : Tables 𝓤 𝓛.H) where
    open 𝓛 use {H}

    abbrev held : Clauses 𝓤 ended
    held = F.clauses E.row 𝓛 at_mem run

    abbrev Run : Fun 𝓤
    Run = WpFn 𝓤 H 𝓣.C 𝓣.Λ body

    abbrev words : (z : Bound 𝓛 ended stays held) → Val → Bound 𝓛 ended stays held
    words z v = with_words 𝓛 ended stays held z (vptr z.0.3.0.ref_ptr.0 z.0.3.0.ref_ptr.1 ∷ [], (vint w64 z.0.3.1.0 ∷ [], (v ∷ [], tt)))

    walk : (z : Bound 𝓛 ended stays held) → z.0.3.1.0 < 2 ^ 64 → (v : Val) → Good E v → Goes 𝓛 ended stays held Run (words z v)
    walk z fits v good =
        let κs = z.0.0 in let qs = z.0.1 in let self = z.0.3.0 in let d : BlockOf E = self.now in let i : ℕ = z.0.3.1.0 in let x : el_x E = z.0.3.1.1.0 in
        let rb : ℕ = self.ref_ptr.0 in let ro : ℕ = self.ref_ptr.1 in let tokens = ‵ (flft κs.1.0 qs.1.0) ⊛ ‵ ftrue in let Asked : Type 0 = (i < length d.places) × (place d.places i ≡ None) in
        qed 𝓛 (((‵ (flft κs.0 qs.0) ⊛ tokens) ⊛ ‵ (owns (types_at ended.signature.params κs) z.0.3 (words z v).0.4)) ∷ (raw (fact 𝓤 (κs.1.0 ⊑ E.row.lives)) ⊛ raw (fact 𝓤 Asked)) ∷ []) ∵
        self_had E ! self (λ asked. move ! (3 ∷ []) $ fsplit3 ! $ keep ! (3 ∷ 4 ∷ 5 ∷ 1 ∷ 6 ∷ []) $
        enter ! 𝓣.C 𝓣.Λ body (vptr rb ro ∷ vint w64 i ∷ v ∷ []) _ $ alloc_all ! (λ l. pass_all ! refl ((tt, tt), ((tt, record { fits = fits }), (good, tt))) $
        place_opens E ! tt d i rb ro asked.0 (λ b o at_start small.
        let at : ℕ = i * size E + o in let offset = reach i (length d.places) (size E) asked.0 small in
        -- the place is vacant: its bytes may be written
        rewrite ! 0 (λ (c : Content E). ‵ (place_owned (R E) b at c)) asked.1 refl $ use1 𝓛 (‵ (froom (elτ E) b at)) (𝓛.laws.raw-room (elτ E) b at) $ first ! $ blocks ! $
        sets ! (of_opd ! (load ! (through ! refl (fld ! refl (stop !))) (look_in ! 2 (sub ! 0 refl (whole !))))) refl (tt, tt) $
        sets ! (bin ! (get ! refl) (size_lit ! (record { fits = offset.0 })) (record { fits = offset.1 })) refl (tt, record { fits = offset.1 }) $ sets ! (bin ! (get ! refl) (get ! refl) tt) refl (tt, tt) $
        sets ! (of_opd ! (get ! refl)) refl good $ assigns_last ! (of_opd ! (get ! refl)) (through ! refl (stop !)) (init ! 0 refl good) $
        exec ! 𝓣.C 𝓣.Λ (env body.locals l) (after 1 body.body) (at_ret (env body.locals l) ((walk_of 𝓛 ended stays held).post (words z v))) $ sets ! (of_opd ! (unit_lit !)) refl (tt, tt) $
        -- its bytes are the value's now
        move ! (0 ∷ 6 ∷ []) $ use2 𝓛 (‵ (place_owned (R E) b at (Some x))) (el_in E 𝓛 b x at v) $ place_shuts E ! tt d i (Some x) b o rb ro asked.0 at_start small $
        returns ! (look_at ! 0 refl) $ free_all ! refl $
        suffices ! _ (ends_at 𝓛 ended stays held (words z v) vunit tt (holding E d i (Some x), (tt, (tt, tt))) (tt, (tt, (tt, tt)))) $ says ! (refl, refl) $
        self_back E ! (record self { now = holding E d i (Some x) }) $ nothing ! $ nothing ! $ fjoin ! $ nothing ! $ fjoin ! $ move ! (1 ∷ 0 ∷ []) $ fjoin ! $
        feq_i ! (List Val) (vunit ∷ []) (vunit ∷ []) refl $ move ! (2 ∷ 3 ∷ []) $ join ! $ move ! (0 ∷ 2 ∷ 1 ∷ []) $ done !)))

    meets : Meets 𝓛 ended.signature Run (closing 𝓛 ended held)
    meets =
        walk_Meets 𝓛 ended stays (Goes-ref 𝓛 2 0 tt (plain (λ _. BlockRow E)), (Goes-dropped 𝓛 2 (plain (λ _. usize)) yes (λ κs x f. refl), (Goes-dropped 𝓛 2 (plain (λ _. R E)) no (λ κs x f. refl), tt))) held
        Run (WpFn-mono 𝓤 H 𝓛.laws 𝓣 body)
        (λ z. knowing 𝓛 ended stays held Run z (λ are.
        let got = one E z.0.4.1.1.0 ((lawful E 𝓛).typed z.0.3.1.1.0 z.0.4.1.1.0 are.1.1.0) in
        Goes-spelled 𝓛 ended stays held Run z (words z got.0).0.4 (λ k. (are.0.0 k, (are.1.0.0 k, (got.1 k, tt)))) (walk z are.1.0.1 got.0 got.2)))

pub write_spec : {M : Type 1} → stated.statement M
unfolding tables_of
write_spec 𝓤 𝓛 𝓜 𝓡 wired X L =
    let E : El = record { row = X; laws = L } in
    let 𝓣 : Tables 𝓤 𝓛.H = tables_of 𝓤 𝓛.H 𝓜 (tables 𝓤 𝓛.H 𝓜 𝓡 𝓡.env) in
    entered 𝓤 𝓛.H (triple_of 𝓛 (F.signature X) (F.spec X 𝓛 𝓜.mem 𝓡.returns)) 𝓣.C 𝓣.Λ (#write (args E)) (body E) (code.unfolded 𝓤 𝓛.H 𝓜 𝓡 wired (X, tt)) (meets E 𝓛 𝓜.mem 𝓡.returns 𝓣)
