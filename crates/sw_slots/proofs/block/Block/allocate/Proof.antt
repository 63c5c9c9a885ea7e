-- `allocate` makes vacant places of the new block, and a grant of the allocator's token.
use mathlib.Core.Bool.{true, false}
use mathlib.Core.Path.{◌≡◌, refl, sym, subst, ap}
use Prim.Native.Nat.{ℕ, ◌*◌, ◌<◌, ◌^◌}
use native.Mathlib.Omega.{arith}
use mathlib.Core.List.{[], ◌∷◌}
use lib.Dec.{lit<}
use lib.ListN.{replicate, length-replicate}
use mir.Syntax.{Fn, Body, w64, ty_array}
use mir.MapTy.{inst_fn}
use mir.Val.{Val, vint, vptr, vstruct, vcons, vnil}
use base.Fml.{ftrue, flft, froom, Incl-trans}
use base.Logic.{SProp, ent}
use seplogic.Ra.Ura.{Ura}
use prog.Capped.{capped_fits}
use prog.Memory.{Memory, align, capped}
use prog.Routine.{Routine}
use prog.Wp.{Env, Wp, WpFn, Tables, after_seq, at_return}
use types.Logic.{Logic}
use contract.BorrowLft.{◌⊑◌}
use contract.Monad.{Fun, fact}
use contract.Running.{tables, tables_of}
use denote.RattleType.{RattleType, owns}
use denote.Signature.{plain, types_at}
use denote.Laws.{Is}
use denote.Steps.{heard, nothing, owned}
use denote.Struct.Declared as Declared
use denote.Struct.Struct.{Struct, Struct-Makes}
use denote.Triple.Call.{calls_at}
use denote.Triple.Statement.{Triple}
use denote.Triple.Clauses.{Clauses, Ended, closing}
use denote.Triple.Spec.{Meets, triple_of}
use denote.Triple.Table.{entered}
use denote.Triple.Walked.{says, Stays, stay_dropped, walk_of, ends_at, Goes-dropped, walk_Meets}
use sound.WpLaws.{WpFn-mono, fm_of}
use types.Kit.{Post as After, any_q, Item, ⋆, ‵, raw, ◌⊛◌, later, await, at_ret, by, use1, use2, ◌$◌, ◌∵◌, !, qed, move, keep, drop, split, join, fsplit, fjoin, suffices, done}
use types.Match.{live, vrt, in_variant}
use types.Part.{whole, agg}
use types.Run.{fld, stop, lit, of_opd, bin, size_word, align_word, first, switches_on, exec, and_then, no_more, returns, enter}
use types.ByLocal.{alloc_all, pass_all, free_all, look_at, get, get_in, get_tag, is, sets, sets_last, lands_as, env}
use denote.Exit.{yes}
use denote.Param.{layout}
use denote.Builtin.{RefOf, usize}
use denote.RawPtr.{Ptr, block_ptr}
use Rattle.std.specs.Prelude.{None, IfOk, Ok, Err}
use Rattle.std.specs.Vec.Ownership.{FitsInBlock}
use Rattle.core.proofs.mem.Param.{El, R, elτ}
use Rattle.core.proofs.alloc.Calls.{Al, token, takes_key, Takes, at_takes, Takes-goes, Takes-gives, Answer-typed, Answered, answers}
use Rattle.core.specs.contracts.alloc.AllocError as AE
use Rattle.core.specs.contracts.result.Result as RS
use Rattle.std_alloc.proofs.RcSteps.{Good, first_Good}
use Rattle.std_alloc.proofs.ResultValues.{ok_of, err_of}
use Rattle.core.proofs.slots.Leases.{args, P, uncapped, block_ty, block_size, block_align}
use Rattle.core.proofs.slots.Bodies.{knowing, after, head, arm_body}
use Rattle.sw_slots.specs.Granted.{IsGrantOf}
use Rattle.sw_slots.specs.Ownership.{places_owned, grant_owned}
use Rattle.sw_slots.proofs.Rows.{size, from_room}
use Rattle.sw_slots.proofs.Blocks.{BlockOf, block_made}
use Rattle.sw_slots.proofs.Grants.{GrantRow, Pair, grant, grant_made, of_token, pair_of, pair_made}
use Rattle.sw_slots.proofs.Walks.{Bound, Goes, with_words, Goes-spelled}
use Rattle.sw_slots.specs.contracts.block.Block.allocate as F
use Rattle.sw_slots.specs.contracts.block.Block.allocate.Key.{name as #allocate}
use Rattle.sw_slots.proofs.block.Block.allocate.Statement as stated
use Rattle.sw_slots.proofs.block.Block.allocate.Code as code

module _ (E : El) (Z : Al) where
  abbrev body : Fn
  body = inst_fn (args E Z) code.function

  abbrev ended : Ended
  ended = F.ended E.row Z.row Z.g Z.d Z.drops

  abbrev stays : Stays ended.signature.params ended.kept
  stays = (stay_dropped (RefOf (0 ∷ []) tt (plain (λ _. P E Z)) (λ _. tt)) yes, (stay_dropped (plain (λ _. usize)) yes, tt))

  abbrev Out : RattleType
  Out = RS.the_row (Pair E Z) AE.the_row

  abbrev Refusal : RattleType
  Refusal = Struct (Declared.shape AE.the_type)

  module _ {M : Type 1} {𝓤 : Ura M} (𝓛 : Logic 𝓤) (at_mem : Memory → SProp 𝓤) (run : Routine → Fun 𝓤) (𝓣 : Tables 𝓤 𝓛.H) (callee : Triple 𝓤 (𝓣.C (takes_key Z)) (Takes Z 𝓛 at_mem run)) where
    open 𝓛 use {H}

    abbrev held : Clauses 𝓤 ended
    held = F.clauses E.row Z.row Z.g Z.d Z.drops 𝓛 at_mem run

    abbrev Run : Fun 𝓤
    Run = WpFn 𝓤 H 𝓣.C 𝓣.Λ body

    -- the tokens of the lifetimes of the two type parameters
    abbrev rest : Bound 𝓛 ended stays held → Item 𝓤
    rest z = ‵ (flft z.0.0.1.0 z.0.1.1.0) ⊛ ‵ (flft z.0.0.1.1.0 z.0.1.1.1.0) ⊛ ‵ ftrue

    abbrev words : Bound 𝓛 ended stays held → Bound 𝓛 ended stays held
    words z = with_words 𝓛 ended stays held z (vptr z.0.3.0.ref_ptr.0 z.0.3.0.ref_ptr.1 ∷ [], (vint w64 z.0.3.1.0 ∷ [], tt))

    abbrev Made : Bound 𝓛 ended stays held → Out.Denot → Type 0
    Made z r = IfOk r (λ made. (made.0.places ≡ replicate z.0.3.1.0 None) × IsGrantOf made.1 made.0 z.0.3.0.now z.0.3.1.0)

    exits : (z : Bound 𝓛 ended stays held) (r : Out.Denot) (v : Val) → Made z r
        → ent 𝓤 (⋆ 𝓛 (‵ (Out.own_val r (v ∷ [])) ∷ ‵ (flft z.0.0.0 z.0.1.0) ∷ rest z ∷ [])) ((walk_of 𝓛 ended stays held).post (words z) v)
    exits z r v made =
        qed 𝓛 (‵ (Out.own_val r (v ∷ [])) ∷ ‵ (flft z.0.0.0 z.0.1.0) ∷ rest z ∷ []) ∵
        suffices ! _ (ends_at 𝓛 ended stays held (words z) v r (tt, (tt, tt)) (tt, (tt, tt))) $ says ! made $
        move ! (1 ∷ 2 ∷ []) $ join ! $ nothing ! $ nothing ! $ fjoin ! $ nothing ! $ fjoin ! $ keep ! (1 ∷ 0 ∷ 2 ∷ []) $ done !

    walk : (z : Bound 𝓛 ended stays held) → z.0.3.1.0 < 2 ^ 64 → Goes 𝓛 ended stays held Run (words z)
    walk z fits =
        let κ = z.0.0.0 in let q = z.0.1.0 in let of_T = z.0.0.1.0 in let of_A = z.0.0.1.1.0 in
        let handle : ℕ × ℕ = z.0.3.0.ref_ptr in let alloc : Z.row.Denot = z.0.3.0.now in let len : ℕ = z.0.3.1.0 in
        let Post : Val → SProp 𝓤 = (walk_of 𝓛 ended stays held).post (words z) in
        let Asked : Type 0 = (0 < len) × FitsInBlock (R E) len in
        let each : ℕ = size E in let alignment : ℕ = capped (align (elτ E)) in
        qed 𝓛 (((‵ (flft κ q) ⊛ rest z) ⊛ ‵ (owns (types_at ended.signature.params z.0.0) z.0.3 (words z).0.4)) ∷ (raw (fact 𝓤 (of_T ⊑ E.row.lives)) ⊛ raw (fact 𝓤 (of_A ⊑ Z.row.lives)) ⊛ raw (fact 𝓤 Asked)) ∷ []) ∵
        move ! (1 ∷ []) $ split ! $ drop ! $ split ! $ heard ! (of_A ⊑ Z.row.lives) (λ inside. heard ! Asked (λ asked.
        let small : len * each < 2 ^ 63 = asked.1.0 in let bytes : len * each < 2 ^ 64 = omega arith in
        split ! $ split ! $ move ! (2 ∷ []) $ fsplit ! $ fsplit ! $ keep ! (1 ∷ 3 ∷ 4 ∷ []) $
        -- [the handle; its token; the other tokens]
        enter ! 𝓣.C 𝓣.Λ body (vptr handle.0 handle.1 ∷ vint w64 len ∷ []) Post $ alloc_all ! (λ l. pass_all ! refl ((tt, tt), ((tt, record { fits = fits }), tt)) $
        let locals : Env 𝓤 H = env body.locals l in
        let cases : Body = head (after 2 body.body) in
        let Onward : After 𝓤 H = any_q (after_seq 𝓤 H (Wp 𝓤 H 𝓣.C 𝓣.Λ locals (after 3 body.body) (at_return 𝓤 H locals Post)) (at_return 𝓤 H locals Post)) in
        -- `allocate` borrows the handle, and returns a block or a refusal
        let call : (Takes Z 𝓛 at_mem run).Ghost = at_takes Z 𝓛 at_mem run κ q handle alloc (len * each) alignment (block_ty E len) in
        sets ! (is ! (bin ! (get ! refl) (size_word !) (record { fits = subst (λ (k : ℕ). k < 2 ^ 64) (sym (uncapped len each bytes)) bytes })) (ap (vint w64) (uncapped len each bytes))) refl (tt, record { fits = bytes }) $
        use2 𝓛 (raw ((Takes Z 𝓛 at_mem run).pre call)) (Takes-goes Z 𝓛 at_mem run κ q handle alloc (Incl-trans z.0.2.0 inside) (len * each) alignment (block_ty E len) (block_size E len bytes) (block_align E len) bytes (capped_fits (align (elτ E)))) $
        calls_at ! (fm_of 𝓤 H 𝓛.laws 𝓣) (Takes Z 𝓛 at_mem run) callee call (and_then ! (get ! refl) (and_then ! (get ! refl) (and_then ! (align_word !) (no_more !)))) (λ v.
        use1 𝓛 (later (raw (Answered Z 𝓛 at_mem run alloc (block_ty E len) v) ⊛ ‵ (flft κ q))) (Takes-gives Z 𝓛 at_mem run κ q handle alloc (len * each) alignment (block_ty E len) v) $ await ! tt $ split ! $
        answers Z ! at_mem run alloc (block_ty E len) v
        -- `Ok(bytes)`: the block is cut into vacant places, and the token kept as a grant
        (λ b o e.
        let start : Ptr = block_ptr b o in let d : BlockOf E = record { start = start; places = replicate len None } in let right : (GrantRow E Z).Denot = grant E Z start len alloc in
        let pair : Val = pair_of start in let typed : Good (layout (Pair E Z)) pair = (tt, ((tt, tt), ((tt, tt), tt))) in let ok = first_Good (layout (Pair E Z)) pair typed in
        lands_as ! e refl (Answer-typed true b o) $ first ! $ switches_on ! (get_tag ! (vrt ! refl (fld ! refl (stop !))) (whole !)) $ exec ! 𝓣.C 𝓣.Λ locals (arm_body 0 cases) Onward $
        sets ! (of_opd ! (get_in ! (vrt ! refl (fld ! refl (stop !))) (in_variant ! 0 0 refl refl (whole !)))) refl (tt, tt) $ sets ! (of_opd ! (get ! refl)) refl (tt, tt) $
        sets ! (agg ! (and_then ! (get ! refl) (no_more !))) refl (tt, (tt, tt)) $ sets ! (agg ! (no_more !)) refl (tt, tt) $ sets ! (agg ! (and_then ! (get ! refl) (no_more !))) refl (tt, (tt, tt)) $
        sets ! (agg ! (and_then ! (get ! refl) (and_then ! (get ! refl) (no_more !)))) refl typed $
        sets_last ! (agg ! (and_then ! (lit ! tt) (and_then ! (get ! refl) (no_more !)))) refl ok $
        exec ! 𝓣.C 𝓣.Λ locals (after 3 body.body) (at_ret locals Post) $ sets ! (of_opd ! (get ! refl)) refl ok $
        -- [the block's room; its token; the handle's token; the other tokens]
        use1 𝓛 (‵ (froom (ty_array (elτ E) len) b o)) (𝓛.laws.raw-room (ty_array (elτ E) len) b o) $ use1 𝓛 (‵ (places_owned (R E) b o d.places)) (from_room E 𝓛 b len o) $
        block_made E ! d b o refl (subst (λ (k : ℕ). k * each < 2 ^ 63) (sym (length-replicate len None)) small) $
        move ! (1 ∷ []) $ use1 𝓛 (‵ (grant_owned (R E) (token Z alloc) start len)) (of_token E Z 𝓛 alloc start len asked.0) $ grant_made E Z ! right $ move ! (1 ∷ 0 ∷ []) $ pair_made E Z ! d right start $
        use1 𝓛 (‵ (Out.own_val (Ok (d, right)) (live 0 (vcons pair vnil) ∷ []))) (ok_of 𝓛 (Pair E Z) AE.the_row (d, right) pair) $
        returns ! (look_at ! 0 refl) $ free_all ! refl $ keep ! (0 ∷ 1 ∷ 2 ∷ []) $ by ! (exits z (Ok (d, right)) (live 0 (vcons pair vnil)) (refl, (refl, refl, refl))))
        -- `Err(refused)`
        (λ e.
        let none : Val = live 1 (vcons (vstruct vnil) vnil) in
        lands_as ! e refl (Answer-typed false 0 0) $ first ! $ switches_on ! (get_tag ! (vrt ! refl (fld ! refl (stop !))) (whole !)) $ exec ! 𝓣.C 𝓣.Λ locals (arm_body 1 cases) Onward $
        sets ! (of_opd ! (get_in ! (vrt ! refl (fld ! refl (stop !))) (in_variant ! 1 0 refl refl (whole !)))) refl (tt, tt) $
        sets_last ! (agg ! (and_then ! (lit ! tt) (and_then ! (get ! refl) (no_more !)))) refl (tt, (record { fits = lit< tt }, (tt, tt))) $
        exec ! 𝓣.C 𝓣.Λ locals (after 3 body.body) (at_ret locals Post) $ sets ! (of_opd ! (get ! refl)) refl (tt, (record { fits = lit< tt }, (tt, tt))) $
        owned ! Refusal (Is Refusal) (Struct-Makes 𝓛 (Declared.shape AE.the_type) tt) tt (vstruct vnil ∷ []) (tt, (refl, tt)) $
        use1 𝓛 (‵ (Out.own_val (Err (record {})) (none ∷ []))) (err_of 𝓛 (Pair E Z) AE.the_row (record {}) (vstruct vnil)) $
        returns ! (look_at ! 0 refl) $ free_all ! refl $ keep ! (0 ∷ 1 ∷ 2 ∷ []) $ by ! (exits z (Err (record {})) none tt))))))

    meets : Meets 𝓛 ended.signature Run (closing 𝓛 ended held)
    meets =
        walk_Meets 𝓛 ended stays (Goes-dropped 𝓛 3 (RefOf (0 ∷ []) tt (plain (λ _. P E Z)) (λ _. tt)) yes (λ κs x f. refl), (Goes-dropped 𝓛 3 (plain (λ _. usize)) yes (λ κs x f. refl), tt)) held
        Run (WpFn-mono 𝓤 H 𝓛.laws 𝓣 body)
        (λ z. knowing 𝓛 ended stays held Run z (λ are. Goes-spelled 𝓛 ended stays held Run z (words z).0.4 (λ k. (are.0.0 k, (are.1.0.0 k, tt))) (walk z are.1.0.1)))

pub allocate_spec : {M : Type 1} → stated.statement M
unfolding tables_of
allocate_spec 𝓤 𝓛 𝓜 𝓡 wired X Y LX LY g d dd met md =
    let E : El = record { row = X; laws = LX } in let Z : Al = record { row = Y; laws = LY; g = g; d = d; drops = dd } in
    let 𝓣 : Tables 𝓤 𝓛.H = tables_of 𝓤 𝓛.H 𝓜 (tables 𝓤 𝓛.H 𝓜 𝓡 𝓡.env) in
    entered 𝓤 𝓛.H (triple_of 𝓛 (ended E Z).signature (F.spec X Y g d dd 𝓛 𝓜.mem 𝓡.returns)) 𝓣.C 𝓣.Λ (#allocate (args E Z)) (body E Z) (code.unfolded 𝓤 𝓛.H 𝓜 𝓡 wired (X, (Y, tt)) d dd)
    (meets E Z 𝓛 𝓜.mem 𝓡.returns 𝓣 (met.allocate dd))
