-- `empty` makes a block of no places, which owns nothing.
use mathlib.Core.Path.{refl}
use native.Mathlib.Omega.{arith}
use native.Mathlib.Nat.{zero-mul}
use mathlib.Core.List.{[], ◌∷◌}
use mir.Syntax.{Fn}
use mir.MapTy.{inst_fn}
use mir.Val.{vptr}
use base.Fml.{ftrue, flft}
use base.Logic.{SProp}
use seplogic.Ra.Ura.{Ura}
use prog.Memory.{Memory}
use prog.Routine.{Routine}
use prog.Wp.{WpFn, Tables}
use types.Logic.{Logic}
use contract.BorrowLft.{◌⊑◌}
use contract.Monad.{Fun, fact}
use contract.Running.{tables, tables_of}
use denote.RattleType.{owns}
use denote.Signature.{plain, types_at}
use denote.Steps.{nothing}
use denote.Triple.Clauses.{Clauses, Ended, closing}
use denote.Triple.Spec.{Meets, triple_of}
use denote.Triple.Table.{entered}
use denote.Triple.Walked.{says, Stays, stay_dropped, ends_at, Goes-dropped, walk_Meets}
use sound.WpLaws.{WpFn-mono}
use types.Kit.{‵, raw, ◌⊛◌, ◌$◌, ◌∵◌, !, qed, move, keep, drop, split, join, fsplit, fjoin, suffices, done}
use types.Part.{agg}
use types.Run.{from, stop, addr, and_then, no_more, returns, enter}
use types.ByLocal.{alloc_all, pass_all, free_all, look_at, get, sets}
use denote.Exit.{yes}
use denote.Builtin.{RefOf}
use denote.RawPtr.{Ptr, block_ptr}
use Rattle.core.proofs.mem.Param.{El}
use Rattle.core.proofs.alloc.Calls.{Al}
use Rattle.core.proofs.slots.Leases.{args, P}
use Rattle.sw_slots.proofs.Rows.{size}
use Rattle.sw_slots.proofs.Blocks.{BlockOf, block_made}
use Rattle.sw_slots.proofs.Grants.{GrantRow, grant, grant_made, pair_of, pair_made}
use Rattle.core.proofs.slots.Bodies.{knowing}
use Rattle.sw_slots.proofs.Walks.{Bound, Goes, with_words, Goes-spelled}
use Rattle.sw_slots.specs.contracts.block.Block.empty as F
use Rattle.sw_slots.specs.contracts.block.Block.empty.Key.{name as #empty}
use Rattle.sw_slots.proofs.block.Block.empty.Statement as stated
use Rattle.sw_slots.proofs.block.Block.empty.Code as code

module _ (E : El) (Z : Al) where
  abbrev body : Fn
  body = inst_fn (args E Z) code.function

  abbrev ended : Ended
  ended = F.ended E.row Z.row Z.g Z.d Z.drops

  abbrev stays : Stays ended.signature.params ended.kept
  stays = (stay_dropped (RefOf (0 ∷ []) tt (plain (λ _. P E Z)) (λ _. tt)) yes, tt)

  module _ {M : Type 1} {𝓤 : Ura M} (𝓛 : Logic 𝓤) (at_mem : Memory → SProp 𝓤) (run : Routine → Fun 𝓤) (𝓣 : Tables 𝓤 𝓛.H) where
    open 𝓛 use {H}

    abbrev held : Clauses 𝓤 ended
    held = F.clauses E.row Z.row Z.g Z.d Z.drops 𝓛 at_mem run

    abbrev Run : Fun 𝓤
    Run = WpFn 𝓤 H 𝓣.C 𝓣.Λ body

    abbrev words : Bound 𝓛 ended stays held → Bound 𝓛 ended stays held
    words z = with_words 𝓛 ended stays held z (vptr z.0.3.0.ref_ptr.0 z.0.3.0.ref_ptr.1 ∷ [], tt)

    walk : (z : Bound 𝓛 ended stays held) → Goes 𝓛 ended stays held Run (words z)
    walk z =
        let κ = z.0.0.0 in let κ₁ = z.0.0.1.0 in let κ₂ = z.0.0.1.1.0 in let q = z.0.1.0 in let q₁ = z.0.1.1.0 in let q₂ = z.0.1.1.1.0 in
        let alloc = z.0.3.0 in
        qed 𝓛 (((‵ (flft κ q) ⊛ ‵ (flft κ₁ q₁) ⊛ ‵ (flft κ₂ q₂) ⊛ ‵ ftrue) ⊛ ‵ (owns (types_at ended.signature.params z.0.0) z.0.3 (words z).0.4))
        ∷ (raw (fact 𝓤 (κ₁ ⊑ E.row.lives)) ⊛ raw (fact 𝓤 (κ₂ ⊑ Z.row.lives)) ⊛ ‵ ftrue) ∷ []) ∵
        move ! (1 ∷ []) $ drop ! $ split ! $ split ! $ move ! (2 ∷ []) $ fsplit ! $ keep ! (2 ∷ 3 ∷ []) $
        enter ! 𝓣.C 𝓣.Λ body (vptr alloc.ref_ptr.0 alloc.ref_ptr.1 ∷ []) _ $ alloc_all ! (λ l. pass_all ! refl ((tt, tt), tt) $
        sets ! (agg ! (no_more !)) refl (tt, tt) $ sets ! (addr ! (from ! (stop !))) refl (tt, tt) $
        sets ! (agg ! (and_then ! (get ! refl) (no_more !))) refl (tt, (tt, tt)) $
        sets ! (agg ! (no_more !)) refl (tt, tt) $ sets ! (agg ! (and_then ! (get ! refl) (no_more !))) refl (tt, (tt, tt)) $
        sets ! (agg ! (and_then ! (get ! refl) (and_then ! (get ! refl) (no_more !)))) refl (tt, ((tt, tt), ((tt, tt), tt))) $
        returns ! (look_at ! 0 refl) $ free_all ! refl $ keep ! (0 ∷ 1 ∷ []) $
        let start : Ptr = block_ptr (l 2) 0 in let d : BlockOf E = record { start = start; places = [] } in let right : (GrantRow E Z).Denot = grant E Z start 0 alloc.now in
        nothing ! $ block_made E ! d (l 2) 0 refl (omega (arith, zero-mul (size E))) $ nothing ! $ grant_made E Z ! right $ move ! (1 ∷ 0 ∷ []) $ pair_made E Z ! d right start $
        suffices ! _ (ends_at 𝓛 ended stays held (words z) (pair_of start) (d, right) (tt, tt) (tt, tt)) $ says ! (refl, (refl, refl, refl)) $
        move ! (1 ∷ 2 ∷ []) $ join ! $ nothing ! $ nothing ! $ fjoin ! $ keep ! (1 ∷ 0 ∷ 2 ∷ []) $ done !)

    meets : Meets 𝓛 ended.signature Run (closing 𝓛 ended held)
    meets =
        walk_Meets 𝓛 ended stays (Goes-dropped 𝓛 3 (RefOf (0 ∷ []) tt (plain (λ _. P E Z)) (λ _. tt)) yes (λ κs x f. refl), tt) held Run (WpFn-mono 𝓤 H 𝓛.laws 𝓣 body)
        (λ z. knowing 𝓛 ended stays held Run z (λ are. Goes-spelled 𝓛 ended stays held Run z (words z).0.4 (λ k. (are.0.0 k, tt)) (walk z)))

pub empty_spec : {M : Type 1} → stated.statement M
unfolding tables_of
empty_spec 𝓤 𝓛 𝓜 𝓡 wired X Y LX LY g d dd met md =
    let E : El = record { row = X; laws = LX } in let Z : Al = record { row = Y; laws = LY; g = g; d = d; drops = dd } in
    let 𝓣 : Tables 𝓤 𝓛.H = tables_of 𝓤 𝓛.H 𝓜 (tables 𝓤 𝓛.H 𝓜 𝓡 𝓡.env) in
    entered 𝓤 𝓛.H (triple_of 𝓛 (ended E Z).signature (F.spec X Y g d dd 𝓛 𝓜.mem 𝓡.returns)) 𝓣.C 𝓣.Λ (#empty (args E Z)) (body E Z) (code.unfolded 𝓤 𝓛.H 𝓜 𝓡 wired (X, (Y, tt)) d dd)
    (meets E Z 𝓛 𝓜.mem 𝓡.returns 𝓣)
