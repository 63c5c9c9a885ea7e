use Rattle.std.proofs.Common.{◌≡◌, Ok, Err, sym, ap, ◌∙◌, arith}
use Rattle.std.specs.FinMap.{len}
use Rattle.std.proofs.lemmas.Grind.{common_steps}
use Rattle.sw_table.specs.Entries.{entries}
use Rattle.sw_flat.proofs.Merged.{moves_nothing}
use Rattle.sw_flat.proofs.map.FlatMap.merge.Goals as goal
use Rattle.sw_flat.proofs.map.FlatMap.merge.Goals.{then-not-has_room_for+else-more-eq0+in_ok-reserve, else-not-has_room_for}

ok_err : {A E : Type 0} (a : A) (e : E) → Ok a ≡ Err e → ⊥
ok_err a e p = cc

pub returns-then-more-eq0-clause-merged : goal.returns-then-more-eq0-clause-merged
returns-then-more-eq0-clause-merged g c = moves_nothing g.K.Keyed.class c.args.self.now c.args.other.now (sym c.count_lacked-more.ensures.count ∙ c.if-more-eq0.true)

pub returns-clause-limit : goal.returns-clause-limit
returns-clause-limit g c =
    let class = g.K.Keyed.class in (
      λ e. absurd (ok_err _ _ e),
      λ both. elim c.if-not-has_room_for.branch [
        | then-not-has_room_for+else-more-eq0+in_ok-reserve w ↦
            let own = w.len.ensures ∙ ap (λ v. len (entries class v)) c.self.view_is in
            let count = w.count_lacked-more.ensures.count in
            absurd (ok_err _ _ (sym w.in_ok-reserve.was ∙ w.reserve.ensures.refused.limit.1 (omega (arith, both.1, own, count))))
        | else-not-has_room_for w ↦
            let fits = c.has_room_for.ensures.fits w.if-not-has_room_for.false in
            let most = c.has_room_for.ensures.most in
            absurd (omega (arith, both.1, fits, most))
      ],
    )

pub returns-clause-room : goal.returns-clause-room
returns-clause-room g c = grind (arith, common_steps)
