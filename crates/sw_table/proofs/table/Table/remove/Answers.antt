use Rattle.std.proofs.Common.{◌≡◌, ◌+◌, ◌*◌, ◌/◌, ◌≤◌, Bool, true, false, length, map, nat_eq, slice_set, refl, sym, ap, subst, ◌∙◌, arith}
use mir.Val.{bool_byte}
use mathlib.Core.Bool.{true≢false}
use Rattle.std.specs.FinMap.{remove}
use Rattle.std.proofs.lemmas.Grind.{common_steps}
use Rattle.sw_ctrl.specs.declared.control.TheConstants.{EMPTY, DELETED}
use Rattle.sw_table.specs.Entries.{entries, entries_in}
use Rattle.sw_table.specs.LaidOut.{NoEmpty}
use Rattle.sw_table.proofs.Entries.{entries_take}
use Rattle.sw_table.proofs.Searches.{some_lane, no_lane, lane_has, lane_set, lane_count}
use Rattle.sw_table.proofs.SlotChanges.{IsTable-emptied, taken_within, taken_low, full-emptied, used-emptied}
use Rattle.sw_table.proofs.Capacities.{whole}
use Rattle.sw_table.proofs.MovedEntries.{full-le-used}
use Rattle.sw_table.proofs.table.Table.remove.Goals as goal
use Rattle.sw_table.proofs.table.Table.remove.Goals.{then-emptied, else-emptied}

one_at_most : (b : Bool) → bool_byte b ≤ 1
one_at_most true = omega arith
one_at_most false = omega arith

pub overflow_sub-self : goal.overflow_sub-self
overflow_sub-self g c =
    let t = c.self.inside in let i = c.self.invariant in let there = c.take-pair.ensures.value in
    omega (arith, one_at_most c.any-emptied.result, i.used_is, full-le-used t.ctrl, full-emptied t.ctrl c.args.slot.index 254 (taken_within _ _ t.slots t.ctrl t.len t.used i _ _ there) (taken_low _ _ t.slots t.ctrl t.len t.used i _ _ there) (omega arith))

pub overflow_sub-self-2 : goal.overflow_sub-self-2
overflow_sub-self-2 g c =
    let t = c.self.inside in let i = c.self.invariant in let there = c.take-pair.ensures.value in
    omega (arith, i.full_is, full-emptied t.ctrl c.args.slot.index 254 (taken_within _ _ t.slots t.ctrl t.len t.used i _ _ there) (taken_low _ _ t.slots t.ctrl t.len t.used i _ _ there) (omega arith))

pub invariant_of-self : goal.invariant_of-self
invariant_of-self g c =
    let t = c.self.inside in let i = c.self.invariant in let at = c.args.slot.index in let there = c.take-pair.ensures.value in
    let within = taken_within _ _ t.slots t.ctrl t.len t.used i at _ there in
    let low = taken_low _ _ t.slots t.ctrl t.len t.used i at _ there in
    let room : 16 * (at / 16) + 16 ≤ length t.ctrl = omega (arith, within, whole (length t.ctrl) i.laid.size.1) in
    elim c.if-emptied.branch [
      | then-emptied w ↦
          let y : c.if-emptied.set ≡ EMPTY = w.set-is in
          let yes : c.any-emptied.result ≡ true = w.if-emptied.true in
          let l = some_lane c.match_empty.result (c.any-emptied.ensures.0 yes) in
          let e = lane_has t.ctrl (at / 16) 128 room c.match_empty.result (c.match_empty.ensures ∙ ap (map (λ b. nat_eq b 128)) c.group.ensures) l.0 l.2 in
          rw (c.take-pair.ensures.places, c.set.ensures, y)
          (IsTable-emptied _ _ t.slots t.ctrl t.len t.used i at _ there EMPTY refl (omega arith) (λ _ none. none l.0 e.0 e.1) _ _
          (omega (arith, i.full_is, full-emptied t.ctrl at 254 within low (omega arith)))
          (rw yes (omega (arith, i.used_is, used-emptied t.ctrl at EMPTY within low))))
      | else-emptied w ↦
          let y : c.if-emptied.set ≡ DELETED = w.set-is in
          let no : c.any-emptied.result ≡ false = w.if-emptied.false in
          rw (c.take-pair.ensures.places, c.set.ensures, y)
          (IsTable-emptied _ _ t.slots t.ctrl t.len t.used i at _ there DELETED refl (omega arith) (λ e none. omega (arith, e)) _ _
          (omega (arith, i.full_is, full-emptied t.ctrl at 254 within low (omega arith)))
          (rw no (omega arith)))
    ]

pub returns-clause-entries : goal.returns-clause-entries
returns-clause-entries g c =
    let t = c.self.inside in
    ap (entries_in g.K.Keyed.class) c.take-pair.ensures.places
    ∙ entries_take _ t.slots c.args.slot.index c.take-pair.result c.self.invariant.laid.apart c.take-pair.ensures.value
    ∙ ap (λ v. remove (entries g.K.Keyed.class v) (g.K.Keyed.class c.take-pair.result.0)) c.self.view_is

pub returns-clause-emptied : goal.returns-clause-emptied
returns-clause-emptied g c = λ has.
    let t = c.self.inside in let i = c.self.invariant in let at = c.args.slot.index in let there = c.take-pair.ensures.value in
    let within = taken_within _ _ t.slots t.ctrl t.len t.used i at _ there in
    let room : 16 * (at / 16) + 16 ≤ length t.ctrl = omega (arith, within, whole (length t.ctrl) i.laid.size.1) in
    let written : slice_set t.ctrl at EMPTY ≡ slice_set c.args.self.now.bytes at EMPTY = ap (λ v. slice_set v.bytes at EMPTY) c.self.view_is in
    elim c.if-emptied.branch [
      | then-emptied w ↦ c.set.ensures ∙ ap (slice_set t.ctrl at) w.set-is ∙ written
      | else-emptied w ↦ absurd (has (subst (λ v. NoEmpty v.bytes (at / 16)) c.self.view_is (λ l lt e.
          no_lane c.match_empty.result (λ some. true≢false (sym (c.any-emptied.ensures.1 some) ∙ w.if-emptied.false)) l
          (omega (arith, lt, lane_count t.ctrl (at / 16) 128 room c.match_empty.result (c.match_empty.ensures ∙ ap (map (λ b. nat_eq b 128)) c.group.ensures)))
          (lane_set t.ctrl (at / 16) 128 room c.match_empty.result (c.match_empty.ensures ∙ ap (map (λ b. nat_eq b 128)) c.group.ensures) l lt e))))
    ]

pub returns-clause-deleted : goal.returns-clause-deleted
returns-clause-deleted g c = λ none.
    let t = c.self.inside in let i = c.self.invariant in let at = c.args.slot.index in let there = c.take-pair.ensures.value in
    let within = taken_within _ _ t.slots t.ctrl t.len t.used i at _ there in
    let room : 16 * (at / 16) + 16 ≤ length t.ctrl = omega (arith, within, whole (length t.ctrl) i.laid.size.1) in
    let written : slice_set t.ctrl at DELETED ≡ slice_set c.args.self.now.bytes at DELETED = ap (λ v. slice_set v.bytes at DELETED) c.self.view_is in
    elim c.if-emptied.branch [
      | then-emptied w ↦
          let l = some_lane c.match_empty.result (c.any-emptied.ensures.0 w.if-emptied.true) in
          let e = lane_has t.ctrl (at / 16) 128 room c.match_empty.result (c.match_empty.ensures ∙ ap (map (λ b. nat_eq b 128)) c.group.ensures) l.0 l.2 in
          absurd (subst (λ v. NoEmpty v.bytes (at / 16)) (sym c.self.view_is) none l.0 e.0 e.1)
      | else-emptied w ↦ c.set.ensures ∙ ap (slice_set t.ctrl at) w.set-is ∙ written
    ]

pub set-requires-clause-in_range : goal.set-requires-clause-in_range
set-requires-clause-in_range g c = grind (arith, common_steps)

pub group-requires : goal.group-requires
group-requires g c = grind (arith, common_steps)
