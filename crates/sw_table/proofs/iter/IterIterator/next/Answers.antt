use Rattle.std.proofs.Common.{◌∷◌, length, drop, sym, ap, ◌∙◌, arith}
use Rattle.sw_table.specs.View.{entry_at}
use Rattle.sw_table.specs.Walks.{filled}
use Rattle.sw_table.proofs.Filled.{filled_on, none_filled}
use Rattle.sw_table.proofs.Found.{pair_of}
use Rattle.sw_table.proofs.iter.IterIterator.next.Goals as goal

pub returns-in_err-slot-clause-steps : goal.returns-in_err-slot-clause-steps
returns-in_err-slot-clause-steps g c =
    let ps = c.self.inside.table.now.places in
    let none = none_filled ps c.self.inside.walk.from c.in_err-slot.ensures.none in
    rw c.from_residual.ensures (sym c.self.view_is ∙ none, ap (λ n. filled (drop n ps)) c.in_err-slot.ensures.stays ∙ none)

pub overflow_sub-self : goal.overflow_sub-self
overflow_sub-self g c =
    let i = c.in_ok-slot.slot.index in
    let ps = c.self.inside.table.now.places in
    let full = c.in_ok-slot.ensures.full in
    let p = pair_of (entry_at c.self.inside.table.now i) full.2 in
    let e = ap length (filled_on ps c.self.inside.walk.from i p.0 full.0 c.in_ok-slot.ensures.first p.1) in
    let left = c.self.invariant.1 in
    omega (arith, e, left)

pub invariant_of-self-2 : goal.invariant_of-self-2
invariant_of-self-2 g c =
    let i = c.in_ok-slot.slot.index in
    let ps = c.self.inside.table.now.places in
    let e = ap length (filled_on ps c.self.inside.walk.from i (c.at.result.0.now, c.at.result.1.now) c.in_ok-slot.ensures.full.0 c.in_ok-slot.ensures.first c.at.ensures) in
    let left = c.self.invariant.1 in
    let moved = ap (λ n. length (filled (drop n ps))) c.in_ok-slot.ensures.moved in
    (c.in_ok-slot.ensures.walking, omega (arith, e, left, moved))

pub returns-clause-steps : goal.returns-clause-steps
returns-clause-steps g c =
    let i = c.in_ok-slot.slot.index in
    let ps = c.self.inside.table.now.places in
    let x : g.row.K.Denot × g.row.V.Denot = (c.at.result.0.now, c.at.result.1.now) in
    sym c.self.view_is ∙ filled_on ps c.self.inside.walk.from i x c.in_ok-slot.ensures.full.0 c.in_ok-slot.ensures.first c.at.ensures
    ∙ ap (λ n. x ∷ filled (drop n ps)) (sym c.in_ok-slot.ensures.moved)

pub returns-clause-goes : goal.returns-clause-goes
returns-clause-goes g c =
    let i = c.in_ok-slot.slot.index in
    let ps = c.self.inside.table.now.places in
    let x : g.row.K.Denot × g.row.V.Denot = (c.at.result.0.now, c.at.result.1.now) in
    let split = sym c.self.view_is ∙ filled_on ps c.self.inside.walk.from i x c.in_ok-slot.ensures.full.0 c.in_ok-slot.ensures.first c.at.ensures
    ∙ ap (λ n. x ∷ filled (drop n ps)) (sym c.in_ok-slot.ensures.moved) in
    record { on = λ h. (tt, tt, omega (arith, ap length split)); keeps = tt; rests = λ h. tt }
