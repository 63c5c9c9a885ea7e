use Rattle.std.proofs.Common.{◌≡◌, ◌<◌, ◌+◌, refl, sym, subst, ◌∙◌, arith}
use Rattle.std.proofs.lemmas.Grind.{common_steps}
use Rattle.gq_spill.specs.Reading.{Reading, Left}
use Rattle.gq_spill.proofs.ReadingLemmas.{took_row, right_width}
use Rattle.gq_spill.proofs.run_reader.RunReader.take_row.Goals as goal

pub returns-then-len-self-clause-sound : goal.returns-then-len-self-clause-sound
returns-then-len-self-clause-sound g c = λ honest damaged rows left.
    let own = c.self.inside in
    let start : Reading = record { tail = own.tail; records = own.records; columns = own.columns; given = own.given; refused = own.refused } in
    let next : Reading = record { tail = c.take.new.self; records = own.records; columns = own.columns; given = own.given; refused = own.refused } in
    let is : start ≡ c.args.self.now = c.self.view_is in
    let more : start.given < start.records = subst (λ (r : Reading). r.given < r.records) (sym is) c.requires.more in
    let width = right_width start next (g.S.RunStore.runs c.args.store.now) (g.S.RunStore.runs c.take.new.store) rows c.take.new.row more (subst (λ (r : Reading). Left r (g.S.RunStore.runs c.args.store.now) rows) (sym is) left) c.in-Ok.ensures.storable (c.in-Ok.ensures.row honest) in
    c.if-len-self.true (c.len.ensures ∙ width)

pub returns-else-len-self-clause-row : goal.returns-else-len-self-clause-row
returns-else-len-self-clause-row g c = λ honest rows left.
    let own = c.self.inside in
    let start : Reading = record { tail = own.tail; records = own.records; columns = own.columns; given = own.given; refused = own.refused } in
    let next : Reading = record { tail = c.take.new.self; records = own.records; columns = own.columns; given = own.given + 1; refused = own.refused } in
    let is : start ≡ c.args.self.now = c.self.view_is in
    let more : start.given < start.records = subst (λ (r : Reading). r.given < r.records) (sym is) c.requires.more in
    took_row start next (g.S.RunStore.runs c.args.store.now) (g.S.RunStore.runs c.take.new.store) rows c.take.new.row more (subst (λ (r : Reading). Left r (g.S.RunStore.runs c.args.store.now) rows) (sym is) left) c.in-Ok.ensures.storable (c.in-Ok.ensures.row honest) refl refl refl refl

pub returns-in-Err-clause-sound : goal.returns-in-Err-clause-sound
returns-in-Err-clause-sound g c = grind (arith, common_steps)
