use Rattle.std.proofs.Common.{◌≡◌, ◌<◌, ◌++◌, [], ◌∷◌, List, length, take, ap, ◌∙◌, arith}
use Rattle.std.proofs.lemmas.List.{length-set, take_more_set}
use Rattle.std.proofs.lemmas.Grind.{common_steps}
use Rattle.gq_row.specs.declared.value.Value.{Value}
use Rattle.gq_record.proofs.RecordLemmas.{value_shortens, takes_one, no_row}
use Rattle.gq_record.proofs.decoding.take_body.Goals as goal
use Rattle.gq_record.proofs.decoding.take_body.Goals.{then-count-len+in_ok-push, else-count-len}

pub returns-in_default-clause-none : goal.returns-in_default-clause-none
returns-in_default-clause-none c = λ _.
    let some : 0 < length c.loop-rest.rest.now = grind arith in
    let none = rw c.in_default.is at c.in_ok-behind.ensures.none in
    no_row c.args.bytes.now c.loop-rest.rest.now (take c.loop-rest.count c.loop-rest.cells.items) c.loop-rest.invariant.begins c.loop-rest.invariant.fit some none

pub loop-rest-smaller : goal.loop-rest-smaller
loop-rest-smaller c =
    let found = rw c.in-Some.is at c.in_ok-behind.ensures.found in
    value_shortens c.take_one.new.over c.loop-rest.rest.now c.in-Some.behind.now found.0

pub loop-rest-preserved : goal.loop-rest-preserved
loop-rest-preserved c =
    let before = c.loop-rest.cells.items in
    let now = c.if-count-len.cells.items in
    let n = c.loop-rest.count in
    let value = c.take_one.new.over in
    let place : (n < length now) × (take n now ≡ take n before) =
    elim c.if-count-len.branch [ then-count-len+in_ok-push w ↦ grind (arith, common_steps) | else-count-len w ↦ grind (arith, common_steps) ] in
    let found = rw c.in-Some.is at c.in_ok-behind.ensures.found in
    let pushed = take_more_set now n value place.0 ∙ ap (λ (l : List Value). l ++ value ∷ []) place.1 in
    let taken = takes_one c.args.bytes.now c.loop-rest.rest.now c.in-Some.behind.now (take n before) _ value c.loop-rest.invariant.begins c.loop-rest.invariant.fit found.0 found.1 pushed in
    record { within = omega (arith, place.0, length-set now n value); begins = taken.0; fit = taken.1 }
