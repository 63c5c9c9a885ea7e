use Rattle.std.proofs.Common.{length, take, ap, refl, ◌∙◌, arith}
use Rattle.std.proofs.lemmas.List.{take_at}
use Rattle.std.proofs.lemmas.Grind.{common_steps}
use Rattle.gq_record.specs.Records.{record_of}
use Rattle.gq_spill.proofs.run_tail.RunTail.use_row.Goals as goal

pub returns-in-Ok-None-clause-sound : goal.returns-in-Ok-None-clause-sound
returns-in-Ok-None-clause-sound c = λ damaged row behind fits e.
    let none = rw c.in-Ok-None.field-0-is at c.in-Ok-None.ensures.none in
    let n = length (record_of row) in
    none row n fits (ap (take n) (c.as_slice.ensures ∙ e) ∙ take_at (record_of row) behind n refl)

pub returns-in-Ok-Some-clause-within : goal.returns-in-Ok-Some-clause-within
returns-in-Ok-Some-clause-within c = grind (arith, common_steps)

pub returns-in-Ok-Some-clause-row : goal.returns-in-Ok-Some-clause-row
returns-in-Ok-Some-clause-row c = grind (arith, common_steps)
