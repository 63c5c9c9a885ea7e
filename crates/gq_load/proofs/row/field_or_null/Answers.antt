use Rattle.std.proofs.Common.{◌∙◌, ap, None, Some, List, ℕ, Option}
use Rattle.gq_load.specs.Fields.{null_field}
use Rattle.gq_load.proofs.Places.{field_or}
use Rattle.gq_load.proofs.row.field_or_null.Goals as goal

pub returns-in-Some : goal.returns-in-Some
returns-in-Some c = ap (λ (o : Option (List ℕ)). elim o [ None ↦ null_field | Some f ↦ f ]) c.in-Some.ensures.value ∙ field_or c.args.byte_record.now c.args.i null_field

pub returns-in-None : goal.returns-in-None
returns-in-None c = ap (λ (o : Option (List ℕ)). elim o [ None ↦ null_field | Some f ↦ f ]) c.in-None.ensures.value ∙ field_or c.args.byte_record.now c.args.i null_field
