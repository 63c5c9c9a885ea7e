use Rattle.std.proofs.Common.{◌∙◌, ap, None, Some, [], List, ℕ, Option}
use Rattle.gq_infer.proofs.HeaderLemmas.{field_or}
use Rattle.gq_infer.proofs.header.field_of.Goals as goal

pub returns-in-Some : goal.returns-in-Some
returns-in-Some c = ap (λ (o : Option (List ℕ)). elim o [ None ↦ [] | Some f ↦ f ]) c.in-Some.ensures.value ∙ field_or c.args.record.now c.args.i

pub returns-in-None : goal.returns-in-None
returns-in-None c = ap (λ (o : Option (List ℕ)). elim o [ None ↦ [] | Some f ↦ f ]) c.in-None.ensures.value ∙ field_or c.args.record.now c.args.i
