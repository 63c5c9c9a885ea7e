use Rattle.std.proofs.Common.{◌≡◌, ◌⊎◌, ◌∙◌, sym, ap, subst, arith}
use Rattle.std.specs.Prelude.{Err}
use Rattle.std.proofs.lemmas.Grind.{common_steps}
use Rattle.gq_row.specs.Fitting.{stored_in}
use Rattle.gq_row.specs.Schemas.{PlainSchema}
use Rattle.gq_reply.specs.declared.refusal.Refusal.TheVariants.{Memory}
use Rattle.gq_reply.specs.declared.refusal.Refused.{Refused}
use Rattle.gq_reply.specs.Refusals.{unnumbered}
use Rattle.gq_table.specs.Refusing.{WhyNotPut}
use Rattle.gq_engine.specs.Refusing.{put_within}
use Rattle.gq_engine.proofs.TakenLemmas.{put-refused}
use Rattle.gq_engine.proofs.catalog.put_row.Goals as goal

pub returns-in-Ok-clause-takes : goal.returns-in-Ok-clause-takes
returns-in-Ok-clause-takes g c = grind (arith, common_steps)

pub returns-in-Err-clause-takes : goal.returns-in-Err-clause-takes
returns-in-Err-clause-takes g c =
    let bounds = c.args.limits.now.bounds in
    let table = c.args.table.now in
    let row = stored_in table.schema.columns c.args.row in
    let stored : c.store-row.result ≡ row = c.store-row.ensures ∙ ap (λ (h : PlainSchema). stored_in h.columns c.args.row) c.schema.ensures in
    let told = put-refused bounds table row c.in-Err.why (subst (λ r. WhyNotPut bounds table r c.in-Err.why) stored c.in-Err.ensures.refused) in
    (c.in-Err.ensures.unchanged, subst (λ (why : Refused). (why ≡ unnumbered Memory) ⊎ (put_within bounds table row ≡ Err why)) (sym c.refused_by_table.ensures) told)
