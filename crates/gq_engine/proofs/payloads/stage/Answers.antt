use Rattle.std.proofs.Common.{◌≡◌, Some, ap, subst}
use Rattle.std.specs.Prelude.{IfSome, option_map}
use Rattle.gq_row.specs.Schemas.{PlainSchema}
use Rattle.gq_row.specs.Tables.{PlainTable}
use Rattle.gq_load.specs.Payloads.{load}
use Rattle.gq_engine.specs.Loading.{refused_by}
use Rattle.gq_engine.specs.Staging.{HasStaged}
use Rattle.gq_engine.proofs.StagingLemmas.{staged_of, told_of}
use Rattle.gq_engine.proofs.payloads.stage.Goals as goal

pub returns-in-Ok-stage_rows-clause-staged : goal.returns-in-Ok-stage_rows-clause-staged
returns-in-Ok-stage_rows-clause-staged g c =
    let bounds = c.args.limits.now.bounds in
    let text = g.R.Read.remaining c.args.text in
    let all = c.in-Ok-new.reader.rows in
    let rows = subst (λ (k : PlainSchema). IfSome text (λ bytes. all ≡ Some (load c.args.short k bounds bytes))) c.schema.ensures c.in-Ok-new.ensures.rows in
    let own = subst (λ (k : PlainSchema). HasStaged (option_map refused_by all) k c.stage_rows.new.staged c.in-Ok-stage_rows.count) (ap (λ (t : PlainTable). t.schema) c.in-Ok.ensures) c.in-Ok-stage_rows.ensures.staged in
    staged_of c.args.short bounds c.args.table.now.schema text all c.stage_rows.new.staged c.in-Ok-stage_rows.count rows own

pub returns-in-Err-stage_rows-clause-fault : goal.returns-in-Err-stage_rows-clause-fault
returns-in-Err-stage_rows-clause-fault g c =
    let bounds = c.args.limits.now.bounds in
    let text = g.R.Read.remaining c.args.text in
    let all = c.in-Ok-new.reader.rows in
    let rows = subst (λ (k : PlainSchema). IfSome text (λ bytes. all ≡ Some (load c.args.short k bounds bytes))) c.schema.ensures c.in-Ok-new.ensures.rows in
    told_of c.args.short bounds c.args.table.now.schema text all c.in-Err-stage_rows.fault rows c.in-Err-stage_rows.ensures.fault
