use Rattle.std.proofs.Common.{subst}
use Rattle.std.specs.Prelude.{IfSome}
use Rattle.std.proofs.lemmas.Result.{IfOk-weaker}
use Rattle.gq_load.specs.Answers.{Gives}
use Rattle.gq_load.specs.declared.short_records.Short.TheVariants.{Refused}
use Rattle.gq_load.proofs.Fits.{loaded_fit}
use Rattle.gq_load.proofs.Onward.{given}
use Rattle.gq_load.proofs.payload.load_rows.Goals as goal

pub returns-clause-fit : goal.returns-clause-fit
returns-clause-fit c =
    let loads = subst (λ o. IfSome o (λ read. Gives (λ rows. rows) c.rows_of.result read)) c.in-Ok.ensures.rows c.rows_of.ensures in
    IfOk-weaker c.rows_of.result _ _ (loaded_fit Refused c.args.schema.now c.args.limits.now.bounds c.args.bytes.now) (given (λ rows. rows) c.rows_of.result _ loads)
