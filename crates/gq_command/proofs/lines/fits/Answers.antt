use Rattle.std.proofs.Common.{◌∙◌, sym, arith}
use Rattle.std.proofs.lemmas.Grind.{common_steps}
use Rattle.gq_command.proofs.Within.{create_fits, upsert_fits, delete_fits, group_fits, distinct_fits}
use Rattle.gq_command.proofs.lines.fits.Goals as goal

pub returns-then-names_fit : goal.returns-then-names_fit
returns-then-names_fit c = grind (arith, common_steps, create_fits)

pub returns-else-names_fit : goal.returns-else-names_fit
returns-else-names_fit c = grind (arith, common_steps, create_fits)

pub returns-in-Upsert : goal.returns-in-Upsert
returns-in-Upsert c = rw c.in-Upsert.is (c.row_fits.ensures ∙ sym (upsert_fits c.args.bounds.now c.in-Upsert.table c.in-Upsert.values))

pub returns-in-Delete : goal.returns-in-Delete
returns-in-Delete c = rw c.in-Delete.is (c.row_fits-in-Delete.ensures ∙ sym (delete_fits c.args.bounds.now c.in-Delete.table c.in-Delete.values))

pub returns-then-groups_fit : goal.returns-then-groups_fit
returns-then-groups_fit c = grind (arith, common_steps, group_fits)

pub returns-else-groups_fit : goal.returns-else-groups_fit
returns-else-groups_fit c = grind (arith, common_steps, group_fits)

pub returns-in-Distinct : goal.returns-in-Distinct
returns-in-Distinct c = rw c.in-Distinct.is (c.distinct_fits.ensures ∙ sym (distinct_fits c.args.bounds.now c.in-Distinct.table c.in-Distinct.on c.in-Distinct.tests))
