use Rattle.gq_row.proofs.FittingLemmas.{unequal_lengths}
use Rattle.gq_row.proofs.schema.fit_columns.Goals as goal

pub returns-then-columns-row : goal.returns-then-columns-row
returns-then-columns-row c = unequal_lengths c.args.columns.now c.args.row.now c.if-columns-row.true
