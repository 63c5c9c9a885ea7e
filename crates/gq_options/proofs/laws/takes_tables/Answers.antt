use Rattle.gq_options.proofs.TableLemmas.{tables-worked, takes-tables}
use Rattle.gq_options.proofs.laws.takes_tables.Goals as goal

pub returns : goal.returns
returns c = record { vary = takes-tables; worked = tables-worked }
