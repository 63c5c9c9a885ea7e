use Rattle.gq_format.proofs.DistinctNames.{each_named, names_differ, names_kept}
use Rattle.gq_format.proofs.laws.names_columns.Goals as goal

pub returns : goal.returns
returns c = record { each = each_named; differ = names_differ; kept = names_kept }
