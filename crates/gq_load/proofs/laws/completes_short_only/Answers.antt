use Rattle.csv.specs.Reading.{records, default_config, strip_bom}
use Rattle.gq_load.proofs.Completing.{even_same}
use Rattle.gq_load.proofs.laws.completes_short_only.Goals as goal

pub returns : goal.returns
returns c = λ schema bounds bytes even. even_same schema bounds (records default_config (strip_bom bytes)) even
