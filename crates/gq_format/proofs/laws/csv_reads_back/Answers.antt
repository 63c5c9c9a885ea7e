use Rattle.gq_format.proofs.CsvLemmas.{csv_back}
use Rattle.gq_format.proofs.laws.csv_reads_back.Goals as goal

pub returns : goal.returns
returns c = csv_back
