use Rattle.gq_record.proofs.RecordLemmas.{determines_row}
use Rattle.gq_record.proofs.laws.determines_row.Goals as goal

pub returns : goal.returns
returns c = determines_row
