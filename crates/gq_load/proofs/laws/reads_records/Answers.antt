use Rattle.gq_load.proofs.EachRow.{each, first, many}
use Rattle.gq_load.proofs.laws.reads_records.Goals as goal

pub returns : goal.returns
returns c = record { many = many; each = each; first = first }
