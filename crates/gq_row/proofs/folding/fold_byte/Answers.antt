use Rattle.std.proofs.Common.{arith}
use Rattle.gq_row.proofs.LaneLemmas.{fold_in_table}
use Rattle.gq_row.proofs.folding.fold_byte.Goals as goal

pub returns : goal.returns
returns c = fold_in_table c.args.byte (omega arith)
