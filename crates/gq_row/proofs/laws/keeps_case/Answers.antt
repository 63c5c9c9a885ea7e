use Rattle.gq_row.proofs.FoldLemmas.{key_plain, same_plain, values_plain, keys_plain}
use Rattle.gq_row.proofs.laws.keeps_case.Goals as goal

pub returns : goal.returns
returns c = record { key = key_plain; same = same_plain; values = values_plain; keys = keys_plain }
