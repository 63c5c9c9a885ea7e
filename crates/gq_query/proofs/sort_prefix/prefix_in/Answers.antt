use Rattle.gq_cells.specs.Cells.{value_of}
use Rattle.gq_query.proofs.SortPrefixLemmas.{folded_pair}
use Rattle.gq_query.proofs.sort_prefix.prefix_in.Goals as goal

pub returns : goal.returns
returns c = folded_pair (value_of c.column_in.result) (value_of c.column_in-2.result) _ _ c.pair_prefix-2.result c.column_in.ensures c.column_in-2.ensures c.pair_prefix-2.ensures
