use Rattle.gq_table.proofs.RowStoreLemmas.{none_along}
use Rattle.gq_table.proofs.row_store.RowStore.new.Goals as goal

pub returns : goal.returns
returns c = none_along 0 c.new.result.items
